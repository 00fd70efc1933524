-- A plan's value is its table's value.
use Rattle.std.proofs.Common.{◌≡◌, ℕ, zero, suc, ◌+◌, ◌<◌, Bool, true, false, cond, not, ◌&&◌, ◌||◌, List, [], ◌∷◌, ◌++◌, length, sym, refl, ap, ◌∙◌, subst, ap₂, append_assoc, not-suc-le-zero, arith, length-append}
use Rattle.std.proofs.lemmas.Bool.{cond_both}
use Rattle.tables.specs.declared.Variable.{Variable}
use Rattle.tables.specs.PerVariable.{at}
use Rattle.tables.specs.declared.Variable.TheVariants.{V0, V1, V2, V3}
use Rattle.tables.specs.Bits.{inverted}
use Rattle.tables.specs.Settings.{Setting, get, put}
use Rattle.tables.specs.Tables.{value, cofactor, depends_on, support_size}
use Rattle.tables.proofs.Laws.{value-cofactor, value-complement, value_true, value_false, cofactor_lt}
use Rattle.tables.proofs.Support.{ignores, support_falls}
use Rattle.classes.specs.declared.Ownership.{Ownership}
use Rattle.rules.specs.declared.Gate.{Gate}
use Rattle.rules.specs.declared.Gate.TheVariants.{And, Or}
use Rattle.rules.specs.declared.Rule.{Rule}
use Rattle.rules.specs.declared.Rule.TheVariants.{Constant, Single, OneLine, Top, Xor, Shannon}
use Rattle.rules.specs.Rules.{rule_of}
use Rattle.rules.specs.First.{constant_under, FirstThatFits}
use Rattle.rules.specs.Fits.{Divides}
use Rattle.rules.proofs.Firsts.{rule_first, top_divides, xor_divides, shannon_divides}
use Rattle.plan_lines.specs.declared.Literal.{Literal}
use Rattle.plan_lines.specs.declared.Line.{Line}
use Rattle.tables.specs.declared.per_variable.PerVariable.{PerVariable}
use Rattle.plan_lines.specs.Lines.{constant_false, nth, invert_if, and_of, or_of, xor_of, used, whole_of, ReadsBefore, literal_value, line_value, answers, standing}
use Rattle.plan_lines.proofs.Answering.{NoLine, answers-append, answers-length, literal_keep, stands-value, invert_if-value}
use Rattle.plan_lines.proofs.Answering.{and-value, or-value, xor_value, last_value}
use Rattle.plans.specs.Plans.{Written, one_more, either, top_of, by_rule, write}
use Rattle.plans.proofs.Reading.{ReadsParts, input_before, part_reads, write_reads}

-- ---- a table by its cofactors

put_same : (x : Setting) (v : Variable) (t : Bool) → get x v ≡ t → put x v t ≡ x
put_same x V0 t e = ap (put x V0) (sym e)
put_same x V1 t e = ap (put x V1) (sym e)
put_same x V2 t e = ap (put x V2) (sym e)
put_same x V3 t e = ap (put x V3) (sym e)

at-cofactor : (h : ℕ) (v : Variable) (x : Setting) (t : Bool) → get x v ≡ t → value h x ≡ value (cofactor h v t) x
at-cofactor h v x t e = sym (value-cofactor h v t x ∙ ap (value h) (put_same x v t e))

-- the table's value from those of its cofactors, where the variable's value is given
by_cofactors_lem : (h : ℕ) (v : Variable) (x : Setting) (t : Bool) → get x v ≡ t → value h x ≡ cond t (value (cofactor h v true) x) (value (cofactor h v false) x)
by_cofactors_lem h v x true e = at-cofactor h v x true e
by_cofactors_lem h v x false e = at-cofactor h v x false e

shannon : (h : ℕ) (v : Variable) (x : Setting) → value h x ≡ cond (get x v) (value (cofactor h v true) x) (value (cofactor h v false) x)
shannon h v x = by_cofactors_lem h v x (get x v) refl

-- a gate over the variable and a part, where the other cofactor is constant
apply : Gate → Bool → Bool → Bool
apply And p q = p && q
apply Or p q = p || q

against : Gate → Bool → Bool
against And s = not s
against Or s = s

constant_bit : Gate → Bool
constant_bit And = false
constant_bit Or = true

constant_under_lem : (g : Gate) (x : Setting) → value (constant_under g) x ≡ constant_bit g
unfolding constant_bit
constant_under_lem And x = value_false x
constant_under_lem Or x = value_true x

-- high and low are the values of the cofactors, t that of the variable
by_gate : (g : Gate) (s t high low : Bool) → cond (not s) high low ≡ constant_bit g → cond t high low ≡ apply g (inverted (against g s) t) (cond s high low)
unfolding apply against constant_bit
by_gate And true true high low e = refl
by_gate And true false high low e = e
by_gate And false true high low e = e
by_gate And false false high low e = refl
by_gate Or true true high low e = refl
by_gate Or true false high low e = e
by_gate Or false true high low e = e
by_gate Or false false high low e = refl

side : (h : ℕ) (v : Variable) (s : Bool) (x : Setting) → value (cofactor h v s) x ≡ cond s (value (cofactor h v true) x) (value (cofactor h v false) x)
side h v true x = refl
side h v false x = refl

top_line_value : (y : Setting) (vs : List Bool) (g : Gate) (s : Bool) (p q : Literal)
    → line_value y vs (top_of g s p q) ≡ apply g (inverted (against g s) (literal_value y vs p)) (literal_value y vs q)
unfolding apply against
top_line_value y vs And s p q = and-value y vs (invert_if (not s) p) q ∙ ap (λ (b : Bool). b && literal_value y vs q) (invert_if-value y vs (not s) p)
top_line_value y vs Or s p q = or-value y vs (invert_if s p) q ∙ ap (λ (b : Bool). b || literal_value y vs q) (invert_if-value y vs s p)

exclusive-or : (t a b : Bool) → b ≡ not a → cond t a b ≡ inverted t b
exclusive-or true true b e = ap not (sym e)
exclusive-or true false b e = ap not (sym e)
exclusive-or false a b e = refl

as_three : (t b : Bool) → ((t && not b) || (not t && b)) ≡ inverted t b
as_three true true = refl
as_three true false = refl
as_three false true = refl
as_three false false = refl

as_split : (t a b : Bool) → ((t && a) || (not t && b)) ≡ cond t a b
as_split true true b = refl
as_split true false b = refl
as_split false a b = refl

-- ---- three lines

-- two ANDs over literals that read only the lines before, and their OR
either-value : (y : Setting) (vs : List Bool) (ls : List Line) (p q r s : Literal)
    → ReadsBefore (length vs + length ls) r → ReadsBefore (length vs + length ls) s
    → literal_value y (answers y vs (either (length vs) ls (and_of p q) (and_of r s)).lines) (either (length vs) ls (and_of p q) (and_of r s)).result
    ≡ ((literal_value y (answers y vs ls) p && literal_value y (answers y vs ls) q) || (literal_value y (answers y vs ls) r && literal_value y (answers y vs ls) s))
either-value y vs ls p q r s h l =
    let n : ℕ = length vs + length ls in
    let A : List Bool = answers y vs ls in
    let a : length A ≡ n = answers-length y vs ls in
    let one : List Line = ls ++ and_of p q ∷ [] in
    let two : List Line = one ++ and_of r s ∷ [] in
    let B : List Bool = answers y vs one in
    let C : List Bool = answers y vs two in
    let all : ls ++ and_of p q ∷ and_of r s ∷ or_of (nth n) (nth (n + 1)) ∷ [] ≡ two ++ or_of (nth n) (nth (n + 1)) ∷ [] = sym (append_assoc one (and_of r s ∷ []) (or_of (nth n) (nth (n + 1)) ∷ []) ∙ append_assoc ls (and_of p q ∷ []) (and_of r s ∷ or_of (nth n) (nth (n + 1)) ∷ [])) in
    let k : length vs + length one ≡ n + 1 = simp length-append (omega arith) in
    let j : length vs + length two ≡ n + 2 = simp (length-append, length-append) (omega arith) in
    let BA : B ≡ answers y A (and_of p q ∷ []) = answers-append y vs ls (and_of p q ∷ []) in
    let CB : C ≡ answers y B (and_of r s ∷ []) = answers-append y vs one (and_of r s ∷ []) in
    let b : length B ≡ n + 1 = answers-length y vs one ∙ k in
    let first : literal_value y B (nth n) ≡ (literal_value y A p && literal_value y A q) = last_value y vs ls (and_of p q) ∙ and-value y A p q in
    let keep : literal_value y C (nth n) ≡ literal_value y B (nth n) = ap (λ (ws : List Bool). literal_value y ws (nth n)) CB ∙ literal_keep y B (and_of r s ∷ []) (nth n) (omega arith) in
    let at-r : literal_value y B r ≡ literal_value y A r = ap (λ (ws : List Bool). literal_value y ws r) BA ∙ literal_keep y A (and_of p q ∷ []) r (subst (λ (m : ℕ). ReadsBefore m r) (sym a) h) in
    let at-s : literal_value y B s ≡ literal_value y A s = ap (λ (ws : List Bool). literal_value y ws s) BA ∙ literal_keep y A (and_of p q ∷ []) s (subst (λ (m : ℕ). ReadsBefore m s) (sym a) l) in
    let second : literal_value y C (nth (n + 1)) ≡ (literal_value y A r && literal_value y A s) =
    ap (λ (m : ℕ). literal_value y C (nth m)) (sym k) ∙ last_value y vs one (and_of r s) ∙ and-value y B r s ∙ ap₂ ◌&&◌ at-r at-s in
    ap (λ (ks : List Line). literal_value y (answers y vs ks) (nth (n + 2))) all
    ∙ ap (λ (m : ℕ). literal_value y (answers y vs (two ++ or_of (nth n) (nth (n + 1)) ∷ [])) (nth m)) (sym j)
    ∙ last_value y vs two (or_of (nth n) (nth (n + 1)))
    ∙ or-value y C (nth n) (nth (n + 1))
    ∙ ap₂ ◌||◌ (keep ∙ first) second

-- ---- what is written is sound: behind lines with the answers vs it has the value of h

abbrev Sound : Setting → PerVariable Literal → List Bool → Written → ℕ → Type 0
Sound y bs vs w h = literal_value y (answers y vs w.lines) w.result ≡ value h (standing y bs)

abbrev SoundParts : Setting → PerVariable Literal → (ℕ → ℕ → Written) → ℕ → Type 0
SoundParts y bs part h = (g : ℕ) → g < 65536 → support_size g < support_size h → (vs : List Bool) → Sound y bs vs (part (length vs) g) g

constant_value : (b : Bool) → inverted (inverted b false) false ≡ b
constant_value true = refl
constant_value false = refl

-- one line behind a part
line_sound : (y : Setting) (bs : PerVariable Literal) (vs : List Bool) (ls : List Line) (l : Line) (h : ℕ) → line_value y (answers y vs ls) l ≡ value h (standing y bs)
    → Sound y bs vs (one_more (length vs) ls l) h
line_sound y bs vs ls l h e = last_value y vs ls l ∙ e

invert_if-input : (y : Setting) (vs : List Bool) (bs : PerVariable Literal) (v : Variable) → NoLine bs → literal_value y vs (invert_if true (at bs v)) ≡ not (get (standing y bs) v)
invert_if-input y vs bs v n = invert_if-value y vs true (at bs v) ∙ ap not (stands-value y vs bs v n)

-- the table read where it does not depend on a variable
used-value : (y : Setting) (vs : List Bool) (bs : PerVariable Literal) (h : ℕ) → NoLine bs → line_value y vs (whole_of h bs) ≡ value h (standing y bs)
used-value y vs bs h n =
    let x : Setting = standing y bs in
    let each : (v : Variable) → literal_value y vs (used h bs v) ≡ cond (depends_on h v) (get x v) false = λ v. by v (depends_on h v) in
    ap (value h) (λ i. record { a = each V0 i; b = each V1 i; c = each V2 i; d = each V3 i })
    ∙ drop V3 (depends_on h V3) refl (record { a = cond (depends_on h V0) x.a false; b = cond (depends_on h V1) x.b false; c = cond (depends_on h V2) x.c false; d = x.d })
    ∙ drop V2 (depends_on h V2) refl (record { a = cond (depends_on h V0) x.a false; b = cond (depends_on h V1) x.b false; c = x.c; d = x.d })
    ∙ drop V1 (depends_on h V1) refl (record { a = cond (depends_on h V0) x.a false; b = x.b; c = x.c; d = x.d })
    ∙ drop V0 (depends_on h V0) refl x
  where
    by : (v : Variable) (t : Bool) → literal_value y vs (cond t (at bs v) constant_false) ≡ cond t (get (standing y bs) v) false
    by v true = stands-value y vs bs v n
    by v false = refl

    put-get : (x : Setting) (v : Variable) → put x v (get x v) ≡ x
    put-get x V0 = refl
    put-get x V1 = refl
    put-get x V2 = refl
    put-get x V3 = refl

    drop : (v : Variable) (t : Bool) → depends_on h v ≡ t → (x : Setting) → value h (put x v (cond t (get x v) false)) ≡ value h x
    drop v true e x = ap (value h) (put-get x v)
    drop v false e x = ignores h v e x false

-- ---- rule by rule

abbrev RuleSound : Ownership → ℕ → Rule → Type 0
RuleSound own h rule =
    (y : Setting) (bs : PerVariable Literal) → NoLine bs → (part : ℕ → ℕ → Written) → ReadsParts part h → SoundParts y bs part h → (vs : List Bool) → Sound y bs vs (by_rule own bs (length vs) h part rule) h

-- a line over a part
gate_sound : (h : ℕ) (v : Variable) (t : Bool) (line : Literal → Line) (op : Bool → Bool) → Divides h v
    → (y : Setting) (bs : PerVariable Literal) → ((vs : List Bool) (q : Literal) → line_value y vs (line q) ≡ op (literal_value y vs q))
    → op (value (cofactor h v t) (standing y bs)) ≡ value h (standing y bs) → (part : ℕ → ℕ → Written) → SoundParts y bs part h → (vs : List Bool)
    → Sound y bs vs (one_more (length vs) (part (length vs) (cofactor h v t)).lines (line (part (length vs) (cofactor h v t)).result)) h
gate_sound h v t line op d y bs is e part sound vs =
    let w : Written = part (length vs) (cofactor h v t) in
    let p = sound (cofactor h v t) (cofactor_lt h v t) (support_falls h v t d.depends) vs in
    line_sound y bs vs w.lines (line w.result) h (is (answers y vs w.lines) w.result ∙ ap op p ∙ e)

rule_sound : (own : Ownership) (h : ℕ) (rule : Rule) → h < 65536 → FirstThatFits own h rule → RuleSound own h rule
rule_sound own h (Constant b) l f y bs n part reads sound vs = constant_value b ∙ sym (f.fits (standing y bs))
rule_sound own h (Single v i) l f y bs n part reads sound vs = invert_if-value y vs i (at bs v) ∙ ap (inverted i) (stands-value y vs bs v n) ∙ sym (f.fits (standing y bs))
rule_sound own h (OneLine o) l f y bs n part reads sound vs = line_sound y bs vs [] (whole_of h bs) h (used-value y vs bs h n)
rule_sound own h (Top g v s) l f y bs n part reads sound vs =
    let x : Setting = standing y bs in
    let t : Bool = get x v in
    let high : Bool = value (cofactor h v true) x in
    let low : Bool = value (cofactor h v false) x in
    let c : cond (not s) high low ≡ constant_bit g =
    sym (side h v (not s) x) ∙ ap (λ (k : ℕ). value k x) f.fits.1 ∙ constant_under_lem g x in
    gate_sound h v s (top_of g s (at bs v)) (apply g (inverted (against g s) t)) (top_divides own h g v s l f) y bs
    (λ ws q. top_line_value y ws g s (at bs v) q ∙ ap (λ (b : Bool). apply g (inverted (against g s) b) (literal_value y ws q)) (stands-value y ws bs v n))
    (ap (apply g (inverted (against g s) t)) (side h v s x) ∙ sym (shannon h v x ∙ by_gate g s t high low c))
    part sound vs
rule_sound own h (Xor v) l f y bs n part reads sound vs =
    let low : ℕ = cofactor h v false in
    let d : Divides h v = xor_divides own h v l f in
    let w : Written = part (length vs) low in
    let p = sound low (cofactor_lt h v false) (support_falls h v false d.depends) vs in
    let A : List Bool = answers y vs w.lines in
    let x : Setting = standing y bs in
    let t : Bool = get x v in
    let is : value h x ≡ inverted t (value low x) =
    shannon h v x ∙ exclusive-or t (value (cofactor h v true) x) (value low x) (ap (λ (g : ℕ). value g x) f.fits ∙ value-complement (cofactor h v true) x) in
    cond_both own.xor _ _ (λ z. Sound y bs vs z h)
    (λ _. gate_sound h v false (xor_of (at bs v)) (inverted t) d y bs
    (λ ws q. xor_value y ws (at bs v) q ∙ ap (λ (b : Bool). inverted b (literal_value y ws q)) (stands-value y ws bs v n)) (sym is) part sound vs)
    (λ _. either-value y vs w.lines (at bs v) (invert_if true w.result) (invert_if true (at bs v)) w.result
    (input_before (length vs + length w.lines) bs v n) (part_reads part h (length vs) v false d reads).there
    ∙ ap₂ ◌||◌ (ap₂ ◌&&◌ (stands-value y A bs v n) (invert_if-value y A true w.result ∙ ap not p)) (ap₂ ◌&&◌ (invert_if-input y A bs v n) p)
    ∙ as_three t (value low x) ∙ sym is)
rule_sound own h (Shannon v) l f y bs n part reads sound vs =
    let high : ℕ = cofactor h v true in
    let low : ℕ = cofactor h v false in
    let d : Divides h v = shannon_divides own h v l f in
    let w : Written = part (length vs) high in
    let p = sound high (cofactor_lt h v true) (support_falls h v true d.depends) vs in
    let ws : List Bool = answers y vs w.lines in
    let m : ℕ = length vs + length w.lines in
    let there : length ws ≡ m = answers-length y vs w.lines in
    let z : Written = part m low in
    let q : Sound y bs ws z low = subst (λ (k : ℕ). Sound y bs ws (part k low) low) there (sound low (cofactor_lt h v false) (support_falls h v false d.depends) ws) in
    let A : List Bool = answers y vs (w.lines ++ z.lines) in
    let same : A ≡ answers y ws z.lines = answers-append y vs w.lines z.lines in
    let t : Bool = get (standing y bs) v in
    let one : literal_value y A w.result ≡ value high (standing y bs) =
    ap (λ (us : List Bool). literal_value y us w.result) same
    ∙ literal_keep y ws z.lines w.result (subst (λ (k : ℕ). ReadsBefore k w.result) (sym there) (part_reads part h (length vs) v true d reads).there) ∙ p in
    let two : literal_value y A z.result ≡ value low (standing y bs) = ap (λ (us : List Bool). literal_value y us z.result) same ∙ q in
    let long : m + length z.lines ≡ length vs + length (w.lines ++ z.lines) = simp length-append (omega arith) in
    either-value y vs (w.lines ++ z.lines) (at bs v) w.result (invert_if true (at bs v)) z.result
    (input_before (length vs + length (w.lines ++ z.lines)) bs v n)
    (subst (λ (k : ℕ). ReadsBefore k z.result) long (part_reads part h m v false d reads).there)
    ∙ ap₂ ◌||◌ (ap₂ ◌&&◌ (stands-value y A bs v n) one) (ap₂ ◌&&◌ (invert_if-input y A bs v n) two)
    ∙ as_split t (value high (standing y bs)) (value low (standing y bs)) ∙ sym (shannon h v (standing y bs))

-- what is written has the table's value
pub write_sound : (k : ℕ) (own : Ownership) (y : Setting) (bs : PerVariable Literal) → NoLine bs → (h : ℕ) → h < 65536 → support_size h < k → (vs : List Bool) → Sound y bs vs (write k own bs (length vs) h) h
unfolding write
write_sound zero own y bs n h l s vs = absurd (not-suc-le-zero s)
write_sound (suc k) own y bs n h l s vs =
    rule_sound own h (rule_of own h) l (rule_first own h l) y bs n (write k own bs)
    (λ m g b f. write_reads k own bs n m g b (omega arith)) (λ g b f us. write_sound k own y bs n g b (omega arith) us) vs
