-- The rule that is chosen is the first that fits, and the only one that is.
use Rattle.std.proofs.Common.{◌≡◌, ℕ, zero, suc, ◌<◌, ◌≤◌, Bool, true, false, cond, not, ◌&&◌, ◌||◌, eqb, Some, None, Option, sym, refl, ap, ◌∙◌, subst, inl, inr, arith, lit<}
use Rattle.std.proofs.lemmas.Bool.{eqb-true, eqb-false, eq-eqb, ne_eqb, cond_both, cases_lt, cases_order, both_ways, and_parts, and_from, or_right, not-true}
use Rattle.tables.specs.declared.Variable.{Variable}
use Rattle.tables.specs.declared.Variable.TheVariants.{V0, V1, V2, V3}
use Rattle.tables.specs.Bits.{bit, from_bits, inverted}
use Rattle.tables.specs.Settings.{Setting, get, setting, variable_number}
use Rattle.tables.specs.Tables.{value, table_of, cofactor, complement, depends_on, lowest, support_size}
use Rattle.tables.proofs.Laws.{every_setting, value-complement, value-table_of, is_table_of}
use Rattle.tables.proofs.Support.{one_variable}
use Rattle.classes.specs.declared.Ownership.{Ownership}
use Rattle.classes.specs.Owned.{owns}
use Rattle.transforms.specs.Images.{representative}
use Rattle.rules.specs.declared.Gate.{Gate}
use Rattle.rules.specs.declared.Gate.TheVariants.{And, Or}
use Rattle.rules.specs.declared.Owned.{Owned}
use Rattle.rules.specs.declared.Owned.TheVariants.{Every, Majority}
use Rattle.rules.specs.declared.Rule.{Rule}
use Rattle.rules.specs.declared.Rule.TheVariants.{Constant, Single, OneLine, Top, Xor, Shannon}
use Rattle.rules.specs.Rules.{or_else, or_rule, first_over, lowest_where, trivial_rule, top_rule, first_top, xor_in, first_xor, xor_rule, shannon_rule}
use Rattle.rules.specs.Rules.{rule_without_parts, rule_with_parts, rule_of}
use Rattle.rules.specs.Fits.{Divides, Fits}
use Rattle.rules.specs.First.{rule_number, test_number, taken_variable, passed_test, constant_under, Passes, NoneBelow, FirstThatFits}

-- ---- options

-- what holds of both cases of an option, each with its reason
by_option : (P : Option Rule → Type 0) (o : Option Rule) → ((r : Rule) → o ≡ Some r → P (Some r)) → (o ≡ None → P None) → P o
by_option P (Some r) a b = a r refl
by_option P None a b = b refl

or_else_lem : (P : Option Rule → Type 0) (o p : Option Rule) → ((r : Rule) → o ≡ Some r → P (Some r)) → (o ≡ None → P p) → P (or_else o p)
or_else_lem P (Some r) p a b = a r refl
or_else_lem P None p a b = b refl

some_none : {r : Rule} → Some r ≡ None → ⊥
some_none {r} e = let z : ◌≡◌ {A = ℕ} 0 1 = ap count e in omega arith
  where
    count : Option Rule → ℕ
    count (Some r) = 0
    count None = 1

some_same : {r s : Rule} (o : Option Rule) → o ≡ Some r → o ≡ Some s → r ≡ s
some_same o d e = cc

-- ---- variables by their numbers

below_0 : (P : Variable → Type 0) (v : Variable) → variable_number v < 0 → P v
below_0 P v l = let z : ⊥ = omega arith in absurd z

below_1 : (P : Variable → Type 0) → P V0 → (v : Variable) → variable_number v < 1 → P v
below_1 P a V0 l = a
below_1 P a V1 l = let z : ⊥ = omega arith in absurd z
below_1 P a V2 l = let z : ⊥ = omega arith in absurd z
below_1 P a V3 l = let z : ⊥ = omega arith in absurd z

below_2 : (P : Variable → Type 0) → P V0 → P V1 → (v : Variable) → variable_number v < 2 → P v
below_2 P a b V0 l = a
below_2 P a b V1 l = b
below_2 P a b V2 l = let z : ⊥ = omega arith in absurd z
below_2 P a b V3 l = let z : ⊥ = omega arith in absurd z

below_3 : (P : Variable → Type 0) → P V0 → P V1 → P V2 → (v : Variable) → variable_number v < 3 → P v
below_3 P a b c V0 l = a
below_3 P a b c V1 l = b
below_3 P a b c V2 l = c
below_3 P a b c V3 l = let z : ⊥ = omega arith in absurd z

each : (P : Variable → Type 0) → P V0 → P V1 → P V2 → P V3 → (v : Variable) → P v
each P a b c d V0 = a
each P a b c d V1 = b
each P a b c d V2 = c
each P a b c d V3 = d

-- the variable of a number
variable_at : ℕ → Variable
variable_at zero = V0
variable_at (suc zero) = V1
variable_at (suc (suc zero)) = V2
variable_at (suc (suc (suc n))) = V3

at_number : (v : Variable) → variable_at (variable_number v) ≡ v
unfolding variable_at
at_number V0 = refl
at_number V1 = refl
at_number V2 = refl
at_number V3 = refl

same_variable_lem : (v w : Variable) → variable_number v ≡ variable_number w → v ≡ w
same_variable_lem v w e = sym (at_number v) ∙ ap variable_at e ∙ at_number w

-- the first answer over the variables comes from the lowest that has one
abbrev Over : (Variable → Option Rule) → Option Rule → Type 0
Over f (Some r) = (v : Variable) × (f v ≡ Some r) × ((w : Variable) → variable_number w < variable_number v → f w ≡ None)
Over f None = (v : Variable) → f v ≡ None

first_over_lem : (f : Variable → Option Rule) → Over f (first_over f)
first_over_lem f =
    let P : Variable → Type 0 = λ v. f v ≡ None in
    or_else_lem (Over f) (f V0) _ (λ r e. (V0, e, below_0 P)) (λ a.
    or_else_lem (Over f) (f V1) _ (λ r e. (V1, e, below_1 P a)) (λ b.
    or_else_lem (Over f) (f V2) _ (λ r e. (V2, e, below_2 P a b)) (λ c.
    by_option (Over f) (f V3) (λ r e. (V3, e, below_3 P a b c)) (λ d. each P a b c d))))

abbrev Where : (Variable → Bool) → Option Variable → Type 0
Where p (Some v) = (p v ≡ true) × ((w : Variable) → variable_number w < variable_number v → p w ≡ false)
Where p None = (v : Variable) → p v ≡ false

lowest_where_lem : (p : Variable → Bool) → Where p (lowest_where p)
lowest_where_lem p =
    let P : Variable → Type 0 = λ v. p v ≡ false in
    cond_both (p V0) _ _ (Where p) (λ e. (e, below_0 P)) (λ a.
    cond_both (p V1) _ _ (Where p) (λ e. (e, below_1 P a)) (λ b.
    cond_both (p V2) _ _ (Where p) (λ e. (e, below_2 P a b)) (λ c.
    cond_both (p V3) _ _ (Where p) (λ e. (e, below_3 P a b c)) (λ d. each P a b c d))))

-- ---- rule 1: constants and variables

all_false : (x : Setting) → value 0 x ≡ false
unfolding value bit
all_false = every_setting (λ x. value 0 x ≡ false) refl refl refl refl refl refl refl refl refl refl refl refl refl refl refl refl

all_true : (x : Setting) → value 65535 x ≡ true
unfolding value bit
all_true = every_setting (λ x. value 65535 x ≡ true) refl refl refl refl refl refl refl refl refl refl refl refl refl refl refl refl

is_43690 : (x : Setting) → value 43690 x ≡ inverted false (get x V0)
unfolding value bit
is_43690 = every_setting (λ x. value 43690 x ≡ inverted false (get x V0)) refl refl refl refl refl refl refl refl refl refl refl refl refl refl refl refl

is_21845 : (x : Setting) → value 21845 x ≡ inverted true (get x V0)
unfolding value bit
is_21845 = every_setting (λ x. value 21845 x ≡ inverted true (get x V0)) refl refl refl refl refl refl refl refl refl refl refl refl refl refl refl refl

is_52428 : (x : Setting) → value 52428 x ≡ inverted false (get x V1)
unfolding value bit
is_52428 = every_setting (λ x. value 52428 x ≡ inverted false (get x V1)) refl refl refl refl refl refl refl refl refl refl refl refl refl refl refl refl

is_13107 : (x : Setting) → value 13107 x ≡ inverted true (get x V1)
unfolding value bit
is_13107 = every_setting (λ x. value 13107 x ≡ inverted true (get x V1)) refl refl refl refl refl refl refl refl refl refl refl refl refl refl refl refl

is_61680 : (x : Setting) → value 61680 x ≡ inverted false (get x V2)
unfolding value bit
is_61680 = every_setting (λ x. value 61680 x ≡ inverted false (get x V2)) refl refl refl refl refl refl refl refl refl refl refl refl refl refl refl refl

is_3855 : (x : Setting) → value 3855 x ≡ inverted true (get x V2)
unfolding value bit
is_3855 = every_setting (λ x. value 3855 x ≡ inverted true (get x V2)) refl refl refl refl refl refl refl refl refl refl refl refl refl refl refl refl

is_65280 : (x : Setting) → value 65280 x ≡ inverted false (get x V3)
unfolding value bit
is_65280 = every_setting (λ x. value 65280 x ≡ inverted false (get x V3)) refl refl refl refl refl refl refl refl refl refl refl refl refl refl refl refl

is_255 : (x : Setting) → value 255 x ≡ inverted true (get x V3)
unfolding value bit
is_255 = every_setting (λ x. value 255 x ≡ inverted true (get x V3)) refl refl refl refl refl refl refl refl refl refl refl refl refl refl refl refl

-- an answer is by rule 1 and fits, if there is one
abbrev Trivial : Ownership → ℕ → Option Rule → Type 0
Trivial own h (Some r) = (rule_number r ≡ 1) × Passes own h r
Trivial own h None = Unit {0}

trivial_fits : (own : Ownership) (h : ℕ) → Trivial own h (trivial_rule h)
trivial_fits own h =
    cond_both (eqb h 0) _ _ P (λ e. (refl, λ x. at 0 e x ∙ all_false x)) (λ _.
    cond_both (eqb h 65535) _ _ P (λ e. (refl, λ x. at 65535 e x ∙ all_true x)) (λ _.
    cond_both (eqb h 43690) _ _ P (λ e. (refl, λ x. at 43690 e x ∙ is_43690 x)) (λ _.
    cond_both (eqb h 21845) _ _ P (λ e. (refl, λ x. at 21845 e x ∙ is_21845 x)) (λ _.
    cond_both (eqb h 52428) _ _ P (λ e. (refl, λ x. at 52428 e x ∙ is_52428 x)) (λ _.
    cond_both (eqb h 13107) _ _ P (λ e. (refl, λ x. at 13107 e x ∙ is_13107 x)) (λ _.
    cond_both (eqb h 61680) _ _ P (λ e. (refl, λ x. at 61680 e x ∙ is_61680 x)) (λ _.
    cond_both (eqb h 3855) _ _ P (λ e. (refl, λ x. at 3855 e x ∙ is_3855 x)) (λ _.
    cond_both (eqb h 65280) _ _ P (λ e. (refl, λ x. at 65280 e x ∙ is_65280 x)) (λ _.
    cond_both (eqb h 255) _ _ P (λ e. (refl, λ x. at 255 e x ∙ is_255 x)) (λ _. tt))))))))))
  where
    P : Option Rule → Type 0
    P = Trivial own h

    at : (g : ℕ) → eqb h g ≡ true → (x : Setting) → value h x ≡ value g x
    at g e x = ap (λ (k : ℕ). value k x) (eqb-true h g e)

-- whatever fits by rule 1 is what the chain answers
trivial_only : (own : Ownership) (h : ℕ) (r : Rule) → h < 65536 → rule_number r ≡ 1 → Passes own h r → trivial_rule h ≡ Some r
unfolding table_of from_bits
trivial_only own h (Constant false) l n f = ap trivial_rule (is_table_of h (λ x. false) l f)
trivial_only own h (Constant true) l n f = ap trivial_rule (is_table_of h (λ x. true) l f)
trivial_only own h (Single V0 false) l n f = ap trivial_rule (is_table_of h (λ x. inverted false (get x V0)) l f)
trivial_only own h (Single V0 true) l n f = ap trivial_rule (is_table_of h (λ x. inverted true (get x V0)) l f)
trivial_only own h (Single V1 false) l n f = ap trivial_rule (is_table_of h (λ x. inverted false (get x V1)) l f)
trivial_only own h (Single V1 true) l n f = ap trivial_rule (is_table_of h (λ x. inverted true (get x V1)) l f)
trivial_only own h (Single V2 false) l n f = ap trivial_rule (is_table_of h (λ x. inverted false (get x V2)) l f)
trivial_only own h (Single V2 true) l n f = ap trivial_rule (is_table_of h (λ x. inverted true (get x V2)) l f)
trivial_only own h (Single V3 false) l n f = ap trivial_rule (is_table_of h (λ x. inverted false (get x V3)) l f)
trivial_only own h (Single V3 true) l n f = ap trivial_rule (is_table_of h (λ x. inverted true (get x V3)) l f)
trivial_only own h (OneLine Every) l n f = let z : ⊥ = omega arith in absurd z
trivial_only own h (OneLine Majority) l n f = let z : ⊥ = omega arith in absurd z
trivial_only own h (Top g v s) l n f = let z : ⊥ = omega arith in absurd z
trivial_only own h (Xor v) l n f = let z : ⊥ = omega arith in absurd z
trivial_only own h (Shannon v) l n f = let z : ⊥ = omega arith in absurd z

-- a table of one variable or none is written by rule 1
small_fits : (own : Ownership) (h : ℕ) → h < 65536 → support_size h < 2 → (r : Rule) × (rule_number r ≡ 1) × Passes own h r
small_fits own h l s = let o = one_variable h l (omega arith) in by o.of o.low o.high (λ x. ap (λ (g : ℕ). value g x) o.is ∙ value-table_of _ x)
  where
    up : (b : Bool) → cond b true false ≡ b
    up true = refl
    up false = refl

    down : (b : Bool) → cond b false true ≡ not b
    down true = refl
    down false = refl

    same : (b t : Bool) → cond b t t ≡ t
    same true t = refl
    same false t = refl

    by : (v : Variable) (low high : Bool) → ((x : Setting) → value h x ≡ cond (get x v) high low) → (r : Rule) × (rule_number r ≡ 1) × Passes own h r
    by v false false e = (Constant false, refl, λ x. e x ∙ same (get x v) false)
    by v false true e = (Single v false, refl, λ x. e x ∙ up (get x v))
    by v true false e = (Single v true, refl, λ x. e x ∙ down (get x v))
    by v true true e = (Constant true, refl, λ x. e x ∙ same (get x v) true)

two_at-least : (own : Ownership) (h : ℕ) → h < 65536 → NoneBelow 2 own h → 2 ≤ support_size h
two_at-least own h l n = elim (cases_lt (support_size h) 2) [ inl s ↦ few s | inr s ↦ s ]
  where
    few : support_size h < 2 → 2 ≤ support_size h
    few s = let r = small_fits own h l s in absurd (n.none r.0 (let e = r.1 in omega arith) r.2)

-- ---- none of a number fits

none_next : (own : Ownership) (h n : ℕ) → NoneBelow n own h → ((s : Rule) → rule_number s ≡ n → Passes own h s → ⊥) → NoneBelow (suc n) own h
none_next own h n a b = record { none = λ s l f. elim (cases_lt (rule_number s) n) [ inl k ↦ a.none s k f | inr k ↦ b s (omega arith) f ] }

one_up : (r : Rule) → 1 ≤ rule_number r
one_up (Constant b) = omega arith
one_up (Single v i) = omega arith
one_up (OneLine Every) = omega arith
one_up (OneLine Majority) = omega arith
one_up (Top g v s) = omega arith
one_up (Xor v) = omega arith
one_up (Shannon v) = omega arith

none_1 : (own : Ownership) (h : ℕ) → NoneBelow 1 own h
none_1 own h = record { none = λ s l f. (let u = one_up s in omega arith) }

none_2 : (own : Ownership) (h : ℕ) → h < 65536 → trivial_rule h ≡ None → NoneBelow 2 own h
none_2 own h l e = none_next own h 1 (none_1 own h) (λ s n f. some_none (sym (trivial_only own h s l n f) ∙ e))

no_every : (own : Ownership) (h : ℕ) → own.every ≡ false → (s : Rule) → rule_number s ≡ 2 → Passes own h s → ⊥
no_every own h e (Constant b) n f = omega arith
no_every own h e (Single v i) n f = omega arith
no_every own h e (OneLine Every) n f = both_ways own.every e f
no_every own h e (OneLine Majority) n f = omega arith
no_every own h e (Top g v s) n f = omega arith
no_every own h e (Xor v) n f = omega arith
no_every own h e (Shannon v) n f = omega arith

no_majority : (own : Ownership) (h : ℕ) → (own.majority && eqb (representative h) 831) ≡ false → (s : Rule) → rule_number s ≡ 3 → Passes own h s → ⊥
no_majority own h e (Constant b) n f = omega arith
no_majority own h e (Single v i) n f = omega arith
no_majority own h e (OneLine Every) n f = omega arith
no_majority own h e (OneLine Majority) n f = both_ways _ e (and_from own.majority (eqb (representative h) 831) f.0 (eq-eqb (representative h) 831 f.1))
no_majority own h e (Top g v s) n f = omega arith
no_majority own h e (Xor v) n f = omega arith
no_majority own h e (Shannon v) n f = omega arith

no_top : (own : Ownership) (h : ℕ) → ((v : Variable) (g : Gate) (s : Bool) → Passes own h (Top g v s) → ⊥) → (s : Rule) → rule_number s ≡ 4 → Passes own h s → ⊥
no_top own h e (Constant b) n f = omega arith
no_top own h e (Single v i) n f = omega arith
no_top own h e (OneLine Every) n f = omega arith
no_top own h e (OneLine Majority) n f = omega arith
no_top own h e (Top g v s) n f = e v g s f
no_top own h e (Xor v) n f = omega arith
no_top own h e (Shannon v) n f = omega arith

no_xor : (own : Ownership) (h : ℕ) → ((v : Variable) → Passes own h (Xor v) → ⊥) → (s : Rule) → rule_number s ≡ 5 → Passes own h s → ⊥
no_xor own h e (Constant b) n f = omega arith
no_xor own h e (Single v i) n f = omega arith
no_xor own h e (OneLine Every) n f = omega arith
no_xor own h e (OneLine Majority) n f = omega arith
no_xor own h e (Top g v s) n f = omega arith
no_xor own h e (Xor v) n f = e v f
no_xor own h e (Shannon v) n f = omega arith

-- ---- rules that choose no variable

alone : (own : Ownership) (h : ℕ) (r : Rule) → taken_variable r ≡ 0 → passed_test r ≡ 0 → Passes own h r → NoneBelow (rule_number r) own h → FirstThatFits own h r
alone own h r v t f n = record { fits = f; number = n; variable = λ s e l _. omega arith; test = λ s e d l _. omega arith }

trivial_alone : (r : Rule) → rule_number r ≡ 1 → (taken_variable r ≡ 0) × (passed_test r ≡ 0)
trivial_alone (Constant b) e = (refl, refl)
trivial_alone (Single v i) e = (refl, refl)
trivial_alone (OneLine o) e = (refl, refl)
trivial_alone (Top g v s) e = let z : ⊥ = omega arith in absurd z
trivial_alone (Xor v) e = let z : ⊥ = omega arith in absurd z
trivial_alone (Shannon v) e = let z : ⊥ = omega arith in absurd z

trivial_first : (own : Ownership) (h : ℕ) (r : Rule) → trivial_rule h ≡ Some r → FirstThatFits own h r
trivial_first own h r e =
    let t : Trivial own h (Some r) = subst (Trivial own h) e (trivial_fits own h) in
    let a = trivial_alone r t.0 in
    alone own h r a.0 a.1 t.1 (subst (λ (n : ℕ). NoneBelow n own h) (sym t.0) (none_1 own h))

-- ---- rule 4: a constant cofactor

-- what is known of the answer at a variable
abbrev TopAt : ℕ → Variable → Option Rule → Type 0
TopAt h v (Some r) =
    (g : Gate) × (s : Bool) × (r ≡ Top g v s) × (depends_on h v ≡ true) × (cofactor h v (not s) ≡ constant_under g)
    × ((k : Gate) (t : Bool) → test_number k t < test_number g s → cofactor h v (not t) ≡ constant_under k → ⊥)
TopAt h v None = (g : Gate) (s : Bool) → (depends_on h v ≡ true) → cofactor h v (not s) ≡ constant_under g → ⊥

-- the tests before number n, one by one
tests : (low high n : ℕ) → n < 4 → (0 < n → high ≡ 0 → ⊥) → (1 < n → low ≡ 0 → ⊥) → (2 < n → high ≡ 65535 → ⊥)
    → (k : Gate) (t : Bool) → test_number k t < n → cond (not t) high low ≡ constant_under k → ⊥
tests low high n m a b c And false l e = a l e
tests low high n m a b c And true l e = b l e
tests low high n m a b c Or false l e = c l e
tests low high n m a b c Or true l e = omega arith

by_side : (h : ℕ) (v : Variable) (t : Bool) → cofactor h v (not t) ≡ cond (not t) (cofactor h v true) (cofactor h v false)
by_side h v true = refl
by_side h v false = refl

apart : (h : ℕ) (v : Variable) → eqb (cofactor h v false) (cofactor h v true) ≡ false → depends_on h v ≡ true
unfolding depends_on
apart h v e = ap not e

together : (h : ℕ) (v : Variable) → eqb (cofactor h v false) (cofactor h v true) ≡ true → depends_on h v ≡ true → ⊥
unfolding depends_on
together h v e d = both_ways (eqb (cofactor h v false) (cofactor h v true)) (not-true _ d) e

top_at : (h : ℕ) (v : Variable) → TopAt h v (top_rule h v)
unfolding top_rule
top_at h v =
    cond_both (eqb low high) _ _ (TopAt h v) (λ e g s d _. together h v e d) (λ d.
    cond_both (eqb high 0) _ _ (TopAt h v) (λ e. (And, false, refl, apart h v d, eqb-true high 0 e, before 0 (omega arith) (λ l _. omega arith) (λ l _. omega arith) (λ l _. omega arith))) (λ a.
    cond_both (eqb low 0) _ _ (TopAt h v) (λ e. (And, true, refl, apart h v d, eqb-true low 0 e, before 1 (omega arith) (λ _. eqb-false high 0 a) (λ l _. omega arith) (λ l _. omega arith))) (λ b.
    cond_both (eqb high 65535) _ _ (TopAt h v) (λ e. (Or, false, refl, apart h v d, eqb-true high 65535 e, before 2 (omega arith) (λ _. eqb-false high 0 a) (λ _. eqb-false low 0 b) (λ l _. omega arith))) (λ c.
    cond_both (eqb low 65535) _ _ (TopAt h v) (λ e. (Or, true, refl, apart h v d, eqb-true low 65535 e, before 3 (omega arith) (λ _. eqb-false high 0 a) (λ _. eqb-false low 0 b) (λ _. eqb-false high 65535 c))) (λ f.
    none (eqb-false high 0 a) (eqb-false low 0 b) (eqb-false high 65535 c) (eqb-false low 65535 f))))))
  where
    low : ℕ
    low = cofactor h v false

    high : ℕ
    high = cofactor h v true

    before : (n : ℕ) → n < 4 → (0 < n → cofactor h v true ≡ 0 → ⊥) → (1 < n → cofactor h v false ≡ 0 → ⊥) → (2 < n → cofactor h v true ≡ 65535 → ⊥)
        → (k : Gate) (t : Bool) → test_number k t < n → cofactor h v (not t) ≡ constant_under k → ⊥
    before n m a b c k t l e = tests (cofactor h v false) (cofactor h v true) n m a b c k t l (sym (by_side h v t) ∙ e)

    none : (cofactor h v true ≡ 0 → ⊥) → (cofactor h v false ≡ 0 → ⊥) → (cofactor h v true ≡ 65535 → ⊥) → (cofactor h v false ≡ 65535 → ⊥) → TopAt h v None
    none a b c d And false _ e = a e
    none a b c d And true _ e = b e
    none a b c d Or false _ e = c e
    none a b c d Or true _ e = d e

top_none : (own : Ownership) (h : ℕ) (v : Variable) → top_rule h v ≡ None → (g : Gate) (s : Bool) → Passes own h (Top g v s) → ⊥
top_none own h v e g s f = subst (TopAt h v) e (top_at h v) g s f.0 f.1

-- a rule of number 4 is one of these
top_variable : (own : Ownership) (h n : ℕ) → ((w : Variable) → variable_number w < n → top_rule h w ≡ None) → (s : Rule) → rule_number s ≡ 4 → taken_variable s < n → Passes own h s → ⊥
top_variable own h n b (Constant a) e l f = omega arith
top_variable own h n b (Single w i) e l f = omega arith
top_variable own h n b (OneLine Every) e l f = omega arith
top_variable own h n b (OneLine Majority) e l f = omega arith
top_variable own h n b (Top g w s) e l f = top_none own h w (b w l) g s f
top_variable own h n b (Xor w) e l f = omega arith
top_variable own h n b (Shannon w) e l f = omega arith

top_test : (own : Ownership) (h n : ℕ) (v : Variable) → ((k : Gate) (t : Bool) → test_number k t < n → cofactor h v (not t) ≡ constant_under k → ⊥)
    → (s : Rule) → rule_number s ≡ 4 → taken_variable s ≡ variable_number v → passed_test s < n → Passes own h s → ⊥
top_test own h n v b (Constant a) e d l f = omega arith
top_test own h n v b (Single w i) e d l f = omega arith
top_test own h n v b (OneLine Every) e d l f = omega arith
top_test own h n v b (OneLine Majority) e d l f = omega arith
top_test own h n v b (Top g w s) e d l f = b g s l (ap (λ (u : Variable). cofactor h u (not s)) (sym (same_variable_lem w v d)) ∙ f.1)
top_test own h n v b (Xor w) e d l f = omega arith
top_test own h n v b (Shannon w) e d l f = omega arith

top_first : (own : Ownership) (h : ℕ) (r : Rule) → first_top h ≡ Some r → NoneBelow 4 own h → FirstThatFits own h r
top_first own h r e n =
    let o : Over (top_rule h) (Some r) = subst (Over (top_rule h)) e (first_over_lem (top_rule h)) in
    let v : Variable = o.0 in
    let t : TopAt h v (Some r) = subst (TopAt h v) o.1 (top_at h v) in
    subst (FirstThatFits own h) (sym t.2) (record {
      fits = (t.3, t.4);
      number = n;
      variable = top_variable own h (variable_number v) o.2;
      test = top_test own h (test_number t.0 t.1) v t.5;
    })

top_nowhere : (own : Ownership) (h : ℕ) → first_top h ≡ None → NoneBelow 4 own h → NoneBelow 5 own h
top_nowhere own h e n =
    let o : Over (top_rule h) None = subst (Over (top_rule h)) e (first_over_lem (top_rule h)) in
    none_next own h 4 n (no_top own h (λ v. top_none own h v (o v)))

-- ---- rule 5: inverse cofactors

xor_fits : (own : Ownership) (h : ℕ) (v : Variable) → xor_in h v ≡ true → Passes own h (Xor v)
unfolding xor_in
xor_fits own h v e = eqb-true _ _ e

xor_none : (own : Ownership) (h : ℕ) (v : Variable) → xor_in h v ≡ false → Passes own h (Xor v) → ⊥
unfolding xor_in
xor_none own h v e f = eqb-false _ _ e f

xor_variable : (own : Ownership) (h n : ℕ) → ((w : Variable) → variable_number w < n → xor_in h w ≡ false) → (s : Rule) → rule_number s ≡ 5 → taken_variable s < n → Passes own h s → ⊥
xor_variable own h n b (Constant a) e l f = omega arith
xor_variable own h n b (Single w i) e l f = omega arith
xor_variable own h n b (OneLine Every) e l f = omega arith
xor_variable own h n b (OneLine Majority) e l f = omega arith
xor_variable own h n b (Top g w s) e l f = omega arith
xor_variable own h n b (Xor w) e l f = xor_none own h w (b w l) f
xor_variable own h n b (Shannon w) e l f = omega arith

xor_first : (own : Ownership) (h : ℕ) (v : Variable) → Where (xor_in h) (Some v) → NoneBelow 5 own h → FirstThatFits own h (Xor v)
xor_first own h v w n = record {
  fits = xor_fits own h v w.0;
  number = n;
  variable = xor_variable own h (variable_number v) w.1;
  test = λ s e d l _. omega arith;
}

-- ---- rule 6: the lowest variable

shannon_variable : (own : Ownership) (h n : ℕ) → ((w : Variable) → variable_number w < n → depends_on h w ≡ false) → (s : Rule) → rule_number s ≡ 6 → taken_variable s < n → Passes own h s → ⊥
shannon_variable own h n b (Constant a) e l f = omega arith
shannon_variable own h n b (Single w i) e l f = omega arith
shannon_variable own h n b (OneLine Every) e l f = omega arith
shannon_variable own h n b (OneLine Majority) e l f = omega arith
shannon_variable own h n b (Top g w s) e l f = omega arith
shannon_variable own h n b (Xor w) e l f = omega arith
shannon_variable own h n b (Shannon w) e l f = both_ways (depends_on h w) (b w l) f

shannon_first : (own : Ownership) (h : ℕ) (v : Variable) → Where (depends_on h) (Some v) → NoneBelow 6 own h → FirstThatFits own h (Shannon v)
shannon_first own h v w n = record {
  fits = w.0;
  number = n;
  variable = shannon_variable own h (variable_number v) w.1;
  test = λ s e d l _. omega arith;
}

none_left : (h : ℕ) → ((v : Variable) → depends_on h v ≡ false) → 2 ≤ support_size h → ⊥
unfolding support_size
none_left h a l =
    let one : (v : Variable) → cond {A = ℕ} (depends_on h v) 1 0 ≡ 0 = λ v. ap (λ (t : Bool). cond {A = ℕ} t 1 0) (a v) in
    let p = one V0 in let q = one V1 in let r = one V2 in let s = one V3 in
    omega arith

-- ---- there is one first rule

-- the rule of three numbers, past rule 1
gate_at : ℕ → Gate
gate_at zero = And
gate_at (suc zero) = And
gate_at (suc (suc n)) = Or

side_at : ℕ → Bool
side_at zero = false
side_at (suc zero) = true
side_at (suc (suc zero)) = false
side_at (suc (suc (suc n))) = true

rule_at : ℕ → ℕ → ℕ → Rule
rule_at zero v t = OneLine Every
rule_at (suc zero) v t = OneLine Every
rule_at (suc (suc zero)) v t = OneLine Every
rule_at (suc (suc (suc zero))) v t = OneLine Majority
rule_at (suc (suc (suc (suc zero)))) v t = Top (gate_at t) (variable_at v) (side_at t)
rule_at (suc (suc (suc (suc (suc zero))))) v t = Xor (variable_at v)
rule_at (suc (suc (suc (suc (suc (suc n)))))) v t = Shannon (variable_at v)

rule_at_lem : (r : Rule) → 1 < rule_number r → rule_at (rule_number r) (taken_variable r) (passed_test r) ≡ r
unfolding rule_at gate_at side_at
rule_at_lem (Constant b) l = let z : ⊥ = omega arith in absurd z
rule_at_lem (Single v i) l = let z : ⊥ = omega arith in absurd z
rule_at_lem (OneLine Every) l = refl
rule_at_lem (OneLine Majority) l = refl
rule_at_lem (Top And v false) l = ap (λ (w : Variable). Top And w false) (at_number v)
rule_at_lem (Top And v true) l = ap (λ (w : Variable). Top And w true) (at_number v)
rule_at_lem (Top Or v false) l = ap (λ (w : Variable). Top Or w false) (at_number v)
rule_at_lem (Top Or v true) l = ap (λ (w : Variable). Top Or w true) (at_number v)
rule_at_lem (Xor v) l = ap Xor (at_number v)
rule_at_lem (Shannon v) l = ap Shannon (at_number v)

pub first_only : (own : Ownership) (h : ℕ) → h < 65536 → (r s : Rule) → FirstThatFits own h r → FirstThatFits own h s → s ≡ r
first_only own h l r s a b =
    let n : rule_number s ≡ rule_number r = same (rule_number s) (rule_number r) (λ k. a.number.none s k b.fits) (λ k. b.number.none r k a.fits) in
    let v : taken_variable s ≡ taken_variable r = same (taken_variable s) (taken_variable r) (λ k. a.variable s n k b.fits) (λ k. b.variable r (sym n) k a.fits) in
    let t : passed_test s ≡ passed_test r = same (passed_test s) (passed_test r) (λ k. a.test s n v k b.fits) (λ k. b.test r (sym n) (sym v) k a.fits) in
    elim (cases_lt 1 (rule_number r)) [
      | inl k ↦ sym (rule_at_lem s (omega arith)) ∙ (λ i. rule_at (n i) (v i) (t i)) ∙ rule_at_lem r k
      | inr k ↦ (let e : rule_number r ≡ 1 = (let u = one_up r in omega arith) in
          some_same (trivial_rule h) (trivial_only own h s l (n ∙ e) b.fits) (trivial_only own h r l e a.fits))
    ]
  where
    same : (m n : ℕ) → (m < n → ⊥) → (n < m → ⊥) → m ≡ n
    same m n a b = elim (cases_order m n) [ inl e ↦ e | inr o ↦ elim o [ inl l ↦ absurd (a l) | inr l ↦ absurd (b l) ] ]

-- ---- the two halves of the choice

-- what the first three rules come to: the one that stands first, or that none of them fits
abbrev WithoutParts : Ownership → ℕ → Option Rule → Type 0
WithoutParts own h (Some r) = FirstThatFits own h r
WithoutParts own h None = NoneBelow 4 own h

without_parts : (own : Ownership) (h : ℕ) → h < 65536 → WithoutParts own h (rule_without_parts own h)
unfolding rule_without_parts
without_parts own h l =
    or_else_lem (WithoutParts own h) (trivial_rule h) _ (trivial_first own h) (λ d.
    let two = none_2 own h l d in
    cond_both own.every _ _ (WithoutParts own h) (λ t. alone own h (OneLine Every) refl refl t two) (λ t.
    let three = none_next own h 2 two (no_every own h t) in
    cond_both (own.majority && eqb (representative h) 831) _ _ (WithoutParts own h)
    (λ m. let p = and_parts _ _ m in alone own h (OneLine Majority) refl refl (p.0, eqb-true (representative h) 831 p.1) three)
    (λ m. none_next own h 3 three (no_majority own h m))))

last_step : (own : Ownership) (h : ℕ) → h < 65536 → NoneBelow 6 own h → (o : Option Variable) → Where (depends_on h) o → FirstThatFits own h (shannon_rule h o)
last_step own h l n (Some v) w = shannon_first own h v w n
last_step own h l n None w = absurd (none_left h w (two_at-least own h l (record { none = λ s k f. n.none s (omega arith) f })))

xor_step : (own : Ownership) (h : ℕ) → h < 65536 → NoneBelow 5 own h → (o : Option Variable) → Where (xor_in h) o
    → FirstThatFits own h (or_rule (xor_rule o) (shannon_rule h (lowest h)))
xor_step own h l n (Some v) w = xor_first own h v w n
xor_step own h l n None w = last_step own h l (none_next own h 5 n (no_xor own h (λ v. xor_none own h v (w v)))) (lowest h) (lowest_where_lem (depends_on h))

with_parts : (own : Ownership) (h : ℕ) → h < 65536 → NoneBelow 4 own h → FirstThatFits own h (rule_with_parts h)
unfolding rule_with_parts
with_parts own h l n =
    or_else_lem (λ o. FirstThatFits own h (or_rule o (shannon_rule h (lowest h)))) (first_top h) (xor_rule (first_xor h))
    (λ s d. top_first own h s d n)
    (λ d. xor_step own h l (top_nowhere own h d n) (first_xor h) (lowest_where_lem (xor_in h)))

-- the rule that writes a table is the first that fits
pub rule_first : (own : Ownership) (h : ℕ) → h < 65536 → FirstThatFits own h (rule_of own h)
rule_first own h l = by (rule_without_parts own h) (without_parts own h l)
  where
    by : (o : Option Rule) → WithoutParts own h o → FirstThatFits own h (or_rule o (rule_with_parts h))
    by (Some s) a = a
    by None n = with_parts own h l n

pub chosen_first : (own : Ownership) (h : ℕ) (r : Rule) → h < 65536 → r ≡ rule_of own h → FirstThatFits own h r
chosen_first own h r l e = subst (FirstThatFits own h) (sym e) (rule_first own h l)

-- past rule 1 the support has two variables at least
pub two_variables : (own : Ownership) (h : ℕ) (r : Rule) → h < 65536 → FirstThatFits own h r → 1 < rule_number r → 2 ≤ support_size h
two_variables own h r l a k = two_at-least own h l (record { none = λ s m f. a.number.none s (omega arith) f })

-- ---- the variable of rules 4 to 6 is in the support, and is not all of it

not_itself : (b : Bool) → b ≡ not b → ⊥
not_itself true e = both_ways true e refl
not_itself false e = both_ways false refl e

inverse_apart : (f g : ℕ) → f ≡ complement g → f ≡ g → ⊥
inverse_apart f g e d =
    let x : Setting = setting false false false false in
    not_itself (value g x) (ap (λ (k : ℕ). value k x) (sym d ∙ e) ∙ value-complement g x)

xor_depends : (h : ℕ) (v : Variable) → cofactor h v false ≡ complement (cofactor h v true) → depends_on h v ≡ true
unfolding depends_on
xor_depends h v e = ap not (ne_eqb (cofactor h v false) (cofactor h v true) (inverse_apart (cofactor h v false) (cofactor h v true) e))

pub one_line_more : (own : Ownership) (h : ℕ) (o : Owned) → h < 65536 → FirstThatFits own h (OneLine o) → 2 ≤ support_size h
one_line_more own h Every l a = two_variables own h (OneLine Every) l a (omega arith)
one_line_more own h Majority l a = two_variables own h (OneLine Majority) l a (omega arith)

pub top_divides : (own : Ownership) (h : ℕ) (g : Gate) (v : Variable) (s : Bool) → h < 65536 → FirstThatFits own h (Top g v s) → Divides h v
top_divides own h g v s l a = record { depends = a.fits.0; more = two_variables own h (Top g v s) l a (omega arith) }

pub xor_divides : (own : Ownership) (h : ℕ) (v : Variable) → h < 65536 → FirstThatFits own h (Xor v) → Divides h v
xor_divides own h v l a = record { depends = xor_depends h v a.fits; more = two_variables own h (Xor v) l a (omega arith) }

pub shannon_divides : (own : Ownership) (h : ℕ) (v : Variable) → h < 65536 → FirstThatFits own h (Shannon v) → Divides h v
shannon_divides own h v l a = record { depends = a.fits; more = two_variables own h (Shannon v) l a (omega arith) }

every_owned : (own : Ownership) (h : ℕ) → own.every ≡ true → owns own h ≡ true
unfolding owns
every_owned own h e = ap (λ (b : Bool). b || eqb (representative h) 15 || (own.xor && eqb (representative h) 4080) || (own.majority && eqb (representative h) 831)) e

majority_owned : (own : Ownership) (h : ℕ) → own.majority ≡ true → representative h ≡ 831 → owns own h ≡ true
unfolding owns
majority_owned own h e r = or_right (own.every || eqb (representative h) 15 || (own.xor && eqb (representative h) 4080)) _ (and_from _ _ e (eq-eqb (representative h) 831 r))

-- what the first rule that fits says of the table
pub first_writes : (own : Ownership) (h : ℕ) (r : Rule) → h < 65536 → FirstThatFits own h r → Fits own h r
first_writes own h (Constant b) l a = a.fits
first_writes own h (Single v i) l a = a.fits
first_writes own h (OneLine Every) l a = record { owned = every_owned own h a.fits; more = one_line_more own h Every l a }
first_writes own h (OneLine Majority) l a = record { owned = majority_owned own h a.fits.0 a.fits.1; more = one_line_more own h Majority l a }
first_writes own h (Top g v s) l a = (top_divides own h g v s l a, a.fits.1)
first_writes own h (Xor v) l a = (xor_divides own h v l a, a.fits)
first_writes own h (Shannon v) l a = shannon_divides own h v l a

-- the rule that is chosen fits
pub rule_fits : (own : Ownership) (h : ℕ) → h < 65536 → Fits own h (rule_of own h)
rule_fits own h l = first_writes own h (rule_of own h) l (rule_first own h l)

-- ---- a table of rule 1 has one variable or none

abbrev Small : ℕ → Option Rule → Type 0
Small h (Some r) = support_size h < 2
Small h None = Unit {0}

trivial_small : (h : ℕ) → Small h (trivial_rule h)
unfolding support_size depends_on cofactor table_of value bit from_bits
trivial_small h =
    cond_both (eqb h 0) _ _ (Small h) (at 0 (lit< tt)) (λ _.
    cond_both (eqb h 65535) _ _ (Small h) (at 65535 (lit< tt)) (λ _.
    cond_both (eqb h 43690) _ _ (Small h) (at 43690 (lit< tt)) (λ _.
    cond_both (eqb h 21845) _ _ (Small h) (at 21845 (lit< tt)) (λ _.
    cond_both (eqb h 52428) _ _ (Small h) (at 52428 (lit< tt)) (λ _.
    cond_both (eqb h 13107) _ _ (Small h) (at 13107 (lit< tt)) (λ _.
    cond_both (eqb h 61680) _ _ (Small h) (at 61680 (lit< tt)) (λ _.
    cond_both (eqb h 3855) _ _ (Small h) (at 3855 (lit< tt)) (λ _.
    cond_both (eqb h 65280) _ _ (Small h) (at 65280 (lit< tt)) (λ _.
    cond_both (eqb h 255) _ _ (Small h) (at 255 (lit< tt)) (λ _. tt))))))))))
  where
    at : (g : ℕ) → support_size g < 2 → eqb h g ≡ true → support_size h < 2
    at g s e = subst (λ (k : ℕ). support_size k < 2) (sym (eqb-true h g e)) s

pub rule_1_small : (own : Ownership) (h : ℕ) (r : Rule) → h < 65536 → rule_number r ≡ 1 → Passes own h r → support_size h < 2
rule_1_small own h r l n f = subst (Small h) (trivial_only own h r l n f) (trivial_small h)
