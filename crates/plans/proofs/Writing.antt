-- The writer, rule by rule: the parts are smaller, there is room for them, and what is written is what was to be written.
use Rattle.std.proofs.Common.{◌≡◌, ℕ, zero, suc, ◌+◌, ◌*◌, ◌<◌, ◌≤◌, Bool, false, List, [], length, sym, refl, ap, ◌∙◌, subst, ap₂, inl, inr, le_of_suc-le-suc, not-suc-le-zero, append-nil, arith}
use Rattle.std.proofs.lemmas.Bool.{cases_lt}
use Rattle.tables.specs.declared.Variable.{Variable}
use Rattle.tables.specs.declared.per_variable.PerVariable.{PerVariable}
use Rattle.tables.specs.Tables.{cofactor, support_size}
use Rattle.tables.proofs.Support.{support_falls}
use Rattle.lists.specs.Lists.{listed}
use Rattle.classes.specs.declared.Ownership.{Ownership}
use Rattle.rules.specs.declared.Gate.{Gate}
use Rattle.rules.specs.declared.Owned.{Owned}
use Rattle.rules.specs.declared.Rule.{Rule}
use Rattle.rules.specs.declared.Rule.TheVariants.{OneLine, Top, Xor, Shannon}
use Rattle.rules.specs.Rules.{rule_of}
use Rattle.rules.specs.First.{FirstThatFits}
use Rattle.rules.specs.Fits.{Divides}
use Rattle.rules.proofs.Firsts.{one_line_more, top_divides, xor_divides, shannon_divides}
use Rattle.plan_lines.specs.declared.Literal.{Literal}
use Rattle.plan_lines.specs.declared.Line.{Line}
use Rattle.plans.specs.declared.writer.Writer.{Writer}
use Rattle.plans.specs.Plans.{Written, by_rule, write, bound}
use Rattle.plans.specs.Held.{line_count, Wrote}
use Rattle.plans.proofs.Holding.{behind, wrote_count, both_wrote}

-- ---- the room

bound_suc : (n : ℕ) → bound n ≤ bound (suc n)
bound_suc zero = omega arith
bound_suc (suc zero) = omega arith
bound_suc (suc (suc n)) = let h = bound_suc (suc n) in omega arith

pub bound_mono : (a n : ℕ) → a ≤ n → bound a ≤ bound n
bound_mono a zero h = let e : a ≡ 0 = omega arith in subst (λ (m : ℕ). bound m ≤ 0) (sym e) (omega arith)
bound_mono a (suc n) h =
    elim (cases_lt n a) [
      | inl l ↦ (let e : a ≡ suc n = omega arith in subst (λ (m : ℕ). bound m ≤ bound (suc n)) (sym e) (omega arith))
      | inr l ↦ (let i = bound_mono a n l in let s = bound_suc n in omega arith)
    ]

bound_step : (a b : ℕ) → a < b → 2 ≤ b → 3 + 2 * bound a ≤ bound b
bound_step a zero h l = let z : ⊥ = omega arith in absurd z
bound_step a (suc zero) h l = let z : ⊥ = omega arith in absurd z
bound_step a (suc (suc b)) h l = let m = bound_mono a (suc b) (le_of_suc-le-suc h) in omega arith

bound_three : (b : ℕ) → 2 ≤ b → 3 ≤ bound b
bound_three b l = let s = bound_step 0 b (omega arith) l in omega arith

pub record Part (h p : ℕ) : Type 0 where
  pub falls : support_size p < support_size h
  pub room : 3 + 2 * bound (support_size p) ≤ bound (support_size h)

part_of : (h : ℕ) (v : Variable) (t : Bool) → Divides h v → Part h (cofactor h v t)
part_of h v t d =
    let f = support_falls h v t d.depends in
    record { falls = f; room = bound_step (support_size (cofactor h v t)) (support_size h) f d.more }

-- a part is smaller than the table, and there is room for it
pub top_part : (own : Ownership) (h : ℕ) (g : Gate) (v : Variable) (s : Bool) → h < 65536 → FirstThatFits own h (Top g v s) → Part h (cofactor h v s)
top_part own h g v s l f = part_of h v s (top_divides own h g v s l f)

pub xor_falls : (own : Ownership) (h : ℕ) (v : Variable) → h < 65536 → FirstThatFits own h (Xor v) → support_size (cofactor h v false) < support_size h
xor_falls own h v l f = (part_of h v false (xor_divides own h v l f)).falls

pub xor_room : (own : Ownership) (h : ℕ) (v : Variable) → h < 65536 → FirstThatFits own h (Xor v) → 3 + 2 * bound (support_size (cofactor h v false)) ≤ bound (support_size h)
xor_room own h v l f = (part_of h v false (xor_divides own h v l f)).room

pub shannon_falls : (own : Ownership) (h : ℕ) (v : Variable) (s : Bool) → h < 65536 → FirstThatFits own h (Shannon v) → support_size (cofactor h v s) < support_size h
shannon_falls own h v s l f = (part_of h v s (shannon_divides own h v l f)).falls

pub shannon_room : (own : Ownership) (h : ℕ) (v : Variable) (s : Bool) → h < 65536 → FirstThatFits own h (Shannon v) → 3 + 2 * bound (support_size (cofactor h v s)) ≤ bound (support_size h)
shannon_room own h v s l f = (part_of h v s (shannon_divides own h v l f)).room

pub one_line_room : (own : Ownership) (h : ℕ) (o : Owned) → h < 65536 → FirstThatFits own h (OneLine o) → 3 ≤ bound (support_size h)
one_line_room own h o l f = bound_three (support_size h) (one_line_more own h o l f)

-- what the generated proofs of the writer need of its parts
pub ruleset parts = (xor_falls, xor_room, shannon_falls, shannon_room, one_line_room)

-- ---- what is written

-- from w to v, what the definition writes for h was written, with the result r
abbrev pub WritesTable : Writer → Writer → Literal → ℕ → Type 0
WritesTable w v r h = (k : ℕ) → support_size h < k → Wrote w v r (write k w.own w.inputs (line_count w) h)

-- what the rule writes is what the table's plan is
ruled : (own : Ownership) (bs : PerVariable Literal) (n h j : ℕ) (rule : Rule) → rule ≡ rule_of own h → by_rule own bs n h (write j own bs) rule ≡ write (suc j) own bs n h
unfolding write
ruled own bs n h j rule e = ap (by_rule own bs n h (write j own bs)) e

-- a call that writes what the rule does, whatever number is above the size of the support
pub by_its_rule : (w v : Writer) (r : Literal) (h : ℕ) (rule : Rule) → rule ≡ rule_of w.own h
    → ((j : ℕ) → support_size h < suc j → Wrote w v r (by_rule w.own w.inputs (line_count w) h (write j w.own w.inputs) rule)) → WritesTable w v r h
by_its_rule w v r h rule e a zero l = absurd (not-suc-le-zero l)
by_its_rule w v r h rule e a (suc j) l = subst (Wrote w v r) (ruled w.own w.inputs (line_count w) h j rule e) (a j l)

-- nothing is written
pub no_line : (w : Writer) (r q : Literal) → r ≡ q → Wrote w w r (record { lines = []; result = q })
no_line w r q e = record { own = refl; inputs = refl; lines = sym (append-nil (listed w.lines)); result = e }

-- a part is what the definition writes for the cofactor that it is
pub part_wrote : (w u : Writer) (q : Literal) (p g j : ℕ) → p ≡ g → support_size g < j → WritesTable w u q p → Wrote w u q (write j w.own w.inputs (line_count w) g)
part_wrote w u q p g j e l part = subst (λ (f : ℕ). support_size f < j → Wrote w u q (write j w.own w.inputs (line_count w) f)) e (part j) l

-- a second part, behind the lines of the first
pub next_part_wrote : (w u v : Writer) (q s : Literal) (x : Written) (p g j : ℕ) → Wrote w u q x → p ≡ g → support_size g < j → WritesTable u v s p
    → Wrote w v s (behind x.lines (write j w.own w.inputs (line_count w + length x.lines) g))
next_part_wrote w u v q s x p g j a e l part =
    both_wrote w u v q s x (write j w.own w.inputs (line_count w + length x.lines) g) a
    (subst (Wrote u v s)
    (ap₂ (λ (o : Ownership) (bs : PerVariable Literal). write j o bs (line_count u) g) a.own a.inputs
    ∙ ap (λ (i : ℕ). write j w.own w.inputs i g) (wrote_count w u q x a))
    (part_wrote u v s p g j e l part))

-- what follows the parts; next says it by the number of lines before and the parts' lines
pub followed : (w u v : Writer) (q r : Literal) (x : Written) (next : ℕ → List Line → Written)
    → ((n : ℕ) (ls : List Line) → next n ls ≡ behind ls (next (n + length ls) [])) → Wrote w u q x → Wrote u v r (next (line_count u) [])
    → Wrote w v r (next (line_count w) x.lines)
followed w u v q r x next law a b =
    subst (Wrote w v r) (sym (law (line_count w) x.lines))
    (both_wrote w u v q r x (next (line_count w + length x.lines) []) a
    (subst (λ (n : ℕ). Wrote u v r (next n [])) (wrote_count w u q x a) b))
