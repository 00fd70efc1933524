-- The plan of a table: its lines and its result, by the first rule that fits it and then its parts.
use Rattle.std.specs.Prelude.{ℕ, zero, suc, ◌+◌, ◌*◌, Bool, true, false, cond, not, List, [], ◌∷◌, ◌++◌, length}
use Rattle.tables.specs.declared.Variable.{Variable}
use Rattle.tables.specs.PerVariable.{at}
use Rattle.tables.specs.declared.Variable.TheVariants.{V0, V1, V2, V3}
use Rattle.tables.specs.Tables.{cofactor}
use Rattle.classes.specs.declared.Ownership.{Ownership}
use Rattle.transforms.specs.declared.Transform.{Transform}
use Rattle.transforms.specs.Orders.{position_in}
use Rattle.transforms.specs.Images.{mask_at, representative, chosen_transform}
use Rattle.rules.specs.declared.Gate.{Gate}
use Rattle.rules.specs.declared.Gate.TheVariants.{And, Or}
use Rattle.rules.specs.declared.Rule.{Rule}
use Rattle.rules.specs.declared.Rule.TheVariants.{Constant, Single, OneLine, Top, Xor, Shannon}
use Rattle.rules.specs.Rules.{rule_of}
use Rattle.plan_lines.specs.declared.Source.TheVariants as source
use Rattle.plan_lines.specs.declared.Literal.{Literal}
use Rattle.plan_lines.specs.declared.Line.{Line}
use Rattle.tables.specs.declared.per_variable.PerVariable.{PerVariable}
use Rattle.plan_lines.specs.Lines.{constant_false, nth, invert_if, and_of, or_of, xor_of, whole_of}

-- lines, and the literal that holds the table's value after them
pub record Written : Type 0 where
  pub lines : List Line
  pub result : Literal

-- ---- the lines that follow those of the parts; n is the number of lines before

-- one line more
abbrev pub one_more : ℕ → List Line → Line → Written
one_more n ls l = record { lines = ls ++ l ∷ []; result = nth (n + length ls) }

-- two lines, and their OR
abbrev pub either : ℕ → List Line → Line → Line → Written
either n ls l k =
    record { lines = ls ++ l ∷ k ∷ or_of (nth (n + length ls)) (nth (n + length ls + 1)) ∷ []; result = nth (n + length ls + 2) }

-- the line of rule 4: AND(not v, h0), AND(v, h1), OR(v, h0) or OR(not v, h1), where s is true for h1
abbrev pub top_of : Gate → Bool → Literal → Literal → Line
top_of And s p q = and_of (invert_if (not s) p) q
top_of Or s p q = or_of (invert_if s p) q

-- the exclusive-or of two literals, as one line or as three
abbrev pub xor_lines : Ownership → ℕ → List Line → Literal → Literal → Written
xor_lines own n ls p q = cond own.xor (one_more n ls (xor_of p q)) (either n ls (and_of p (invert_if true q)) (and_of (invert_if true p) q))

-- the OR of the AND of p and q, and the AND of p inverted and r
abbrev pub shannon_lines : ℕ → List Line → Literal → Literal → Literal → Written
shannon_lines n ls p q r = either n ls (and_of p q) (and_of (invert_if true p) r)

-- what a rule writes; part m g is what is written for g after m lines
abbrev pub by_rule : Ownership → PerVariable Literal → ℕ → ℕ → (ℕ → ℕ → Written) → Rule → Written
by_rule own bs n h part (Constant b) = record { lines = []; result = invert_if b constant_false }
by_rule own bs n h part (Single v i) = record { lines = []; result = invert_if i (at bs v) }
by_rule own bs n h part (OneLine o) = one_more n [] (whole_of h bs)
by_rule own bs n h part (Top g v s) =
    let p = part n (cofactor h v s) in
    one_more n p.lines (top_of g s (at bs v) p.result)
by_rule own bs n h part (Xor v) =
    let p = part n (cofactor h v false) in
    xor_lines own n p.lines (at bs v) p.result
by_rule own bs n h part (Shannon v) =
    let p = part n (cofactor h v true) in
    let q = part (n + length p.lines) (cofactor h v false) in
    shannon_lines n (p.lines ++ q.lines) (at bs v) p.result q.result

-- what is written for h after n lines; k is any number above the size of the support
unfoldable pub write : ℕ → Ownership → PerVariable Literal → ℕ → ℕ → Written
write zero own bs n h = record { lines = []; result = constant_false }
write (suc k) own bs n h = by_rule own bs n h (write k own bs) (rule_of own h)

-- ---- the plan of a table, over the four signals of the table itself

-- signal k of the table, inverted where the transform inverts it
abbrev pub signal : Transform → Variable → Literal
signal t k = record { source = source.Input k; inverted = mask_at t.mask k }

-- what variable v of the representative stands for: the signal at whose position the order has v
abbrev pub input : Transform → Variable → Literal
input t v = signal t (position_in t.order v)

abbrev pub inputs : Transform → PerVariable Literal
inputs t = record { a = input t V0; b = input t V1; c = input t V2; d = input t V3 }

unfoldable pub plan_of : Ownership → ℕ → Written
plan_of own f =
    let w = write 5 own (inputs (chosen_transform f)) 0 (representative f) in
    record { lines = w.lines; result = invert_if (chosen_transform f).output w.result }

-- ---- how long a plan can be: three lines and two parts at each variable past the first

abbrev pub bound : ℕ → ℕ
bound zero = 0
bound (suc zero) = 0
bound (suc (suc n)) = 3 + 2 * bound (suc n)
