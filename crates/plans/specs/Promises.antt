-- What a plan promises of its table.
use Rattle.std.specs.Prelude.{◌≡◌, ℕ, ◌≤◌, Bool, true, List, [], ◌∷◌, length}
use Rattle.tables.specs.declared.Variable.{Variable}
use Rattle.tables.specs.PerVariable.{at}
use Rattle.tables.specs.Settings.{Setting}
use Rattle.tables.specs.Tables.{value, support_size}
use Rattle.transforms.specs.Orders.{at as variable_at}
use Rattle.transforms.specs.Images.{chosen_transform}
use Rattle.classes.specs.declared.Ownership.{Ownership}
use Rattle.classes.specs.Owned.{owns}
use Rattle.plan_lines.specs.declared.Literal.{Literal}
use Rattle.plan_lines.specs.declared.Line.{Line}
use Rattle.plan_lines.specs.Lines.{literal_value, answers, ReadsBefore, EachReadsEarlier}
use Rattle.plan_lines.specs.declared.TheConstants.{MOST_LINES}
use Rattle.plans.specs.Plans.{signal, inputs, plan_of, bound}

-- variable p(k) of the representative stands for signal k of the table, inverted by bit k of the mask
abbrev pub SignalsStand : ℕ → Type 0
SignalsStand f = (k : Variable) → at (inputs (chosen_transform f)) (variable_at (chosen_transform f).order k) ≡ signal (chosen_transform f) k

-- the value of lines and their result, at a setting of the four signals
abbrev pub plan_value : Setting → List Line → Literal → Bool
plan_value y ls q = literal_value y (answers y [] ls) q

-- the class of every line's table is owned
abbrev pub EachOwned : Ownership → List Line → Type 0
EachOwned own [] = Unit {0}
EachOwned own (l ∷ ls) = (owns own l.table ≡ true) × EachOwned own ls

-- ls and q are the plan of f
pub record Planned (own : Ownership) (f : ℕ) (ls : List Line) (q : Literal) : Type 0 where
  pub lines : ls ≡ (plan_of own f).lines
  pub result : q ≡ (plan_of own f).result
  pub signals : SignalsStand f
  -- for every setting of the four signals it has the table's value
  pub value : (y : Setting) → plan_value y ls q ≡ value f y
  -- no line reads itself or a later line, and the result is there
  pub earlier : EachReadsEarlier 0 ls
  pub there : ReadsBefore (length ls) q
  -- how many lines there are: none for a table of one variable or none, one for a table of two that is owned
  pub few : length ls ≤ bound (support_size f)
  pub most : length ls ≤ MOST_LINES
  pub one : owns own f ≡ true → 2 ≤ support_size f → length ls ≡ 1
  pub owned : EachOwned own ls
