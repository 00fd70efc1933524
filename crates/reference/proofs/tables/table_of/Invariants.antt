use Rattle.std.proofs.Common.{◌<◌, ◌^◌, ℕ}
use Rattle.reference.specs.Tables.{bit}
use Rattle.reference.proofs.tables.table_of.Given as goal

-- the bits so far are answers
abbrev pub invariant-loop-x : goal.invariant-loop-x
invariant-loop-x g l = (l.f < 2 ^ l.x) × ((x : ℕ) → x < l.x → goal.F-post g l.value x (bit l.f x))
