-- What the writer has written before and after a call.
use Rattle.std.specs.Prelude.{◌≡◌, ℕ, ◌++◌, length}
use Rattle.lists.specs.Lists.{listed}
use Rattle.plan_lines.specs.declared.Literal.{Literal}
use Rattle.plans.specs.declared.writer.Writer.{Writer}
use Rattle.plans.specs.Plans.{Written}

-- how many lines there are
abbrev pub line_count : Writer → ℕ
line_count w = length (listed w.lines)

-- from w to v the lines of x were written, with the result r
pub record Wrote (w v : Writer) (r : Literal) (x : Written) : Type 0 where
  pub own : v.own ≡ w.own
  pub inputs : v.inputs ≡ w.inputs
  pub lines : listed v.lines ≡ listed w.lines ++ x.lines
  pub result : r ≡ x.result
