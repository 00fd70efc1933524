use Rattle.std.proofs.Common.{ℕ, ap, ◌∙◌, ap₂}
use Rattle.tables.specs.Bits.{inverted}
use Rattle.tables.specs.Settings.{get}
use Rattle.tables.specs.Tables.{value}
use Rattle.tables.proofs.Laws.{value-variable}
use Rattle.transforms.proofs.Transform.input_table.Goals as goal

pub returns : goal.returns
returns c = λ x.
    c.invert_if.ensures x
    ∙ ap₂ inverted c.inverts.ensures (ap (λ (t : ℕ). value t x) c.variable_table.ensures ∙ value-variable c.at.result x ∙ ap (get x) c.at.ensures)
