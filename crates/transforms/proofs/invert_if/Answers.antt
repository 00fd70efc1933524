use Rattle.std.proofs.Common.{Bool, ℕ, ap, ◌∙◌, sym}
use Rattle.tables.specs.Bits.{inverted}
use Rattle.tables.specs.Tables.{value}
use Rattle.tables.proofs.Laws.{value-complement}
use Rattle.transforms.proofs.invert_if.Goals as goal

pub returns-then-inverse : goal.returns-then-inverse
returns-then-inverse c = λ x.
    ap (λ (t : ℕ). value t x) c.invert.ensures ∙ value-complement c.args.f x ∙ ap (λ (b : Bool). inverted b (value c.args.f x)) (sym c.if-inverse.true)
