use Rattle.std.proofs.Common.{ℕ, ap, ◌∙◌}
use Rattle.tables.specs.Bits.{inverted}
use Rattle.tables.specs.Tables.{value}
use Rattle.transforms.proofs.Transforms.{image_code}
use Rattle.transforms.proofs.Transform.image_of.Goals as goal

pub returns : goal.returns
returns c =
    let t = c.args.self in
    image_code t c.args.f c.map-inputs.result.a c.map-inputs.result.b c.map-inputs.result.c c.map-inputs.result.d c.invert_if.result c.invert_if.type_inv
    c.map-inputs.ensures.a c.map-inputs.ensures.b c.map-inputs.ensures.c c.map-inputs.ensures.d
    (λ x. c.invert_if.ensures x ∙ ap (λ (g : ℕ). inverted t.output (value g x)) c.compose.ensures)
