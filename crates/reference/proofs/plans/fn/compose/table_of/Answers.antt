use Rattle.std.proofs.Common.{ℕ, map, ap, ◌∙◌, mod-eq_of_lt}
use Rattle.reference.specs.Tables.{bit, from_bits}
use Rattle.reference.proofs.plans.fn.compose.table_of.Goals as goal

pub returns : goal.returns
returns c h =
    let at = c.setting_at.ensures.number ∙ ap (λ (y : ℕ). from_bits (map (λ (g : ℕ). bit g y) c.captures.inputs)) (mod-eq_of_lt h) in
    c.value_at.ensures ∙ ap (bit c.captures.f) (mod-eq_of_lt c.setting_at.ensures.below ∙ at)
