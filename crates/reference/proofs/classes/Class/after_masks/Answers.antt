use Rattle.std.proofs.Common.{◌≡◌, ℕ, ◌+◌, ◌*◌, subst, arith}
use Rattle.reference.specs.declared.classes.Transform.{Transform}
use Rattle.reference.specs.Classes.{transform_at, IsFirstLeast}
use Rattle.reference.proofs.Least.{next, masked}
use Rattle.reference.proofs.classes.Class.after_masks.Goals as goal

pub loop-mask-preserved : goal.loop-mask-preserved
loop-mask-preserved c =
    let n : ℕ = c.args.block * 16 + c.loop-mask.mask in
    let first : Transform = c.nth_transform-first.result in
    let below = c.loop-mask-test.true in
    let blocks = c.requires.0 in
    let e : n + 1 ≡ c.args.block * 16 + (c.loop-mask.mask + 1) = omega arith in
    subst (λ k. IsFirstLeast c.args.f k c.or_less-least.result) e (next c.args.f n c.loop-mask.least
    (record { representative = c.image_of.result; transform = record first { mask = c.loop-mask.mask } }) c.or_less-least.result (omega arith)
    (masked c.args.block c.loop-mask.mask first below c.nth_transform-first.ensures) c.image_of.ensures c.or_less-least.ensures.less c.or_less-least.ensures.kept
    c.loop-mask.invariant)
