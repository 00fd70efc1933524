use Rattle.std.proofs.Common.{◌≡◌, replicate, ap, ◌∙◌}
use Rattle.tables.specs.declared.Variable.{Variable}
use Rattle.tables.specs.declared.Variable.TheVariants.{V0, V1, V2, V3}
use Rattle.transforms.specs.declared.Order.{Order}
use Rattle.transforms.specs.declared.Transform.{Transform}
use Rattle.transforms.specs.Orders.{at, order_at}
use Rattle.transforms.specs.Images.{image}
use Rattle.classifier.proofs.Masks.{twice_as_many, first_alone, order_numbered}
use Rattle.classifier.proofs.order_images.Goals as goal

pub returns : goal.returns
returns c =
    let f = c.args.f in
    let q = c.args.q in
    let h = c.requires in
    let o : c.order-order.result ≡ order_at q = c.order-order.ensures ∙ ap (λ (t : Transform). t.order) c.nth-plain.ensures.number ∙ order_numbered q h in
    let place : (k : Variable) → at c.order-order.result k ≡ at (order_at q) k = λ k. ap (λ (p : Order). at p k) o in
    let one = first_alone f q (replicate 16 c.image_of-one.result) (c.image_of-one.ensures ∙ ap (λ (t : Transform). image t f) c.nth-plain.ensures.number) in
    let two = twice_as_many f q V0 c.at.result (replicate 16 c.image_of-one.result) c.flip_more-two.result h (c.at.ensures ∙ place V0) one c.flip_more-two.ensures.kept c.flip_more-two.ensures.more in
    let four = twice_as_many f q V1 c.at-2.result c.flip_more-two.result c.flip_more-four.result h (c.at-2.ensures ∙ place V1) two c.flip_more-four.ensures.kept c.flip_more-four.ensures.more in
    let eight = twice_as_many f q V2 c.at-3.result c.flip_more-four.result c.flip_more-eight.result h (c.at-3.ensures ∙ place V2) four c.flip_more-eight.ensures.kept c.flip_more-eight.ensures.more in
    twice_as_many f q V3 c.at-4.result c.flip_more-eight.result c.flip_more.result h (c.at-4.ensures ∙ place V3) eight c.flip_more.ensures.kept c.flip_more.ensures.more
