use Rattle.std.proofs.Common.{◌≡◌, sym, ◌∙◌, subst}
use Rattle.tables.specs.declared.Variable.{Variable}
use Rattle.transforms.specs.declared.Order.{Order}
use Rattle.transforms.specs.Orders.{IsOrder, order_with}
use Rattle.transforms.proofs.Orderings.{numbered_order, order_lawful}
use Rattle.transforms.proofs.nth_order.Goals as goal

made : (a b c d v w x y : Variable) → a ≡ v → b ≡ w → c ≡ x → d ≡ y → order_with a b c d ≡ order_with v w x y
made a b c d v w x y e f g h = λ i. order_with (e i) (f i) (g i) (h i)

pub returns-clause-number : goal.returns-clause-number
returns-clause-number c =
    made _ _ _ _ _ _ _ _ c.map.ensures.a c.map.ensures.b c.map.ensures.c c.map.ensures.d ∙ numbered_order c.args.q (0, 0, 0, 0) c.requires

pub returns-clause-order : goal.returns-clause-order
returns-clause-order c = subst (λ (p : Order). IsOrder p) (sym (returns-clause-number c)) (order_lawful c.args.q c.requires)
