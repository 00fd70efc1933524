use Rattle.std.proofs.Common.{ℕ, List, [], ap, ◌∙◌, ◌/◌, ◌%◌, nat_le, slice_index_or}
use Rattle.reference.proofs.Bits.{orders_are}
use Rattle.reference.specs.declared.classes.Transform.{Transform}
use Rattle.reference.specs.declared.classes.TheConstants.{ORDERS}
use Rattle.reference.specs.declared.tables.Variable.{Variable}
use Rattle.reference.proofs.classes.nth_transform.Goals as goal

pub returns : goal.returns
returns c =
    let at : List (List Variable) → ℕ → Transform = λ orders q. record { output = nat_le 384 c.args.n; order = slice_index_or orders q []; mask = c.args.n % 16 } in
    ap (at ORDERS) c.from.ensures ∙ ap (λ orders. at orders (c.args.n / 16 % 24)) orders_are
