use Rattle.std.proofs.Common.{◌≡◌, ℕ, ◌+◌, ◌-◌, ◌<◌, length, get_or, sym, ap, ◌∙◌, arith}
use Rattle.netlists.specs.Placing.{no_row}
use Rattle.netlists.proofs.Ways.{row_there}
use Rattle.networks.proofs.Copying.{never, asked_there}
use Rattle.networks.proofs.Reaching.{rows_claimed, rows_reached, row_small}
use Rattle.networks.proofs.sweeps.reached_nodes.Goals as goal

pub claim-requires : goal.claim-requires
claim-requires g c =
    let n = g.N.Network.netlist c.args.net.now in
    let k = c.loop-k.k - 1 in
    let lt : k < length n.rows = omega arith in
    row_small _ _ n (g.met.N.Network.lawful c.args.net.now) k lt c.in-Ok.row (asked_there n k c.in-Ok.row (sym c.in-Ok.ensures) lt)

pub loop-k-preserved-in-Ok : goal.loop-k-preserved-in-Ok
loop-k-preserved-in-Ok g c =
    let n = g.N.Network.netlist c.args.net.now in
    let k = c.loop-k.k in
    let lt : k - 1 < length n.rows = omega arith in
    let e : k ≡ k - 1 + 1 = omega arith in
    rows_claimed _ n.rows (c.input_count-first.result + 1) (k - 1) k c.in-Ok.row _ lt e (asked_there n (k - 1) c.in-Ok.row (sym c.in-Ok.ensures) lt) (c.claim.ensures _ c.loop-k.invariant)

pub loop-k-preserved : goal.loop-k-preserved
loop-k-preserved g c =
    let n = g.N.Network.netlist c.args.net.now in
    let k = c.loop-k.k - 1 in
    let lt : k < length n.rows = omega arith in
    never (get_or n.rows k no_row) c.in_default.field-0 c.row.result (c.row.ensures ∙ row_there n k lt) c.in_default.is

pub returns : goal.returns
returns g c =
    let z : c.loop-k.k ≡ 0 = omega arith in
    rows_reached _ _ (c.input_count-first.result + 1) c.loop-k.k z (ap (λ (i : ℕ). i + 1) c.input_count-first.ensures) c.loop-k.invariant
