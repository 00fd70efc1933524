use Rattle.std.proofs.Common.{◌≡◌, ◌≤◌, length, ◌∙◌, arith, rules}
use Rattle.netlists.specs.Copies.{kept_before, reached}
use Rattle.networks.specs.NodeSets.{within}
use Rattle.networks.proofs.Keeping.{swept_copy}
use Rattle.networks.proofs.sweeps.sweep.Goals as goal

pub returns-clause-copy : goal.returns-clause-copy
returns-clause-copy g c =
    let n = g.N.Network.netlist c.args.from.now in
    let set = c.reached_nodes-reached.result in
    let room : kept_before (within set) n.inputs (length n.rows) ≤ g.N.Network.places c.args.to.now = omega arith in
    swept_copy _ _ _ n set c.copy_kept.result _ _ (g.met.N.Network.lawful c.args.from.now) room c.reached_nodes-reached.ensures
    (c.copy_kept.ensures.copy (reached n) (λ k b h p. let e : b ≡ within set k = search rules in e ∙ c.reached_nodes-reached.ensures k))
