use Rattle.std.proofs.Common.{◌≤◌, true, length, refl, arith, rules}
use Rattle.networks.proofs.Keeping.{whole_copy}
use Rattle.networks.proofs.copies.copy_netlist.Goals as goal

pub returns-clause-copy : goal.returns-clause-copy
returns-clause-copy g c =
    let n = g.N.Network.netlist c.args.from.now in
    let room : length n.rows ≤ g.N.Network.places c.args.to.now = omega arith in
    whole_copy _ _ _ n (λ k. true) c.copy_kept.result _ _ (g.met.N.Network.lawful c.args.from.now) room (λ k h. refl)
    (c.copy_kept.ensures.copy (λ k. true) (λ k b h p. search rules))
