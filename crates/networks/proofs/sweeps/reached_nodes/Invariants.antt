use Rattle.std.proofs.Common.{◌+◌, drop}
use Rattle.netlists.specs.Copies.{claims, output_nodes}
use Rattle.networks.specs.NodeSets.{Holds}
use Rattle.networks.proofs.sweeps.reached_nodes.Given as goal

abbrev pub invariant-loop-k : goal.invariant-loop-k
invariant-loop-k g l =
    let n = g.N.Network.netlist l.net in
    Holds l.nodes (claims (l.first + l.k) (drop l.k n.rows) (output_nodes n.outputs))
