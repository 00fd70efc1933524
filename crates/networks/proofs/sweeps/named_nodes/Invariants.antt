use Rattle.std.proofs.Common.{◌≡◌, ℕ, ◌||◌, drop}
use Rattle.netlists.specs.Copies.{has, output_nodes}
use Rattle.networks.specs.NodeSets.{within}
use Rattle.networks.proofs.sweeps.named_nodes.Given as goal

-- what is in the set, and what is left to come
abbrev pub invariant-loop-k : goal.invariant-loop-k
invariant-loop-k g l =
    let outputs = (g.N.Network.netlist l.net).outputs in
    (n : ℕ) → (within l.nodes n || has n (output_nodes (drop l.k outputs))) ≡ has n (output_nodes outputs)
