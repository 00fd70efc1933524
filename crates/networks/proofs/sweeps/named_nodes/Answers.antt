use Rattle.std.proofs.Common.{ℕ, ◌≡◌, ◌<◌, ◌≤◌, ◌||◌, ◌+◌, drop, length, get_or, sym, ap, subst, ◌∙◌, arith}
use Rattle.std.proofs.lemmas.List.{drop_all}
use Rattle.netlists.specs.declared.Node.{Node}
use Rattle.netlists.specs.Placing.{no_signal}
use Rattle.netlists.specs.Copies.{has, output_nodes}
use Rattle.netlists.proofs.Ways.{output_there}
use Rattle.networks.specs.declared.node_set.NodeSet.{NodeSet}
use Rattle.networks.specs.NodeSets.{within}
use Rattle.networks.proofs.Copying.{never, output_next}
use Rattle.networks.proofs.Reaching.{output_more, outputs_all, output_small}
use Rattle.networks.proofs.sweeps.named_nodes.Goals as goal
use Rattle.networks.proofs.sweeps.named_nodes.Goals.{in-Ok, in_default}

pub insert-requires : goal.insert-requires
insert-requires g c =
    let n = g.N.Network.netlist c.args.net.now in
    let lt : c.loop-k.k < length n.outputs = omega arith in
    let small = output_small _ _ n (g.met.N.Network.lawful c.args.net.now) c.loop-k.k lt c.in-Ok.signal (sym c.in-Ok.ensures) in
    omega (arith, small, ap (λ (x : Node). x.number) c.node.ensures)

pub loop-k-preserved : goal.loop-k-preserved
loop-k-preserved g c =
    let n = g.N.Network.netlist c.args.net.now in
    let k = c.loop-k.k in
    let lt : k < length n.outputs = omega arith in
    let ends = λ (s : NodeSet). (m : ℕ) → (within s m || has m (output_nodes (drop (k + 1) n.outputs))) ≡ has m (output_nodes n.outputs) in
    elim c.match-output_signal.branch [
      | in-Ok w ↦
          subst ends (sym w.nodes-is)
          (output_more c.loop-k.nodes _ w.in-Ok.signal _ _ _ w.node.result.number (output_next n k w.in-Ok.signal lt (sym w.in-Ok.ensures)) (ap (λ (x : Node). x.number) w.node.ensures) c.loop-k.invariant w.insert.ensures)
      | in_default w ↦ never (get_or n.outputs k no_signal) w.in_default.field-0 c.output_signal.result (c.output_signal.ensures ∙ output_there n k lt) w.in_default.is
    ]

pub returns : goal.returns
returns g c =
    let n = g.N.Network.netlist c.args.net.now in
    let all : length n.outputs ≤ c.loop-k.k = omega arith in
    outputs_all _ _ _ (drop_all c.loop-k.k n.outputs all) c.loop-k.invariant
