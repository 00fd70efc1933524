use Rattle.std.proofs.Common.{refl, rules}
use borrow.Author.Tests.{tests}
use Rattle.netlists.proofs.Ways.{output_missing}
use Rattle.gates.specs.Gates.{netlist_of}
use Rattle.gates.specs.Laws.{gates_lawful, gates_same}
use Rattle.gates.proofs.Calls.{output_still, output_answer}
use Rattle.gates.proofs.gates.network.GatesNetwork.output.Goals as goal

pub returns-then-not-has_node-clause-answer : goal.returns-then-not-has_node-clause-answer
returns-then-not-has_node-clause-answer g c = (output_missing (netlist_of c.args.self.now) c.args.signal (cc c.if-not-has_node.ensures), refl)

pub invariant_of-self : goal.invariant_of-self
invariant_of-self g c = record {
  lawful = ∣ output_still c.args.self.now.store c.args.self.now.inputs c.args.self.now.outputs c.try_push.new.self c.args.signal (cc c.if-not-has_node.ensures) refl
      (gates_lawful c.args.self.now) c.try_push.result c.try_push.ensures ∣₁;
}

pub returns-clause-answer : goal.returns-clause-answer
returns-clause-answer g c =
    output_answer c.args.self.now.store c.args.self.now.inputs c.args.self.now.outputs c.try_push.new.self c.args.signal (cc c.if-not-has_node.ensures) refl
    c.try_push.result c.map_err.result _ (λ q. gates_same _ c.args.self.now refl refl q) c.try_push.ensures (search (rules, tests))
