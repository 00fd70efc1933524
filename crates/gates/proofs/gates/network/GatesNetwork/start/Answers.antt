use Rattle.std.proofs.Common.{arith}
use Rattle.gates.proofs.Calls.{new_lawful, started}
use Rattle.gates.proofs.gates.network.GatesNetwork.start.Goals as goal

pub invariant_of-self : goal.invariant_of-self
invariant_of-self g c = record { lawful = ∣ new_lawful c.clear.new.self c.clear-2.new.self c.args.inputs (omega arith) c.clear.ensures.rows c.clear-2.ensures ∣₁ }

pub returns-clause-answer : goal.returns-clause-answer
returns-clause-answer g c = started c.clear.new.self c.clear-2.new.self c.args.inputs (omega arith) c.clear.ensures.rows c.clear-2.ensures
