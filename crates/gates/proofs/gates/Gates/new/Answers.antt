use Rattle.std.proofs.Common.{arith}
use Rattle.gates.proofs.Calls.{new_lawful}
use Rattle.gates.proofs.gates.Gates.new.Goals as goal

pub invariant_of-result : goal.invariant_of-result
invariant_of-result g c = record { lawful = ∣ new_lawful c.new.result c.new-2.result 0 (omega arith) c.new.ensures.rows c.new-2.ensures.listed ∣₁ }
