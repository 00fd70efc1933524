use Rattle.quote.proofs.Digits.{Sofar}
use Rattle.quote.proofs.parse.parse_digits.Given as goal

abbrev pub invariant-loop-b : goal.invariant-loop-b
invariant-loop-b l = Sofar l.digits l.b-index l.value
