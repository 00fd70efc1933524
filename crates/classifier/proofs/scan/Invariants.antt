use Rattle.std.proofs.Common.{◌*◌}
use Rattle.classifier.specs.Extremes.{Seen}
use Rattle.classifier.proofs.scan.Given as goal

abbrev pub invariant-loop-q : goal.invariant-loop-q
invariant-loop-q l = Seen l.f (16 * l.q) l.seen
