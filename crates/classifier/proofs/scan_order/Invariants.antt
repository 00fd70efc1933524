use Rattle.std.proofs.Common.{◌≡◌, ◌+◌, ◌*◌, length}
use Rattle.classifier.specs.Extremes.{AreImages, Seen}
use Rattle.classifier.proofs.scan_order.Given as goal

abbrev pub invariant-loop-m : goal.invariant-loop-m
invariant-loop-m l = record { items : AreImages l.f l.q 16 l.g-items; long : length l.g-items ≡ 16; seen : Seen l.f (16 * l.q + l.m) l.seen }
