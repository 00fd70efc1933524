use Rattle.std.proofs.Common.{arith, rules}
use Rattle.classifier.specs.Extremes.{Seen}
use Rattle.classifier.proofs.Bounds.{none_seen, low_class, high_class, class_law}
use Rattle.classifier.proofs.scan.Goals as goal

pub loop-q-init : goal.loop-q-init
loop-q-init c = none_seen c.args.f (omega arith)

pub returns : goal.returns
returns c =
    let s = c.loop-q.seen in
    let b : Seen c.args.f 384 s = search rules in
    record { few = b.high.small; low = low_class c.args.f s b; high = high_class c.args.f s b; law = class_law c.args.f (omega arith) }
