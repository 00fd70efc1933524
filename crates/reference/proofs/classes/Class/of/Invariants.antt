use Rattle.std.proofs.Common.{◌*◌}
use Rattle.reference.specs.Classes.{IsFirstLeast}
use Rattle.reference.proofs.classes.Class.of.Given as goal

abbrev pub invariant-loop-block : goal.invariant-loop-block
invariant-loop-block l = IsFirstLeast l.f (l.block * 16) l.least
