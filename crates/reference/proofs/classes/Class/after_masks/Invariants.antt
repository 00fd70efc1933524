use Rattle.std.proofs.Common.{◌+◌, ◌*◌}
use Rattle.reference.specs.Classes.{IsFirstLeast}
use Rattle.reference.proofs.classes.Class.after_masks.Given as goal

abbrev pub invariant-loop-mask : goal.invariant-loop-mask
invariant-loop-mask l = IsFirstLeast l.f (l.block * 16 + l.mask) l.least
