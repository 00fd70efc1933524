use Rattle.std.proofs.Common.{◌≡◌, take, fold}
use Rattle.netlists.specs.Normal.{grounded}
use Rattle.normal.proofs.ground_all.Given as goal

abbrev pub invariant-loop-v : goal.invariant-loop-v
invariant-loop-v l = l.row ≡ fold grounded l.fn.row (take l.v-index l.v-items)
