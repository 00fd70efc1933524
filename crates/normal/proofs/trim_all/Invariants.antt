use Rattle.std.proofs.Common.{◌≡◌, take, fold}
use Rattle.netlists.specs.Normal.{trimmed}
use Rattle.normal.proofs.trim_all.Given as goal

abbrev pub invariant-loop-v : goal.invariant-loop-v
invariant-loop-v l = l.row ≡ fold trimmed l.fn.row (take l.v-index l.v-items)
