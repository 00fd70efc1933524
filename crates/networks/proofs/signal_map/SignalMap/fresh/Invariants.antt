use Rattle.std.proofs.Common.{◌≡◌, map}
use Rattle.std.specs.List.{range_with_len}
use Rattle.networks.proofs.Copying.{plain}
use Rattle.networks.proofs.signal_map.SignalMap.fresh.Given as goal

abbrev pub invariant-loop-n : goal.invariant-loop-n
invariant-loop-n l = l.map ≡ map plain (range_with_len 0 l.n)
