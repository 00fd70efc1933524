use Rattle.std.proofs.Common.{◌≡◌, ℕ, ◌+◌, ◌<◌, length}
use Rattle.std.specs.List.{slice_index}
use Rattle.tables.specs.Tables.{flipped}
use Rattle.classifier.proofs.flip_more.Given as goal

abbrev pub invariant-loop-m : goal.invariant-loop-m
invariant-loop-m l = record {
  long : length l.all ≡ 16;
  kept : (k : ℕ) → k < l.n → slice_index l.all k ≡ slice_index l.images k;
  more : (k : ℕ) → k < l.m → slice_index l.all (l.n + k) ≡ flipped (slice_index l.images k) l.v;
}
