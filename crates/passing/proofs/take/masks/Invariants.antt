-- So many masks are there.
use Rattle.std.proofs.Common.{◌≡◌, ℕ, ◌<◌, get_or, drop, length}
use Rattle.passing.specs.Bytes.{littles}
use Rattle.passing.proofs.take.masks.Given as goal

abbrev pub invariant-loop-i : goal.invariant-loop-i
invariant-loop-i l = record {
  long : length l.to ≡ 5;
  same : (k : ℕ) → k < l.i → get_or l.to k 0 ≡ get_or (littles 8 5 (drop 26 l.bytes)) k 0;
}
