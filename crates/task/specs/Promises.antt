-- What is promised beside the contracts: the live count, a count by places, is the number of ones of the map, and the
-- lowest free place is the number of trailing zeros of the inverted map. Both are proved in proofs/Promises.antt.
use Rattle.std.specs.Prelude.{ℕ, ◌-◌, ◌^◌, ◌<◌, ◌≡◌}
use Rattle.std.specs.Int.Count.{ones, count_trailing_zeros}
use Rattle.task.specs.Map.{lowest_free, live_count}

abbrev pub CountIsOnes : Type 0
CountIsOnes = (live : ℕ) → live < 2 ^ 64 → live_count live ≡ ones live

abbrev pub FreeIsTrailing : Type 0
FreeIsTrailing = (live : ℕ) → live < 2 ^ 64 → lowest_free live ≡ count_trailing_zeros 64 (2 ^ 64 - 1 - live)
