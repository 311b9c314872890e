-- The promises of specs/Promises.antt. Assumes nothing.
use mathlib.Core.Path.{sym}
use Rattle.task.specs.Map.{lowest_free, live_count}
use Rattle.task.specs.Promises.{CountIsOnes, FreeIsTrailing}
use Rattle.task.proofs.Bits.{ones_count, trailing_first}

pub count_is_ones : CountIsOnes
unfolding live_count
count_is_ones live h = sym (ones_count 64 live h)

pub free_is_trailing : FreeIsTrailing
unfolding lowest_free
free_is_trailing live h = sym (trailing_first 64 live h)
