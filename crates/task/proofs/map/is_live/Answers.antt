-- `map::is_live` meets its contract: a map below 2 ^ 64 has no bit past 63. Assumes nothing.
use mathlib.Core.Path.{sym}
use Rattle.task.proofs.Bits.{dead_past}
use Rattle.task.proofs.map.is_live.Goals as goal

pub returns-then-i-ge-RECORDS : goal.returns-then-i-ge-RECORDS
returns-then-i-ge-RECORDS c = sym (dead_past 64 c.args.live c.args.i c.ranges.live.fits c.if-i-ge-RECORDS.true)
