-- `setup::listed` meets its contract. The loop's invariant: the paths are those of the first i ids. Assumes nothing.
use Rattle.table.proofs.Setting.{list_start}
use Rattle.table.proofs.setup.listed.Goals as goal

pub loop-i-init : goal.loop-i-init
loop-i-init c = search list_start
