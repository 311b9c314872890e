-- `Table::holders` meets its contract. The loop's invariant: the map, or none, is that of the records below i. Assumes
-- nothing.
use Rattle.table.proofs.Stepping.{held_loop}
use Rattle.table.proofs.Table.holders.Goals.{then-picked_live, else-picked_live}
use Rattle.table.proofs.Table.holders.Goals as goal

pub loop-i-preserved : goal.loop-i-preserved
loop-i-preserved c = elim c.if-picked_live.branch [ then-picked_live w ↦ search held_loop | else-picked_live w ↦ search held_loop ]
