-- `Table::running_among` meets its contract. The loop's invariant: the map is that of the records below i. Assumes
-- nothing.
use mathlib.Core.Path.{◌∙◌}
use Rattle.task.proofs.Gathering.{gather_more, gather_same}
use Rattle.table.proofs.Table.running_among.Goals.{then-runs_picked, else-runs_picked}
use Rattle.table.proofs.Table.running_among.Goals as goal

pub loop-i-preserved : goal.loop-i-preserved
loop-i-preserved c =
    let p = c.runs_picked.ensures in
    elim c.if-runs_picked.branch [
      | then-runs_picked w ↦ gather_more _ _ _ c.loop-i.invariant p w.if-runs_picked.true (w.units-is ∙ w.with_bit-units.ensures)
      | else-runs_picked w ↦ gather_same _ _ _ c.loop-i.invariant p w.if-runs_picked.false w.units-is
    ]
