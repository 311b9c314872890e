-- `Table::running_among` meets its contract. The loop's invariant: the map is that of the records below i. Assumes
-- nothing.
use mathlib.Core.Path.{◌≡◌}
use Rattle.task.proofs.Gathering.{gathered}
use Rattle.table.specs.Steps.{runs_picked}
use Rattle.table.proofs.Stepping.{unit_in}
use Rattle.table.proofs.Table.running_among.Given as goal

abbrev pub invariant-loop-i : goal.invariant-loop-i
invariant-loop-i l = l.units ≡ gathered (runs_picked l.fn.self l.s) (unit_in l.fn.self) l.i
