-- `Table::holders` meets its contract. The loop's invariant: the map, or none, is that of the records below i. Assumes
-- nothing.
use mathlib.Core.Path.{◌≡◌}
use Rattle.table.proofs.Stepping.{held_below}
use Rattle.table.proofs.Table.holders.Given as goal

abbrev pub invariant-loop-i : goal.invariant-loop-i
invariant-loop-i l = l.held ≡ held_below l.fn.self l.s l.i
