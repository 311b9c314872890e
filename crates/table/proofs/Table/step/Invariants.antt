-- `Table::step` meets its contract, by the variant. The loop's invariant: what is picked below i is wiped and its bit
-- cleared. Assumes nothing.
use mathlib.Core.Path.{◌≡◌}
use Rattle.table.proofs.Changing.{ended_below}
use Rattle.table.proofs.Table.step.Given as goal

abbrev pub invariant-loop-i : goal.invariant-loop-i
invariant-loop-i l = l.self ≡ ended_below l.initial.self l.which l.i
