-- `Table::others_on` meets its contract. The loop's invariant: the map is that of the others below p. Assumes nothing.
use mathlib.Core.Path.{◌≡◌}
use Rattle.task.proofs.Gathering.{gathered}
use Rattle.table.specs.Tables.{is_other_on}
use Rattle.table.proofs.Table.others_on.Given as goal

abbrev pub invariant-loop-p : goal.invariant-loop-p
invariant-loop-p l = l.others ≡ gathered (is_other_on l.fn.self l.unit l.sender) (λ i. i) l.p
