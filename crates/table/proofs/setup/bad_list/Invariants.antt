-- `setup::bad_list` meets its contract. The loop's invariant: no id below i stands among those before it. Assumes
-- nothing.
use mathlib.Core.Path.{◌≡◌}
use mathlib.Core.Bool.{false}
use Rattle.task.specs.Index.{some_below}
use Rattle.table.specs.Setup.{seen_before}
use Rattle.table.proofs.setup.bad_list.Given as goal

abbrev pub invariant-loop-i : goal.invariant-loop-i
invariant-loop-i l = some_below l.i (seen_before l.ids) ≡ false
