-- `setup::listed` meets its contract. The loop's invariant: the paths are those of the first i ids. Assumes nothing.
use mathlib.Core.Path.{◌≡◌}
use lib.ListN.{take}
use Rattle.table.specs.Setup.{paths_of}
use Rattle.table.proofs.setup.listed.Given as goal

abbrev pub invariant-loop-i : goal.invariant-loop-i
invariant-loop-i l = l.paths ≡ paths_of (take l.i l.ids)
