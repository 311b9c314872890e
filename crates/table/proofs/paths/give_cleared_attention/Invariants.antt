-- `paths::give_cleared_attention` meets its contract. The loop's invariant: the paths of the map below p have cleared attention,
-- the others as they were; and the
-- paths are 8. Assumes nothing.
use mathlib.Core.Path.{◌≡◌}
use lib.ListN.{length}
use Rattle.table.proofs.Changing.{paths_below}
use Rattle.table.specs.Tables.{bit_of, with_cleared_attention}
use Rattle.table.proofs.paths.give_cleared_attention.Given as goal

abbrev pub invariant-loop-p : goal.invariant-loop-p
invariant-loop-p l = (l.a-items ≡ paths_below l.initial.a-items (bit_of l.others) with_cleared_attention l.p) × (length l.a-items ≡ 8)
