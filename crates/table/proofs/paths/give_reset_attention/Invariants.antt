-- `paths::give_reset_attention` meets its contract. The loop's invariant: the listed paths below p have reset attention, the
-- others as they were; and the paths are 8. Assumes nothing.
use mathlib.Core.Path.{◌≡◌}
use lib.Dec.{ltb}
use lib.ListN.{length}
use Rattle.table.proofs.Changing.{paths_below}
use Rattle.table.specs.Tables.{with_reset_attention}
use Rattle.table.proofs.paths.give_reset_attention.Given as goal

abbrev pub invariant-loop-p : goal.invariant-loop-p
invariant-loop-p l = (l.a-items ≡ paths_below l.initial.a-items (λ k. ltb k l.count) (with_reset_attention l.unmark) l.p) × (length l.a-items ≡ 8)
