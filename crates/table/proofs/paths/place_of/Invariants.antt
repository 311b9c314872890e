-- `paths::place_of` meets its contract. The loop's invariant: no path below p has the id. Assumes nothing.
use mathlib.Core.Path.{◌≡◌}
use mathlib.Core.Bool.{false}
use lib.ListN.{get_or}
use Rattle.task.specs.Index.{some_below}
use Rattle.table.specs.Tables.{no_path, has_id}
use Rattle.table.proofs.paths.place_of.Given as goal

abbrev pub invariant-loop-p : goal.invariant-loop-p
invariant-loop-p l = some_below l.p (λ k. has_id l.count l.id k (get_or l.a-items k no_path)) ≡ false
