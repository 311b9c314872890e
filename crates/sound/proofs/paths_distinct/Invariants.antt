-- `paths_distinct` meets its contract. The loop's invariant: every listed path below p is the first with its
-- id. Assumes nothing.
use mathlib.Core.Path.{◌≡◌}
use mathlib.Core.Bool.{true}
use Rattle.task.specs.Index.{all_below}
use Rattle.sound.proofs.Checking.{first_with_id}
use Rattle.sound.proofs.paths_distinct.Given as goal

abbrev pub invariant-loop-p : goal.invariant-loop-p
invariant-loop-p l = all_below l.p (first_with_id l.fn.t) ≡ true
