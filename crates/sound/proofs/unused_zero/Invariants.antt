-- `unused_zero` meets its contract. The loop's invariant: every path below p is listed or all zero. Assumes
-- nothing.
use mathlib.Core.Path.{◌≡◌}
use mathlib.Core.Bool.{true}
use Rattle.task.specs.Index.{all_below}
use Rattle.sound.proofs.Checking.{used_or_zero}
use Rattle.sound.proofs.unused_zero.Given as goal

abbrev pub invariant-loop-p : goal.invariant-loop-p
invariant-loop-p l = all_below l.p (used_or_zero l.fn.t) ≡ true
