-- `clashes` meets its contract. The loops' invariants: no record below i clashes with one below it, and the
-- map has the bits of the live records below i; i clashes with no record below j. Where the arms meet, i clashes with
-- none below it: the inner loop has come to its end, none of its bits is set, or it is not live. Assumes nothing.
use mathlib.Core.Path.{◌≡◌}
use mathlib.Core.Bool.{false}
use Rattle.task.specs.Index.{some_below}
use Rattle.sound.specs.Seen.{seen_below}
use Rattle.sound.proofs.Checking.{clash_at, clash_below}
use Rattle.sound.proofs.clashes.Given as goal

abbrev pub invariant-loop-j : goal.invariant-loop-j
invariant-loop-j l = (l.found ≡ false) × (some_below l.j (clash_at l.t l.i) ≡ false)

abbrev pub invariant-walk : goal.invariant-walk
invariant-walk l = (l.found ≡ false) × (some_below l.i (clash_below l.t) ≡ false) × (l.seen ≡ seen_below l.t l.i)
