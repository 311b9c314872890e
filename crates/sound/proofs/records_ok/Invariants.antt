-- `records_ok` meets its contract. The loop's invariant: every record below i is in order. Assumes nothing.
use mathlib.Core.Path.{◌≡◌}
use mathlib.Core.Bool.{true}
use Rattle.task.specs.Index.{all_below}
use Rattle.sound.proofs.Checking.{record_fine}
use Rattle.sound.proofs.records_ok.Given as goal

abbrev pub invariant-loop-i : goal.invariant-loop-i
invariant-loop-i l = all_below l.i (record_fine l.fn.t) ≡ true
