-- `units_ok` meets its contract. The loop's invariant: every unit below u is in order. Assumes nothing.
use mathlib.Core.Path.{◌≡◌}
use mathlib.Core.Bool.{true}
use Rattle.task.specs.Index.{all_below}
use Rattle.sound.proofs.Checking.{unit_fine}
use Rattle.sound.proofs.units_ok.Given as goal

abbrev pub invariant-loop-u : goal.invariant-loop-u
invariant-loop-u l = all_below l.u (unit_fine l.fn.t) ≡ true
