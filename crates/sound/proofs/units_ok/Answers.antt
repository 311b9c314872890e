-- `units_ok` meets its contract. The loop's invariant: every unit below u is in order. Assumes nothing.
use Rattle.task.proofs.Loops.{all_loop}
use Rattle.sound.specs.Sound.{units_ok}
use Rattle.sound.proofs.units_ok.Goals as goal

pub returns-then-not-unit_ok : goal.returns-then-not-unit_ok
unfolding units_ok
returns-then-not-unit_ok c = search all_loop
