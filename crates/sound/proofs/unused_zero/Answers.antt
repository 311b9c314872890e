-- `unused_zero` meets its contract. The loop's invariant: every path below p is listed or all zero. Assumes
-- nothing.
use mathlib.Core.Path.{◌≡◌}
use mathlib.Core.Bool.{false}
use Rattle.task.proofs.Loops.{all_loop}
use Rattle.sound.specs.Sound.{unused_zero}
use Rattle.task.proofs.Ways.{ways}
use Rattle.sound.proofs.Checking.{used_or_zero}
use Rattle.sound.proofs.unused_zero.Goals as goal

pub returns-then-not-is_no_path : goal.returns-then-not-is_no_path
unfolding unused_zero
returns-then-not-is_no_path c =
    let h : false ≡ used_or_zero c.args.t c.loop-p.p = search ways in
    search all_loop
