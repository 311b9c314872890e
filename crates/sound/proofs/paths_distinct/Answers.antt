-- `paths_distinct` meets its contract. The loop's invariant: every listed path below p is the first with its
-- id. Assumes nothing.
use mathlib.Core.Path.{◌≡◌}
use mathlib.Core.Bool.{false}
use Rattle.task.proofs.Loops.{all_loop}
use Rattle.sound.specs.Sound.{paths_distinct}
use borrow.Author.Tests.{lt-ltb}
use Rattle.sound.proofs.Checking.{first_with_id, listed_other}
use Rattle.sound.proofs.paths_distinct.Goals as goal

pub returns-then-ne : goal.returns-then-ne
unfolding paths_distinct
returns-then-ne c =
    let h : false ≡ first_with_id c.args.t c.loop-p.p = rw (lt-ltb _ _ c.if-p-t.true) (listed_other _ c.place_of.ensures c.ne.ensures c.if-ne.true c.loop-p-test.true) in
    search all_loop
