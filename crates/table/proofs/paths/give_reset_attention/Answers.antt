-- `paths::give_reset_attention` meets its contract. The loop's invariant: the listed paths below p have reset attention, the
-- others as they were. Assumes nothing.
use native.Mathlib.Omega.{arith}
use borrow.Author.Tests.{lt-ltb, le-ltb}
use Rattle.table.proofs.Changing.{path_through, path_kept, paths_end}
use Rattle.table.specs.Tables.{reset_attention_in}
use Rattle.table.proofs.paths.give_reset_attention.Goals.{then-p-count, else-p-count}
use Rattle.table.proofs.paths.give_reset_attention.Goals as goal

pub loop-p-preserved : goal.loop-p-preserved
loop-p-preserved c =
    let l = c.loop-p.invariant in
    elim c.if-p-count.branch [
      | then-p-count w ↦ path_through _ _ _ _ l.0 l.1 w.a-items-is w.with_reset_attention.ensures (lt-ltb _ _ w.if-p-count.true) c.loop-p-test.true
      | else-p-count w ↦ path_kept _ _ _ _ l.0 l.1 w.a-items-is (le-ltb _ _ w.if-p-count.false) c.loop-p-test.true
    ]

pub returns : goal.returns
unfolding reset_attention_in
returns c = let l = c.loop-p.invariant in paths_end _ _ _ _ l.0 l.1 (omega arith) (omega arith)
