-- `paths::give_cleared_attention` meets its contract. The loop's invariant: the paths of the map below p have cleared attention,
-- the others as they were. Assumes nothing.
use native.Mathlib.Omega.{arith}
use Rattle.task.proofs.Ways.{answered_true, answered_false}
use Rattle.table.proofs.Changing.{path_through, path_kept, paths_end}
use Rattle.table.specs.Tables.{cleared_attention_in}
use Rattle.table.proofs.paths.give_cleared_attention.Goals.{then-bit_of, else-bit_of}
use Rattle.table.proofs.paths.give_cleared_attention.Goals as goal

pub loop-p-preserved : goal.loop-p-preserved
loop-p-preserved c =
    let l = c.loop-p.invariant in
    elim c.if-bit_of.branch [
      | then-bit_of w ↦ path_through _ _ _ _ l.0 l.1 w.a-items-is w.with_cleared_attention.ensures (answered_true c.bit_of.ensures w.if-bit_of.true) c.loop-p-test.true
      | else-bit_of w ↦ path_kept _ _ _ _ l.0 l.1 w.a-items-is (answered_false c.bit_of.ensures w.if-bit_of.false) c.loop-p-test.true
    ]

pub returns : goal.returns
unfolding cleared_attention_in
returns c = let l = c.loop-p.invariant in paths_end _ _ _ _ l.0 l.1 (omega arith) (omega arith)
