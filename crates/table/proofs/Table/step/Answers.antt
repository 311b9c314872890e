-- `Table::step` meets its contract, by the variant. The loop's invariant: what is picked below i is wiped and its bit
-- cleared. Assumes nothing.
use Prim.Native.Nat.{◌<◌}
use native.Mathlib.Omega.{arith}
use borrow.Author.Rules.{rules}
use Rattle.table.proofs.Lists.{unmapped}
use Rattle.table.proofs.Changing.{end_wiped, end_kept, end_loop}
use Rattle.table.proofs.Table.step.Goals.{then-picked_live, else-picked_live}
use Rattle.table.specs.Steps.{stepped}
use Rattle.table.proofs.Table.step.Goals as goal

pub loop-i-preserved : goal.loop-i-preserved
loop-i-preserved c =
    let h : c.loop-i.i < 64 = omega arith in
    let e = c.loop-i.invariant in
    let p = c.picked_live.ensures in
    elim c.if-picked_live.branch [
      | then-picked_live w ↦ end_wiped _ _ _ e h p w.if-picked_live.true w.self-is w.no_task-none.ensures w.without_bit.ensures (search (rules, unmapped))
      | else-picked_live w ↦ end_kept _ _ _ e h p w.if-picked_live.false w.self-is
    ]

pub returns-in-End : goal.returns-in-End
unfolding stepped
returns-in-End c = rw c.in-End.is (search (rules, end_loop))
