-- `Table::others_on` meets its contract. The loop's invariant: the map is that of the others below p. Assumes nothing.
use Prim.Native.Nat.{◌<◌}
use mathlib.Core.Path.{◌≡◌, ◌∙◌}
use native.Mathlib.Omega.{arith}
use borrow.Author.Rules.{rules}
use Rattle.task.proofs.Gathering.{gather_more, gather_same}
use Rattle.table.proofs.Lists.{unmapped}
use Rattle.table.proofs.Stepping.{other_as}
use Rattle.table.proofs.Table.others_on.Goals.{then-is_other_on, else-is_other_on}
use Rattle.table.proofs.Table.others_on.Goals as goal

pub loop-p-preserved : goal.loop-p-preserved
loop-p-preserved c =
    let loop = c.loop-p in
    let l : loop.p < 8 = omega arith in
    let e : c.is_other_on.result ≡ _ =
    other_as _ _ _ _ l (search (rules, unmapped)) c.on_unit.ensures c.holders.ensures c.unwrap_or-held.ensures c.is_live-has.ensures c.is_other_on.ensures in
    elim c.if-is_other_on.branch [
      | then-is_other_on w ↦ gather_more _ _ _ loop.invariant e w.if-is_other_on.true (w.others-is ∙ w.with_bit-others.ensures)
      | else-is_other_on w ↦ gather_same _ _ _ loop.invariant e w.if-is_other_on.false w.others-is
    ]
