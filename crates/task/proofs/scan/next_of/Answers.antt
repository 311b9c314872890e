-- `scan::next_of` meets its contract: one more record is considered at each turn, and at the end none is left.
-- Assumes nothing.
use Rattle.std.proofs.Common.{◌+◌, drop, sym, ◌∙◌, ap}
use Rattle.task.specs.Scan.{scan_from}
use Rattle.task.proofs.Scanning.{scan_step_or, scan_end}
use Rattle.task.proofs.scan.next_of.Goals as goal

pub loop-i-preserved : goal.loop-i-preserved
loop-i-preserved c =
    let l = c.loop-i in
    l.invariant ∙ scan_step_or c.args.live c.args.s l.best l.i c.args.tasks.now _ c.loop-i-test.true ∙ ap (λ b. scan_from c.args.live c.args.s b (l.i + 1) (drop (l.i + 1) c.args.tasks.now)) (sym c.consider.ensures)

pub returns : goal.returns
returns c =
    let l = c.loop-i in
    sym (l.invariant ∙ scan_end c.args.live c.args.s l.best l.i c.args.tasks.now l.auto.i-end c.loop-i-test.false)
