-- The state of the scan's loop: what is left to scan gives what the whole scan gives. Assumes nothing.
use Rattle.std.proofs.Common.{◌≡◌, drop}
use Rattle.task.specs.Scan.{scan_from, scan}
use Rattle.task.proofs.scan.next_of.Given as goal

abbrev pub invariant-loop-i : goal.invariant-loop-i
invariant-loop-i l = scan l.live l.s l.tasks ≡ scan_from l.live l.s l.best l.i (drop l.i l.tasks)
