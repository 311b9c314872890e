-- `clashes` meets its contract. The loops' invariants: no record below i clashes with one below it, and the
-- map has the bits of the live records below i; i clashes with no record below j. Where the arms meet, i clashes with
-- none below it: the inner loop has come to its end, none of its bits is set, or it is not live. Assumes nothing.
use mathlib.Core.Path.{◌≡◌, refl, ◌∙◌}
use mathlib.Core.Bool.{false}
use native.Mathlib.Omega.{arith}
use Rattle.task.proofs.Loops.{some_more, some_hit, some_end}
use Rattle.task.specs.Index.{some_below}
use Rattle.sound.specs.Seen.{seen_below}
use Rattle.sound.specs.Sound.{clashes}
use Rattle.sound.proofs.Checking.{clash_at, clash_below}
use Rattle.sound.proofs.SeenCases.{clear_clashes, dead_clashes, live_bits, dead_bits}
use Rattle.sound.proofs.clashes.Goals.{then-is_live, then-may_clash+else-loop-j-test, else-may_clash, else-is_live}
use Rattle.sound.proofs.clashes.Goals as goal

pub walk-init : goal.walk-init
unfolding some_below seen_below
walk-init c = (refl, refl, refl)

pub walk-preserved : goal.walk-preserved
walk-preserved c =
    let w = c.walk in
    let t = c.args.t in
    let live = c.is_live.ensures in
    elim c.if-is_live.branch [
      | then-is_live p ↦
          let met : (p.if-may_clash.found ≡ false) × (false ≡ clash_below t w.i) =
          elim p.if-may_clash.branch [
            | then-may_clash+else-loop-j-test q ↦ (q.found-is ∙ q.loop-j.invariant.0, some_end _ _ (omega arith) q.loop-j-test.false q.loop-j.invariant.1)
            | else-may_clash q ↦ (q.found-is ∙ w.invariant.0, clear_clashes t w.i w.invariant.2 p.may_clash.ensures q.if-may_clash.false)
          ] in (
            p.found-is ∙ met.0,
            some_more _ _ w.invariant.1 met.1 refl,
            live_bits t w.i live w.invariant.2 p.if-is_live.true (p.seen-is ∙ p.set_bits.ensures),
          )
      | else-is_live p ↦ (
        p.found-is ∙ w.invariant.0,
        some_more _ _ w.invariant.1 (dead_clashes t w.i live p.if-is_live.false) refl,
        p.seen-is ∙ dead_bits t w.i live w.invariant.2 p.if-is_live.false,
      )
    ]

pub returns-after-walk : goal.returns-after-walk
unfolding clashes
returns-after-walk c =
    let w = c.walk in
    w.invariant.0 ∙ some_end _ 64 (omega arith) c.walk-test.false w.invariant.1

pub returns-then-clash : goal.returns-then-clash
unfolding clashes
returns-then-clash c =
    let l = c.loop-j in
    let w = c.walk in
    let t = c.args.t in
    some_hit (clash_below t) 64 {i = w.i} (omega arith)
    (some_hit (clash_at t w.i) w.i {i = l.j} (omega arith) c.clash.ensures c.if-clash.true) refl
