-- The kinds by QUEUE CNTL's numbers, computed. An order's answer is its return code, carried out or not; and which
-- plans go by the other paths on the unit. Assumes nothing.
use Prim.Native.Nat.{ℕ, zero, suc}
use mathlib.Core.Path.{◌≡◌, refl, ap}
use mathlib.Core.Bool.{true, false}
use mathlib.Core.List.{List}
use native.Mathlib.Omega.{arith}
use lib.Dec.{eqb}
use Rattle.wire.specs.Codes
use Rattle.reply.specs.declared.Reply.TheVariants as reply
use Rattle.std.specs.Prelude.{Option, Some, None}
use Rattle.std.proofs.lemmas.Option.{none-some, cond_some}
use Rattle.task.specs.Tasks.{is_unconfirmed}
use Rattle.task.specs.declared.scan.Pick.{Pick}
use Rattle.wire.proofs.Table.{cond_ind}
use Rattle.task.proofs.Ways.{never}
use Rattle.rules.specs.Management.{order_code}
use Rattle.rules.specs.declared.facts.Facts.{Facts}
use Rattle.rules.specs.declared.facts.Lookup.{Lookup}
use Rattle.rules.specs.declared.manage.Order.{Order}
use Rattle.rules.specs.declared.manage.Order.TheVariants as order
use Rattle.std.specs.Prelude.{Ok}
use Rattle.plan.specs.Plans.{clears_set, goes_by_unit, order_plan, plan_of, awaited}
use Rattle.plan.specs.Promises.{KindIsQueue}
use Rattle.plan.specs.declared.Request.{Request}
use Rattle.plan.specs.declared.Request.TheVariants.{Command, Manage, Confirm}
use Rattle.plan.specs.declared.Plan.{Plan}
use Rattle.plan.specs.declared.Answer.TheVariants as answer

pub kind_is_queue : KindIsQueue
kind_is_queue zero l = refl
kind_is_queue (suc zero) l = refl
kind_is_queue (suc (suc zero)) l = refl
kind_is_queue (suc (suc (suc zero))) l = refl
kind_is_queue (suc (suc (suc (suc n)))) l = absurd (omega arith)

pub order_answer : (f : Facts) (others p tag : ℕ) (m : List ℕ) (o : Order) → (order_plan f others p tag m o).answer ≡ Ok (answer.Reply (reply.Response tag (order_code f m o)))
unfolding order_plan
order_answer f others p tag m o =
    cond_ind (λ (pl : Plan). pl.answer ≡ Ok (answer.Reply (reply.Response tag (order_code f m o)))) (eqb (order_code f m o).0 (Codes.done).0) (λ _. refl) (λ _. refl)

-- the task that waits to be confirmed is the one that was picked, and waits
pub awaited_is : (own : Option Pick) (w : Pick) → awaited own ≡ Some w → (own ≡ Some w) × (is_unconfirmed w.task.phase ≡ true)
awaited_is None w e = absurd (none-some w e)
awaited_is (Some p) w e = let r = cond_some (is_unconfirmed p.task.phase) p w e in (ap Some r.1, rw r.1 at r.0)

-- CLEAR TASK SET alone looks at the other paths that have a task on the unit
module _ (f : Facts) (own : Option Pick) (x y : ℕ) where
  abbrev lookup_with : ℕ → Lookup
  lookup_with others = record { facts = f; own = own; others = others }

  pub others_unasked : (next p tag : ℕ) (m : List ℕ) (w : Request) → clears_set w ≡ false → plan_of (lookup_with x) next p tag m w ≡ plan_of (lookup_with y) next p tag m w
  unfolding order_plan
  others_unasked next p tag m (Command lun flags) e = refl
  others_unasked next p tag m (Manage (order.AbortTask tag2)) e = refl
  others_unasked next p tag m (Manage (order.AbortTaskSet lun)) e = refl
  others_unasked next p tag m (Manage (order.ClearTaskSet lun)) e = absurd (never refl e)
  others_unasked next p tag m (Manage (order.ClearAca lun)) e = refl
  others_unasked next p tag m (Manage (order.UnitReset lun)) e = refl
  others_unasked next p tag m (Manage order.TargetReset) e = refl
  others_unasked next p tag m (Confirm offset complete) e = refl

-- an order that goes by its unit alone looks at whether the unit is attached, CLEAR TASK SET at the other paths as well,
-- and at nothing else that was looked up
pub tasks_unasked : (s u : Lookup) (next p tag : ℕ) (m : List ℕ) (w : Request) → goes_by_unit w ≡ true → s.facts.attached ≡ u.facts.attached → (clears_set w ≡ true → s.others ≡ u.others)
    → plan_of s next p tag m w ≡ plan_of u next p tag m w
unfolding order_plan order_code
tasks_unasked s u next p tag m (Command lun flags) e h k = absurd (never e refl)
tasks_unasked s u next p tag m (Manage (order.AbortTask tag2)) e h k = absurd (never e refl)
tasks_unasked s u next p tag m (Manage (order.AbortTaskSet lun)) e h k = rw h
tasks_unasked s u next p tag m (Manage (order.ClearTaskSet lun)) e h k = rw (h, k refl)
tasks_unasked s u next p tag m (Manage (order.ClearAca lun)) e h k = absurd (never e refl)
tasks_unasked s u next p tag m (Manage (order.UnitReset lun)) e h k = rw h
tasks_unasked s u next p tag m (Manage order.TargetReset) e h k = refl
tasks_unasked s u next p tag m (Confirm offset complete) e h k = absurd (never e refl)
