-- Where a call's answer is a reply, it is one that can be written, and it stands at the front of the buffer: rule by
-- rule, order by order, and for what a device may send. Assumes nothing.
use Rattle.std.specs.Prelude.{Result, Ok}
use Prim.Native.Nat.{ℕ, ◌≤◌}
use mathlib.Core.Path.{◌≡◌, refl, sym, ap, ◌∙◌}
use mathlib.Core.Bool.{Bool, true, false, cond, not, ◌&&◌, ◌||◌}
use mathlib.Core.List.{List}
use mathlib.Core.Option.{Option, none, some}
use native.Mathlib.Omega.{arith}
use lib.ListN.{length}
use lib.Dec.{eqb, leb}
use borrow.Author.Tests.{le-ltb}
use Rattle.wire.specs.Codes
use Rattle.wire.specs.Messages.{reserved_set}
use Rattle.wire.specs.declared.codes.Refusal.{Refusal}
use Rattle.wire.specs.declared.codes.ReturnCode.{ReturnCode}
use Rattle.wire.specs.declared.codes.StatusByte.{StatusByte}
use Rattle.wire.specs.declared.codes.Sense.{Sense}
use Rattle.wire.specs.declared.message.Flags.{Flags}
use Rattle.reply.specs.Replies.{is_none, writable_of}
use Rattle.reply.specs.Calls.{left_of}
use Rattle.reply.specs.declared.Reply.{Reply}
use Rattle.reply.specs.declared.Reply.TheVariants as reply
use Rattle.reply.proofs.Promises.{no_reply_is_longer}
use Rattle.wire.proofs.Table.{cond_ind}
use Rattle.task.proofs.Ways.{never, both}
use Rattle.table.specs.declared.Table.{Table}
use Rattle.rules.specs.Rules.{room_rules, field_rules, unit_rules, block_rules, accepts, command_rules, deciding}
use Rattle.rules.specs.Management.{has_unit, carried_code, order_code}
use Rattle.rules.specs.declared.facts.Facts.{Facts}
use Rattle.rules.specs.declared.facts.Lookup.{Lookup}
use Rattle.rules.specs.First.{Rule}
use Rattle.rules.specs.declared.manage.Order.{Order}
use Rattle.rules.specs.declared.manage.Order.TheVariants as order
use Rattle.rules.proofs.Entries.{every_rule, first_meets}
use Rattle.plan.specs.Plans.{reply_of, ruled, plan_of}
use Rattle.plan.specs.declared.Request.{Request}
use Rattle.plan.specs.declared.Request.TheVariants.{Command, Manage, Confirm}
use Rattle.plan.specs.declared.Plan.{Plan}
use Rattle.plan.specs.declared.Answer.{Answer}
use Rattle.plan.specs.declared.Answer.TheVariants as answer
use Rattle.plan.proofs.Promises.{order_answer}
use Rattle.engine.specs.Calls.{refused, plan_at, may_finish, sent_sense, left_with, replied, Answers}
use Rattle.engine.specs.Promises.{ReplyWritten, RepliesAreWritten}
use Rattle.engine.specs.declared.Outcome.{Outcome}
use Rattle.engine.proofs.Outcomes.{each_heard, each_sent, each_confirm}

-- ---- every answer that is a reply can be written

abbrev fits : Option Reply → Bool
fits none = true
fits (some r) = writable_of r

abbrev Fits : Result Answer Refusal → Type 0
Fits a = fits (reply_of a) ≡ true

-- a command: a test of every rule's answer, and of acceptance
ruling_fits : (f : Facts) (next p tag : ℕ) (m : List ℕ) (lun : ℕ) (flags : Flags) → Fits (ruled next p tag lun flags (deciding f flags m).gives).answer
unfolding every_rule command_rules room_rules field_rules unit_rules block_rules writable_of
ruling_fits f next p tag m lun flags =
    first_meets (λ (r : Rule). fits (reply_of (ruled next p tag lun flags r.gives).answer)) (command_rules f flags m) (accepts m) refl refl

-- an order: each of its return codes
module _ (tag : ℕ) where
  abbrev CodeFits : ReturnCode → Type 0
  CodeFits code = writable_of (reply.Response tag code) ≡ true

  carried_fits : (f : Facts) (o : Order) → CodeFits (carried_code f o)
  unfolding writable_of
  carried_fits f (order.AbortTask tag2) = cond_ind CodeFits f.taken (λ _. refl) (λ _. refl)
  carried_fits f (order.AbortTaskSet lun) = refl
  carried_fits f (order.ClearTaskSet lun) = refl
  carried_fits f (order.ClearAca lun) = cond_ind CodeFits f.owned (λ _. refl) (λ _. refl)
  carried_fits f (order.UnitReset lun) = refl
  carried_fits f order.TargetReset = refl

  code_fits : (f : Facts) (m : List ℕ) (o : Order) → CodeFits (order_code f m o)
  unfolding order_code writable_of
  code_fits f m o =
      cond_ind CodeFits (reserved_set m) (λ _. refl)
      (λ _. cond_ind CodeFits (has_unit o && not f.attached) (λ _. refl) (λ _. carried_fits f o))

plan_fits : (s : Lookup) (next p tag : ℕ) (m : List ℕ) (w : Request) → Fits (plan_of s next p tag m w).answer
unfolding writable_of
plan_fits s next p tag m (Command lun flags) = ruling_fits s.facts next p tag m lun flags
plan_fits s next p tag m (Manage o) = ap (λ (a : Result Answer Refusal). fits (reply_of a)) (order_answer s.facts s.others p tag m o) ∙ code_fits tag s.facts m o
plan_fits s next p tag m (Confirm offset complete) =
    each_confirm (λ (pl : Plan). Fits pl.answer) s.own p tag m offset complete refl refl (λ _ _ _. refl) (λ _ _ _ _. refl)

-- a finish: the four statuses that a device may send, and its sense key
sent_fits : (tag : ℕ) (status : StatusByte) (s : Sense) → may_finish status s ≡ true → Fits (Ok (answer.Reply (reply.Status tag status (sent_sense status s))))
unfolding writable_of
sent_fits tag status s =
    let is : StatusByte → Bool = λ x. eqb status.0 x.0 in
    cases (is Codes.check_condition) (is Codes.good) (is Codes.condition_met) (is Codes.reservation_conflict) (is Codes.task_set_full || (is Codes.aca_active || false))
  where
    cases : (checked good met reserved others : Bool) → (leb s.key 15 && (good || (checked || (met || reserved)))) ≡ true
        → cond checked (leb (cond checked s Codes.no_sense).key 15) (is_none (cond checked s Codes.no_sense) && (good || (met || (reserved || others)))) ≡ true
    cases true good met reserved others h = (both _ _ h).0
    cases false true met reserved others h = refl
    cases false false true reserved others h = refl
    cases false false false true others h = refl
    cases false false false false others h = absurd (never (both (leb s.key 15) _ h).1 refl)

-- ---- what fits is written

written : (a : Result Answer Refusal) (buf : List ℕ) (r : Reply) → Codes.reply_room ≤ length buf → Fits a → reply_of a ≡ some r → ReplyWritten r buf (replied a buf)
unfolding left_of replied
written a buf r l f e =
    let w : writable_of r ≡ true = sym (ap fits e) ∙ f in
    record { writable = w; no_longer = no_reply_is_longer r; in_front = ap (left_with buf) e ∙ rw (le-ltb (length buf) 64 l, w) }

-- what a call's outcome has to be for that
abbrev Sends : List ℕ → Outcome → Type 0
Sends buf o = (r : Reply) → reply_of o.answer ≡ some r → ReplyWritten r buf (replied o.answer buf)

refusal_sends : (buf : List ℕ) (t : Table) (n : Refusal) → Sends buf (refused t n)
refusal_sends buf t n r e = let z : ◌≡◌ {A = ℕ} 0 1 = cc in absurd (omega arith)

by_contract : {defined o : Outcome} (buf : List ℕ) {left : List ℕ} (r : Reply) → Sends buf defined → Answers defined buf o left → reply_of o.answer ≡ some r → ReplyWritten r buf left
by_contract buf r sends x e = rw x.buffer (sends r (rw x.outcome at e))

pub replies_are_written : RepliesAreWritten
unfolding plan_at
replies_are_written = record {
  message = λ t m buf _ _ r.
      by_contract buf r (each_heard (Sends buf) t (refusal_sends buf t) m (length buf) (λ l path tag w _ _ r. written _ buf r l (plan_fits _ _ _ tag m w)));
  finish = λ t arrival status s transferred buf _ _ r.
      by_contract buf r (each_sent (Sends buf) t (refusal_sends buf t) arrival status s transferred (length buf) (λ l h _ _ r. written _ buf r l (sent_fits _ status s h)));
}
