-- The reply to ABORT TASK depends only on the message, the path list, the attached units and the sender's own live
-- tasks. Assumes nothing.
use Rattle.wire.specs.declared.codes.Refusal.{Refusal}
use Rattle.std.specs.Prelude.{Result, Ok, Err}
use Prim.Native.Nat.{ℕ, ◌≤◌}
use mathlib.Core.Path.{◌≡◌, refl, sym, ap, ◌∙◌}
use mathlib.Core.Bool.{Bool, true, false, cond}
use mathlib.Core.List.{List}
use mathlib.Core.Logic.{inl, inr}
use lib.ListN.{length}
use lib.Dec.{ltb}
use borrow.Author.Tests.{le-ltb, ltb-true, eqb-true}
use Rattle.wire.specs.Codes
use Rattle.wire.specs.Messages.{read_of, reserved_set}
use Rattle.wire.specs.declared.message.Message.TheVariants as message
use Rattle.task.specs.Selections.{picks, named}
use Rattle.task.specs.declared.Task.{Task}
use Rattle.task.specs.declared.select.Selection.{Selection}
use Rattle.task.proofs.Ways.{either_way, never, both}
use Rattle.std.specs.Prelude.{is_some}
use Rattle.task.proofs.Places.{first_ext}
use Rattle.task.proofs.Selecting.{picks_named}
use Rattle.table.specs.Tables.{place_of, path_of, any_live, pick_of}
use Rattle.sound.specs.Sound.{sound_of}
use Rattle.sound.specs.Promises.{Good}
use Rattle.table.specs.declared.Table.{Table}
use Rattle.table.proofs.Views.{some_any, any_some, any_is_found}
use Rattle.sound.proofs.Exact.{check_is_exact}
use Rattle.rules.specs.Facts.{facts_of, lookup_of}
use Rattle.rules.specs.Management.{order_code}
use Rattle.rules.specs.declared.manage.Order.TheVariants as order
use Rattle.reply.specs.declared.Reply.TheVariants as reply
use Rattle.plan.specs.Plans.{unit_asked}
use Rattle.plan.specs.declared.Request.{Request}
use Rattle.plan.specs.declared.Request.TheVariants.{Manage}
use Rattle.plan.specs.declared.Plan.{Plan}
use Rattle.plan.specs.declared.Answer.{Answer}
use Rattle.plan.specs.declared.Answer.TheVariants as answer
use Rattle.plan.proofs.Promises.{order_answer}
use Rattle.engine.specs.Calls.{heard_of, plan_at, plan_for, carried, reply_path, answered_to, message_of, replied}
use Rattle.engine.specs.Promises.{Live, Agree, AbortDependsOnly}
use Rattle.engine.specs.declared.Outcome.{Outcome}

-- ---- what two tables that agree have in common

-- a place is told by the ids of the listed paths
same_place : {path : ℕ} {t u : Table} → Agree path t u → (id : ℕ) → path_of t id ≡ path_of u id
unfolding place_of
same_place {t = t} {u = u} a id =
    first_ext 8 _ _ (λ p _. rw (← a.count) (elim (either_way (ltb p t.count)) [
      | inl l ↦ rw (a.ids p (ltb-true p t.count l))
      | inr l ↦ rw l
    ]))

-- what a selection finds is told by the live tasks that it picks
carry_over : (t u : Table) (s : Selection) → ((a : Task) → picks s a ≡ true → Live t a → Live u a) → any_live t s ≡ true → any_live u s ≡ true
carry_over t u s h e =
    let f = some_any t s e in
    let l = h f.1 f.2.picked (f.0, f.2.below, f.2.here) in
    any_some u s l.1 l.2 f.2.picked

same_any : (t u : Table) (s : Selection) → ((a : Task) → picks s a ≡ true → Live t a → Live u a) → ((a : Task) → picks s a ≡ true → Live u a → Live t a)
    → any_live t s ≡ any_live u s
same_any t u s there back = elim (either_way (any_live t s)) [
  | inl e ↦ e ∙ sym (carry_over t u s there e)
  | inr e ↦ elim (either_way (any_live u s)) [ inl f ↦ absurd (never (carry_over u t s back f) e) | inr f ↦ e ∙ sym f ]
]

named_path : (a : Task) (p tag : ℕ) → picks (named p tag) a ≡ true → a.path ≡ p
named_path a p tag e = eqb-true a.path p (both _ _ (sym (picks_named a p tag) ∙ e)).0

same_taken : {path : ℕ} {t u : Table} → Good t → Good u → Agree path t u → (tag : ℕ)
    → is_some (pick_of t (named (path_of t path) tag)) ≡ is_some (pick_of u (named (path_of t path) tag))
same_taken {path = path} {t = t} {u = u} g h a tag =
    let s = named (path_of t path) tag in
    any_is_found t s g.shaped
    ∙ same_any t u s (λ b e. a.there b (named_path b (path_of t path) tag e)) (λ b e. a.back b (named_path b (path_of t path) tag e))
    ∙ sym (any_is_found u s h.shaped)

-- ---- the answer, by the sender's place and whether it has the task

abbrev response : List ℕ → ℕ → Bool → Result Answer Refusal
response m tag taken = Ok (answer.Reply (reply.Response tag (cond (reserved_set m) Codes.invalid_field (cond taken Codes.done Codes.task_not_found))))

abbrev abort_answer : List ℕ → ℕ → ℕ → Bool → Result Answer Refusal
abort_answer m tag p taken = cond (ltb p 8) (response m tag taken) (Err Codes.unknown_path)

module _ (t : Table) (m : List ℕ) (path tag tag2 : ℕ) where
  abbrev abort : Request
  abort = Manage (order.AbortTask tag2)

  abbrev p : ℕ
  p = path_of t path

  abbrev defined : Result Answer Refusal
  defined = abort_answer m tag p (is_some (pick_of t (named p tag2)))

  plan_answer : (plan_at t m p tag abort).answer ≡ response m tag (is_some (pick_of t (named p tag2)))
  unfolding plan_at lookup_of order_code facts_of
  plan_answer = order_answer (facts_of t p tag2 (unit_asked abort)) _ p tag m (order.AbortTask tag2)

  for_answer : (plan_for t m path tag abort).answer ≡ defined
  unfolding plan_for
  for_answer = by_place (ltb p 8) _ _ plan_answer
    where
      by_place : (b : Bool) (x y : Plan) {a : Result Answer Refusal} → x.answer ≡ a → (cond b x y).answer ≡ cond b a y.answer
      by_place true x y e = e
      by_place false x y e = refl

  -- in a sound table, with room for the reply
  module _ (n : ℕ) (s : sound_of t ≡ true) (l : 64 ≤ n) (e : read_of m ≡ Ok (message.AbortTask tag path tag2)) where
    heard : message_of t m n ≡ carried t path (plan_for t m path tag abort)
    unfolding message_of heard_of answered_to
    heard = rw (s, le-ltb n 64 l, e)

    abort_answer_law : (message_of t m n).answer ≡ defined
    abort_answer_law = ap (λ (o : Outcome). o.answer) heard ∙ for_answer

    abort_to : (message_of t m n).to ≡ reply_path defined path
    abort_to = ap (λ (o : Outcome). o.to) heard ∙ ap (λ (a : Result Answer Refusal). reply_path a path) for_answer

pub abort_depends_only : AbortDependsOnly
abort_depends_only t u m buf tag path tag2 g h l e a =
    let sound-t = (check_is_exact t).1 g.sound in
    let sound-u = (check_is_exact u).1 h.sound in
    let same : defined t m path tag tag2 ≡ defined u m path tag tag2 = rw (same_taken g h a tag2, same_place a path) in
    let answers = abort_answer_law t m path tag tag2 (length buf) sound-t l e ∙ same ∙ sym (abort_answer_law u m path tag tag2 (length buf) sound-u l e) in (
      answers,
      abort_to t m path tag tag2 (length buf) sound-t l e ∙ ap (λ (x : Result Answer Refusal). reply_path x path) same
          ∙ sym (abort_to u m path tag tag2 (length buf) sound-u l e),
      ap (λ (x : Result Answer Refusal). replied x buf) answers,
    )
