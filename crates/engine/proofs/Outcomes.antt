-- What holds at each way out of a call's definition holds of its outcome. Assumes nothing.
use Rattle.std.specs.Prelude.{Result, Ok, Err}
use Prim.Native.Nat.{ℕ, ◌<◌, ◌≤◌}
use mathlib.Core.Path.{◌≡◌, refl, sym, ap, ◌∙◌}
use mathlib.Core.Bool.{Bool, true, false, not}
use mathlib.Core.List.{List}
use lib.Dec.{ltb}
use borrow.Author.Tests.{not-false, ltb-true, ltb-false}
use Rattle.wire.specs.Codes
use Rattle.wire.specs.Messages.{read_of, reserved_set}
use Rattle.wire.specs.declared.codes.Refusal.{Refusal}
use Rattle.wire.specs.declared.codes.StatusByte.{StatusByte}
use Rattle.wire.specs.declared.codes.Sense.{Sense}
use Rattle.reply.specs.declared.Reply.TheVariants as reply
use Rattle.std.specs.Prelude.{Option, Some, is_some}
use Rattle.task.specs.Tasks.{offset_of, transferred_of}
use Rattle.task.specs.Selections.{every_task, running_on, running_as, numbered_as}
use Rattle.task.specs.declared.scan.Pick.{Pick}
use Rattle.wire.proofs.Table.{cond_ind}
use Rattle.task.proofs.Ways.{option_ind}
use Rattle.task.proofs.Maps.{gone_none}
use Rattle.table.specs.Steps.{running_among}
use Rattle.table.specs.Tables.{path_of, path_at, is_attached, pick_of, started, finished, reset_of}
use Rattle.sound.specs.Sound.{sound_of}
use Rattle.table.specs.declared.Table.{Table}
use Rattle.rules.specs.declared.change.Change.TheVariants as change
use Rattle.plan.specs.Plans.{asking, asked_in, planned, refusing, confirm_plan, awaited, confirmed}
use Rattle.plan.specs.declared.Request.{Request}
use Rattle.plan.specs.declared.Asked.{Asked}
use Rattle.plan.specs.declared.RecordChange.TheVariants as records
use Rattle.plan.specs.declared.Plan.{Plan}
use Rattle.plan.specs.declared.Answer.{Answer}
use Rattle.plan.specs.declared.Answer.TheVariants as answer
use Rattle.wire.proofs.Results.{same_Ok}
use Rattle.std.specs.Option.{ok_or}
use Rattle.engine.specs.Calls.{out, ending, refused, heard_of, plan_at, plan_for, with_records, carried_out, carried, answered_to, message_of, choice_on, goes, start_choice, start_of, may_finish, sent_sense, failed, finishes, finish_choice, finish_of, total_reset_of, replied, Answers}
use Rattle.engine.specs.declared.Outcome.{Outcome}

-- what is heard is one: path, tag and request
pub one_asked : {r : Result Asked Refusal} (path tag path2 tag2 : ℕ) (w w2 : Request) → r ≡ Ok (asking path2 tag2 w2) → r ≡ Ok (asking path tag w) → (path2 ≡ path) × (tag2 ≡ tag) × (w2 ≡ w)
one_asked path tag path2 tag2 w w2 f e =
    let same : asking path2 tag2 w2 ≡ asking path tag w = same_Ok _ _ (sym f ∙ e) in
    (ap (λ (a : Asked). a.path) same, ap (λ (a : Asked). a.tag) same, ap (λ (a : Asked). a.request) same)

module _ (P : Outcome → Type 0) (t : Table) (stops : (n : Refusal) → P (refused t n)) where
  -- a message: refused, or the plan for what a listed path asks is carried out
  module _ (m : List ℕ) where
    abbrev pub Carried : Type 0
    Carried = (path tag : ℕ) (w : Request) → asked_in (read_of m) ≡ Ok (asking path tag w) → path_of t path < 8 → P (carried t path (plan_at t m (path_of t path) tag w))

    abbrev Answered : Result Asked Refusal → Type 0
    Answered a = P (answered_to t m a)

    asked : Carried → (a : Result Asked Refusal) → asked_in (read_of m) ≡ a → Answered a
    unfolding answered_to plan_for carried_out with_records
    asked goes (Err n) e = stops n
    asked goes (Ok a) e =
        cond_ind (λ (pl : Plan). P (carried t a.path pl)) (ltb (path_of t a.path) 8) (λ l. goes a.path a.tag a.request e (ltb-true _ 8 l)) (λ _. rw (gone_none t.live) (stops Codes.unknown_path))

    -- where the reply buffer has room
    pub each_heard : (n : ℕ) → (Codes.reply_room ≤ n → Carried) → P (message_of t m n)
    unfolding message_of heard_of answered_to
    each_heard n goes =
        cond_ind Answered (not (sound_of t)) (λ _. stops _)
        (λ _. cond_ind Answered (ltb n Codes.reply_room) (λ _. stops _) (λ l. asked (goes (ltb-false n _ l)) (asked_in (read_of m)) refl))

    pub each_message : Carried → (n : ℕ) → P (message_of t m n)
    each_message goes n = each_heard n (λ _. goes)

  -- a start: refused, or the task that goes next runs
  pub each_start : (unit : ℕ)
      → (is_attached t unit ≡ true → is_some (pick_of t (running_on unit)) ≡ false → (p : Pick) → choice_on t unit ≡ Some p
      → P (out (started t p.at) (Ok (answer.Started (offset_of p.task) p.task.arrival)) 0))
      → P (start_of t unit)
  unfolding start_of start_choice
  each_start unit goes_on =
      let Q : Result Pick Refusal → Type 0 = λ v. P (goes t v) in
      cond_ind Q (not (sound_of t)) (λ _. stops _)
      (λ _. cond_ind Q (not (is_attached t unit)) (λ _. stops _)
      (λ a. cond_ind Q (is_some (pick_of t (running_on unit))) (λ _. stops _)
      (λ r. option_ind (λ (p : Option Pick). Q (ok_or p Codes.nothing_to_start)) (choice_on t unit) (λ _. stops _) (λ p e. goes_on (not-false _ a) r p e))))

  -- a finish: refused, or the running task of the arrival number is finished
  module _ (arrival : ℕ) (status : StatusByte) (s : Sense) (transferred n : ℕ) where
    abbrev pub Ended : Type 0
    Ended = (p : Pick) → pick_of t (running_as arrival) ≡ Some p → P (ending t (finished t p.at (failed status) transferred)
        (Ok (answer.Reply (reply.Status p.task.tag status (sent_sense status s)))) (path_at t p.task.path).id 0)

    -- where the reply buffer has room, and the device's status and sense key may be sent
    pub each_sent : (Codes.reply_room ≤ n → may_finish status s ≡ true → Ended) → P (finish_of t arrival status s transferred n)
    unfolding finish_of finish_choice
    each_sent ends =
        let Q : Result Pick Refusal → Type 0 = λ v. P (finishes t status s transferred v) in
        cond_ind Q (not (sound_of t)) (λ _. stops _)
        (λ _. cond_ind Q (ltb n Codes.reply_room) (λ _. stops _)
        (λ l. cond_ind Q (not (may_finish status s)) (λ _. stops _)
        (λ m. option_ind (λ (p : Option Pick). Q (ok_or p Codes.not_running)) (pick_of t (running_as arrival)) (λ _. stops _)
        (λ p e. ends (ltb-false n _ l) (not-false _ m) p e))))

    pub each_finish : Ended → P (finish_of t arrival status s transferred n)
    each_finish goes = each_sent (λ _ _. goes)

  pub each_reset : P (ending t (reset_of t) (Ok answer.Reset) 0 (running_among t every_task)) → P (total_reset_of t)
  unfolding total_reset_of
  each_reset goes = cond_ind P (not (sound_of t)) (λ _. stops _) (λ _. goes)

-- a confirmation: FFh, or 15, or the task that waits to be confirmed ends, or it waits again at an offset within the
-- bytes transferred
module _ (P : Plan → Type 0) (own : Option Pick) (p tag : ℕ) (m : List ℕ) (offset : ℕ) (complete : Bool) where
  pub each_confirm : P (planned (Ok (answer.Reply (reply.Response tag Codes.invalid_field))) change.Nothing records.Nothing) → P (refusing Codes.nothing_to_confirm)
      → ((w : Pick) → awaited own ≡ Some w → complete ≡ true → P (planned (Ok (answer.Confirmed w.task.arrival)) change.Nothing (records.Complete (numbered_as w.task.arrival p tag))))
      → ((w : Pick) → awaited own ≡ Some w → complete ≡ false → offset ≤ transferred_of w.task
      → P (planned (Ok (answer.Restarted w.task.arrival)) change.Nothing (records.Restart w.at offset)))
      → P (confirm_plan own p tag m offset complete)
  unfolding confirm_plan
  each_confirm bad none ends again =
      cond_ind P (reserved_set m) (λ _. bad)
      (λ _. option_ind (λ (o : Option Pick). P (confirmed o p tag offset complete)) (awaited own) (λ _. none)
      (λ w e. cond_ind P complete (λ c. ends w e c)
      (λ c. cond_ind P (ltb (transferred_of w.task) offset) (λ _. bad) (λ l. again w e c (ltb-false _ offset l)))))

-- the reply buffer as it is left, by the answer
pub left_by : {defined o : Outcome} (buf : List ℕ) {left : List ℕ} {a : Result Answer Refusal} → Answers defined buf o left → o.answer ≡ a → left ≡ replied a buf
left_by buf x e = x.buffer ∙ ap (λ (a : Result Answer Refusal). replied a buf) (sym (ap (λ (q : Outcome). q.answer) x.outcome) ∙ e)
