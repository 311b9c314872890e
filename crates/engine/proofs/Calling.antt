-- The calls: a lemma for each way out. Assumes nothing.
--     unread, others_sought, none_sought, read_by, read_by_unit, unlisted, carries_nothing, carries_out, carries_order, carries      a message: the plan for what was heard, the table after it, and the outcome
--     starts, finishes, reset_refused, resets      the outcome, by what was asked of the table, the verdict and the step
--     answers      the contract of a call with a reply buffer
use Rattle.std.specs.Prelude.{Result, Ok, Err, Option}
use Prim.Native.Nat.{ℕ}
use mathlib.Core.Path.{◌≡◌, refl, sym, ap, ◌∙◌}
use mathlib.Core.Bool.{Bool, true, false, cond, not}
use mathlib.Core.List.{List}
use Rattle.std.specs.Prelude.{Option, Some, None}
use lib.Dec.{ltb}
use lib.ListN.{length}
use Rattle.wire.proofs.Table.{cond_ind}
use Rattle.wire.specs.Codes
use Rattle.wire.specs.declared.codes.Refusal.{Refusal}
use Rattle.wire.specs.declared.codes.StatusByte.{StatusByte}
use Rattle.wire.specs.declared.codes.Sense.{Sense}
use Rattle.task.specs.Map.{gone}
use Rattle.task.specs.Selections.{every_task, running_as}
use Rattle.task.specs.declared.scan.Pick.{Pick}
use Rattle.task.specs.declared.select.Selection.{Selection}
use Rattle.task.proofs.Ways.{option_ind, never}
use Rattle.task.proofs.Maps.{gone_none}
use Rattle.task.proofs.Next.{scan_stands}
use Rattle.table.specs.Tables.{path_of, if_listed, path_at, task_at, is_attached, pick_of, others_on, reset_attention_in, aca_cleared_in, with_paths, with_units, finished}
use Rattle.table.specs.Steps.{stepped, finish_step, finish_units, running_among}
use Rattle.table.proofs.Listed.{place_is, place_below, place_past}
use Rattle.table.specs.declared.steps.Step.{Step}
use Rattle.table.specs.declared.steps.Step.TheVariants as step
use Rattle.table.proofs.Stepping.{finish_is_step}
use Rattle.sound.specs.Sound.{sound_of}
use Rattle.sound.proofs.Exact.{check_is_exact}
use Rattle.sound.proofs.Keeps.{reset_ends}
use Rattle.table.specs.declared.Path as path
use Rattle.table.specs.declared.Unit as unit
use Rattle.table.specs.declared.Table.{Table}
use Rattle.rules.specs.Facts.{facts_of, lookup_of, unit_alone}
use Rattle.rules.specs.declared.facts.Lookup.{Lookup}
use Rattle.plan.specs.Plans.{tag_asked, unit_asked, clears_set, goes_by_unit, plan_of, paths_after, units_after}
use Rattle.plan.specs.declared.Request.{Request}
use Rattle.plan.specs.declared.Request.TheVariants.{Command, Manage, Confirm}
use Rattle.rules.specs.declared.manage.Order.TheVariants as order
use Rattle.plan.specs.declared.Asked.{Asked}
use Rattle.plan.specs.declared.RecordChange.{RecordChange}
use Rattle.plan.specs.declared.RecordChange.TheVariants as records
use Rattle.plan.specs.declared.Plan.{Plan}
use Rattle.plan.proofs.Promises.{others_unasked, tasks_unasked}
use Rattle.plan.specs.declared.Answer.TheVariants as answer
use Rattle.engine.specs.Calls.{refused, heard_of, lookup_for, plan_at, plan_for, with_records, carried_out, reply_path, stops_for, answered_to, message_of, may_finish, sent_sense, failed, finish_choice, finish_of, total_reset_of, replied, Answers}
use Rattle.reply.specs.declared.Reply.TheVariants as reply
use Rattle.engine.specs.Steps.{step_of, judged_by}
use Rattle.std.specs.Option.{ok_or}
use Rattle.wire.proofs.Results.{same_Ok, err-ok}
use Rattle.engine.specs.declared.Outcome.{Outcome}

-- ---- a message

-- who else has a task on the unit is asked only where the plan goes by it
others_alike : (t : Table) (m : List ℕ) (p tag next : ℕ) (w : Request) → goes_by_unit w ≡ false
    → plan_of (lookup_of t p (tag_asked tag w) (unit_asked w) 0) next p tag m w ≡ plan_of (lookup_for t p tag w) next p tag m w
unfolding lookup_of
others_alike t m p tag next w e = others_unasked (facts_of t p (tag_asked tag w) (unit_asked w)) _ 0 (others_on t (unit_asked w) p) next p tag m w (no_clearing w e)
  where
    no_clearing : (w : Request) → goes_by_unit w ≡ false → clears_set w ≡ false
    no_clearing (Command lun flags) e = refl
    no_clearing (Manage (order.AbortTask tag2)) e = refl
    no_clearing (Manage (order.AbortTaskSet lun)) e = refl
    no_clearing (Manage (order.ClearTaskSet lun)) e = absurd (never refl e)
    no_clearing (Manage (order.ClearAca lun)) e = refl
    no_clearing (Manage (order.UnitReset lun)) e = refl
    no_clearing (Manage order.TargetReset) e = refl
    no_clearing (Confirm offset complete) e = refl

module _ (t : Table) (u p : ℕ) {b : Bool} {o : ℕ} where
  pub others_sought : o ≡ others_on t u p → b ≡ true → o ≡ cond b (others_on t u p) 0
  others_sought e h = e ∙ rw h

  pub none_sought : o ≡ 0 → b ≡ false → o ≡ cond b (others_on t u p) 0
  none_sought e h = e ∙ rw h

-- nor is a task of the sender's, where the plan goes by the unit alone
unit_alike : (t : Table) (m : List ℕ) (p tag next u o : ℕ) (b f : Bool) (w : Request) → goes_by_unit w ≡ true → f ≡ is_attached t u → u ≡ unit_asked w → b ≡ clears_set w → o ≡ cond b (others_on t u p) 0
    → plan_of (unit_alone f o) next p tag m w ≡ plan_of (lookup_for t p tag w) next p tag m w
unfolding lookup_of facts_of unit_alone
unit_alike t m p tag next u o b f w y e k h g =
    tasks_unasked (unit_alone f o) (lookup_for t p tag w) next p tag m w y (e ∙ ap (is_attached t) k) (λ c. g ∙ rw (h, c, k))

-- the plan for what a path asks, looked up in the two ways
module _ (t : Table) (m : List ℕ) (path tag : ℕ) (w : Request) {pl : Plan} {p u : ℕ} {c : Bool} {s : Lookup} (d : Some p ≡ if_listed (path_of t path)) (e : u ≡ unit_asked w) (g : c ≡ goes_by_unit w)
    (h : pl ≡ plan_of s t.next p tag m w) where
  pub read_by : {n : ℕ} (o : ℕ) → c ≡ false → n ≡ tag_asked tag w → s ≡ lookup_of t p n u (cond false o 0) → pl ≡ plan_for t m path tag w
  unfolding plan_for plan_at
  read_by o y n k = h ∙ rw (k, n, e, others_alike t m _ tag t.next w (sym g ∙ y), place_is _ d, place_below _ d)

  -- what an order asks that goes by its unit alone
  pub read_by_unit : {o : ℕ} {b f : Bool} → c ≡ true → b ≡ clears_set w → o ≡ cond b (others_on t u p) 0 → f ≡ is_attached t u → s ≡ unit_alone f o → pl ≡ plan_for t m path tag w
  unfolding plan_for plan_at
  read_by_unit y b o f k = h ∙ rw (k, unit_alike t m _ tag t.next _ _ _ _ w (sym g ∙ y) f e b o, place_is _ d, place_below _ d)

-- the step that a plan asks for does what the plan says
steps_so : (t : Table) (d : RecordChange) → stepped t (step_of d) ≡ with_records t d
unfolding stepped with_records
steps_so t records.Nothing = refl
steps_so t (records.Accept path tag lun kind sequel) = refl
steps_so t (records.End s) = refl
steps_so t (records.Complete s) = refl
steps_so t (records.Restart place offset) = refl

-- the plan carried out: paths and units, then the records
module _ (t : Table) (pl : Plan) {paths : List path.Path} {units : List unit.Unit} (e : paths ≡ paths_after t.paths t.count pl.change) (h : units ≡ units_after t.units pl.change) where
  abbrev changed : Table
  changed = record { live = t.live; next = t.next; count = t.count; attached = t.attached; paths = paths; units = units; tasks = t.tasks }

  pub carries_nothing : {u : Table} → pl.records ≡ records.Nothing → u ≡ changed → u ≡ carried_out t pl
  unfolding carried_out with_records
  carries_nothing k a = a ∙ rw (k, e, h)

  pub carries_out : {q : Step} {u : Table} → q ≡ step_of pl.records → u ≡ stepped changed q → u ≡ carried_out t pl
  unfolding carried_out
  carries_out k a = a ∙ rw (k, e, h) (steps_so _ pl.records)

  -- an order ends tasks: the units on which one of them runs are asked of that table, and then the records step
  module _ {s : Selection} (k : pl.records ≡ records.End s) where
    pub carries_order : {u : Table} → u ≡ stepped changed (step.End s) → u ≡ carried_out t pl
    carries_order a = carries_out (sym (ap step_of k)) a

    pub order_stops : {n : ℕ} → n ≡ running_among changed s → n ≡ stops_for t pl.records
    unfolding running_among
    order_stops a = a ∙ rw k

-- nothing else has a unit stop: what a match tells where the change is not an order's
pub none_stops : (t : Table) {d : RecordChange} → d ≡ records.Nothing → 0 ≡ stops_for t d
none_stops t e = rw e

pub other_stops : (t : Table) (d : RecordChange) → ((s : Selection) → d ≡ records.End s → ⊥) → 0 ≡ stops_for t d
other_stops t records.Nothing k = refl
other_stops t (records.Accept path tag lun kind sequel) k = refl
other_stops t (records.End s) k = absurd (k _ refl)
other_stops t (records.Complete s) k = refl
other_stops t (records.Restart place offset) k = refl

-- ---- the reply

-- the contract of a call with a reply buffer
pub answers : {d o : Outcome} {buf left : List ℕ} → o ≡ d → left ≡ replied o.answer buf → Answers d buf o left
answers e h = record { outcome = e; buffer = h ∙ rw e }

module _ (t : Table) (m : List ℕ) (room : ℕ) {b : Bool} (s : b ≡ sound_of t) {r : Result Asked Refusal} (h : r ≡ heard_of b room m) where
  pub refuses : {n : Refusal} {o : Outcome} → r ≡ Err n → o ≡ refused t n → o ≡ message_of t m room
  unfolding message_of answered_to
  refuses e k = k ∙ rw (← s, ← h, e)

  -- 3: the path is not listed
  pub unlisted : {a : Asked} {o : Outcome} → r ≡ Ok a → None ≡ if_listed (path_of t a.path) → o ≡ refused t Codes.unknown_path → o ≡ message_of t m room
  unfolding message_of answered_to plan_for carried_out with_records
  unlisted e d k = k ∙ rw (← s, ← h, e, place_past _ d, gone_none t.live)

  pub carries : {a : Asked} {pl : Plan} {u : Table} {g to stops : ℕ} → r ≡ Ok a → pl ≡ plan_for t m a.path a.tag a.request
      → u ≡ carried_out t pl → g ≡ gone t.live u.live → to ≡ reply_path pl.answer a.path → stops ≡ stops_for t pl.records
      → record { table = u; answer = pl.answer; ended = g; to = to; stops = stops } ≡ message_of t m room
  unfolding message_of answered_to
  carries e p c g d k = rw (g, c, d, k, p, ← s, ← h, e)

-- a refusal writes nothing
pub unwritten : (t : Table) (n : Refusal) (buf : List ℕ) → buf ≡ replied (refused t n).answer buf
unfolding replied
unwritten t n buf = refl

-- ---- finish

-- the record that a finish is about holds the running task of the arrival number
stands : (t : Table) (arrival : ℕ) (p : Pick) → pick_of t (running_as arrival) ≡ Some p → p.task ≡ task_at t p.at
unfolding pick_of
stands t arrival p e = (scan_stands t.live (running_as arrival) t.tasks p e).task

chosen_ran : (t : Table) (arrival room : ℕ) (x : StatusByte) (s : Sense) (p : Pick) → finish_choice t arrival x s room ≡ Ok p → pick_of t (running_as arrival) ≡ Some p
unfolding finish_choice
chosen_ran t arrival room x s p =
    let Q : Result Pick Refusal → Type 0 = λ v. v ≡ Ok p → pick_of t (running_as arrival) ≡ Some p in
    cond_ind Q (not (sound_of t)) (λ _ e. absurd (err-ok e))
    (λ _. cond_ind Q (ltb room Codes.reply_room) (λ _ e. absurd (err-ok e))
    (λ _. cond_ind Q (not (may_finish x s)) (λ _ e. absurd (err-ok e))
    (λ _. option_ind (λ (o : Option Pick). ok_or o Codes.not_running ≡ Ok p → pick_of t (running_as arrival) ≡ Some p) (pick_of t (running_as arrival)) (λ _ e. absurd (err-ok e))
    (λ q k e. k ∙ ap Some (same_Ok q p e)))))

module _ (t : Table) (arrival : ℕ) (x : StatusByte) (s : Sense) (transferred room : ℕ) {b : Bool} {q : Selection} {found : Option Pick} {v : Result Pick Refusal}
    (h : b ≡ sound_of t) (y : q ≡ running_as arrival) (f : found ≡ pick_of t q) (e : v ≡ judged_by b room x s found) where
  judged_so : v ≡ finish_choice t arrival x s room
  unfolding judged_by finish_choice
  judged_so = e ∙ rw (h, f, y)

  pub finish_refused : {n : Refusal} {o : Outcome} → v ≡ Err n → o ≡ refused t n → o ≡ finish_of t arrival x s transferred room
  unfolding finish_of
  finish_refused r k = k ∙ rw (← judged_so, r)

  pub finish_done : {p : Pick} {bad : Bool} {k : Sense} {from : path.Path} {l : List unit.Unit} {d : Step} {u : Table} {n : ℕ} → v ≡ Ok p → k ≡ sent_sense x s → bad ≡ failed x
      → from ≡ path_at t p.task.path → l ≡ finish_units t.units t.live p.at p.task bad → d ≡ finish_step t.live p.at p.task transferred → u ≡ stepped (with_units t l) d → n ≡ gone t.live u.live
      → record { table = u; answer = Ok (answer.Reply (reply.Status p.task.tag x k)); ended = n; to = from.id; stops = 0 } ≡ finish_of t arrival x s transferred room
  unfolding finish_of
  finish_done {p = p} r c i g l d u n =
      let same : p.task ≡ task_at t p.at = stands t arrival p (chosen_ran t arrival room x s p (sym judged_so ∙ r)) in
      let left : stepped (with_units t (finish_units t.units t.live p.at p.task (failed x))) (finish_step t.live p.at p.task transferred) ≡ finished t p.at (failed x) transferred =
      rw same (finish_is_step t (failed x) transferred p.at) in
      rw (n, u, d, l, i, c, g, left, ← judged_so, r)

-- ---- total reset and setup

module _ (t : Table) {b : Bool} (e : b ≡ sound_of t) where
  pub reset_refused : {o : Outcome} → b ≡ false → o ≡ refused t Codes.not_sound → o ≡ total_reset_of t
  unfolding total_reset_of
  reset_refused h k = k ∙ rw (← e, h)

  pub resets : {u : Table} {l : List path.Path} {us : List unit.Unit} {g stops : ℕ} → b ≡ true → stops ≡ running_among t every_task → l ≡ reset_attention_in t.paths t.count true → us ≡ aca_cleared_in t.units None
      → u ≡ stepped (with_units (with_paths t l) us) (step.End every_task) → g ≡ gone t.live u.live → length t.tasks ≡ 64
      → record { table = u; answer = Ok answer.Reset; ended = g; to = 0; stops = stops } ≡ total_reset_of t
  unfolding total_reset_of stepped
  resets h r p c k g n = rw (g, k, p, c, r, reset_ends t n ((check_is_exact t).0 (sym e ∙ h)), ← e, h)
