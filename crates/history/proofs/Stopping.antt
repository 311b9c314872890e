-- The units that have to stop: `stops` is the units on which a task of `ended` ran, by any call but a finish. Assumes
-- nothing.
--     message_stops      on a sound table;        start_stops, reset_stops      on any;        finish_stops      nothing has to stop
use Prim.Native.Nat.{ℕ, ◌^◌, ◌<◌}
use mathlib.Core.Path.{◌≡◌, refl, sym, ap, ◌∙◌}
use mathlib.Core.Bool.{Bool, true, false, not, ◌&&◌, and-false}
use mathlib.Core.List.{List}
use lib.Dec.{eqb, ltb, lit<}
use borrow.Author.Tests.{eqb-true}
use Rattle.wire.specs.Codes
use Rattle.wire.specs.declared.codes.StatusByte.{StatusByte}
use Rattle.wire.specs.declared.codes.Sense.{Sense}
use Rattle.wire.specs.declared.message.Flags.{Flags}
use Rattle.wire.proofs.Table.{cond_ind}
use Rattle.std.specs.Prelude.{Some}
use Rattle.task.specs.Index.{some_below, map_of}
use Rattle.task.specs.Map.{is_live, with_bit, gone}
use Rattle.task.specs.Tasks.{is_running, is_unconfirmed, restarts}
use Rattle.task.specs.Selections.{picks, every_task, named, numbered_as}
use Rattle.task.specs.declared.Phase.{Phase}
use Rattle.task.specs.declared.Phase.TheVariants.{Waiting, Running, Unconfirmed}
use Rattle.task.specs.declared.Task.{Task}
use Rattle.task.specs.declared.scan.Pick.{Pick}
use Rattle.task.specs.declared.select.Selection.{Selection}
use Rattle.task.proofs.Ways.{never, both}
use Rattle.task.proofs.Places.{some_none, some_ext, map_of_ext}
use Rattle.task.proofs.Bits.{dead_zero, live_or, live_map_of, is_map_of}
use Rattle.task.proofs.Maps.{gone_at}
use Rattle.task.proofs.Selecting.{meets, picks_every}
use Rattle.table.specs.Tables.{task_at, picks_at, path_of, has_room, pick_of, accepted, ended_by, restarted, reset_of}
use Rattle.table.specs.Steps.{running_among}
use Rattle.sound.specs.Promises.{Good}
use Rattle.table.specs.declared.Table.{Table}
use Rattle.table.proofs.Views.{at_live, live_at, pick_at}
use Rattle.rules.specs.Management.{order_code}
use Rattle.rules.specs.Facts.{facts_of, lookup_of}
use Rattle.rules.specs.Rules.{deciding}
use Rattle.rules.specs.declared.change.Change.{Change}
use Rattle.rules.specs.declared.command.Ruling.{Ruling}
use Rattle.rules.specs.declared.command.Ruling.TheVariants.{Refuse, Respond, Report, Invalid, Accept}
use Rattle.plan.proofs.Promises.{awaited_is}
use Rattle.plan.specs.Plans.{ruled, order_plan, awaited}
use Rattle.plan.specs.declared.Request.{Request}
use Rattle.plan.specs.declared.Request.TheVariants.{Command, Manage, Confirm}
use Rattle.plan.specs.declared.RecordChange.{RecordChange}
use Rattle.plan.specs.declared.RecordChange.TheVariants as records
use Rattle.plan.specs.declared.Plan.{Plan}
use Rattle.engine.specs.Calls.{with_parts, with_records, carried_out, stops_for, plan_at, message_of, start_of, finish_of, total_reset_of}
use Rattle.engine.specs.declared.Outcome.{Outcome}
use Rattle.engine.proofs.Outcomes.{each_message, each_start, each_finish, each_reset, each_confirm}
use Rattle.engine.proofs.Endings.{altered_map}

-- ---- the units on which a task of a map of records runs

module _ (t : Table) where
  -- the task in record i is of the map, and runs
  abbrev pub runs_of : ℕ → ℕ → Bool
  runs_of map i = is_running (task_at t i).phase && is_live map i

  unfoldable pub running_in : ℕ → ℕ
  running_in map = map_of 8 (λ unit. some_below 64 (λ i. runs_of map i && eqb (task_at t i).unit unit))

  none_runs : (map : ℕ) → ((i : ℕ) → i < 64 → runs_of map i ≡ false) → 0 ≡ running_in map
  unfolding running_in
  none_runs map h =
      is_map_of 8 0 _ (lit< tt) (λ unit _. dead_zero unit ∙ sym (some_none 64 _ (λ i l. ap (λ (b : Bool). b && eqb (task_at t i).unit unit) (h i l))))

  -- a map of no record
  nobody_runs : (map : ℕ) → ((i : ℕ) → i < 64 → is_live map i ≡ false) → 0 ≡ running_in map
  nobody_runs map h = none_runs map (λ i l. ap (λ (b : Bool). is_running (task_at t i).phase && b) (h i l) ∙ and-false (is_running (task_at t i).phase))

  -- the map of what a selection picks
  picked_run : (s : Selection) (map : ℕ) → ((i : ℕ) → i < 64 → is_live map i ≡ picks_at t s i) → running_among t s ≡ running_in map
  unfolding running_among running_in
  picked_run s map h =
      map_of_ext 8 _ _ (λ unit _. some_ext 64 _ _ (λ i l. ap (λ (b : Bool). (is_running (task_at t i).phase && b) && eqb (task_at t i).unit unit) (sym (h i l))))

-- ---- what left the live map

-- where every live record stays live, nothing
module _ (t u : Table) where
  none_gone : ((i : ℕ) → is_live t.live i ≡ true → is_live u.live i ≡ true) → (i : ℕ) → i < 64 → is_live (gone t.live u.live) i ≡ false
  none_gone h i l = gone_at t.live u.live i l ∙ still (is_live t.live i) (is_live u.live i) (h i)
    where
      still : (b c : Bool) → (b ≡ true → c ≡ true) → (b && not c) ≡ false
      still true c k = rw (k refl) refl
      still false c k = refl

-- what the records lose by the end of a selection
picked_gone : (t : Table) (s : Selection) (i : ℕ) → i < 64 → is_live (gone t.live (ended_by t s).live) i ≡ picks_at t s i
unfolding ended_by
picked_gone t s i l =
    gone_at t.live _ i l ∙ rw (live_map_of 64 i (λ j. is_live t.live j && not (picks s (task_at t j))) l) (left (is_live t.live i) (picks s (task_at t i)))
  where
    left : (b c : Bool) → (b && not (b && not c)) ≡ (b && c)
    left true true = refl
    left true false = refl
    left false c = refl

-- a bit set leaves the others set
with_keeps : (live k i : ℕ) → is_live live i ≡ true → is_live (with_bit live k) i ≡ true
unfolding with_bit
with_keeps live k i e = cond_ind (λ (m : ℕ). is_live m i ≡ true) (ltb k 64) (λ _. live_or live (2 ^ k) i ∙ rw e refl) (λ _. e)

-- ---- what `stops` is

abbrev Stops : Table → Outcome → Type 0
Stops t o = o.stops ≡ running_in t o.ended

nothing_stops : (t : Table) → 0 ≡ running_in t 0
nothing_stops t = nobody_runs t 0 (λ i _. dead_zero i)

not_running : (p : Phase) → is_unconfirmed p ≡ true → is_running p ≡ false
not_running Waiting e = refl
not_running Running e = absurd (never e refl)
not_running Unconfirmed e = refl

module _ (t : Table) where
  -- what a confirmation ends does not run
  abbrev Silent : RecordChange → Type 0
  Silent records.Nothing = Unit {0}
  Silent (records.Accept path tag lun kind sequel) = Unit {0}
  Silent (records.End s) = Unit {0}
  Silent (records.Complete s) = (i : ℕ) → i < 64 → picks_at t s i ≡ true → is_running (task_at t i).phase ≡ false
  Silent (records.Restart place offset) = Unit {0}

  records_stop : (c : Change) (d : RecordChange) → Silent d → stops_for t d ≡ running_in t (gone t.live (with_records (with_parts t c) d).live)
  unfolding with_records accepted
  records_stop c records.Nothing h = nobody_runs t _ (none_gone t (with_parts t c) (λ i e. e))
  records_stop c (records.Accept path tag lun kind sequel) h =
      nobody_runs t _
      (none_gone t (accepted (with_parts t c) path tag lun kind sequel)
      (λ i e. cond_ind (λ (u : Table). is_live u.live i ≡ true) (has_room (with_parts t c)) (λ _. with_keeps t.live _ i e) (λ _. e)))
  records_stop c (records.End s) h = picked_run t s _ (λ i l. picked_gone (with_parts t c) s i l)
  records_stop c (records.Complete s) h =
      none_runs t _
      (λ i l. ap (λ (b : Bool). is_running (task_at t i).phase && b) (picked_gone (with_parts t c) s i l) ∙ quiet (is_running (task_at t i).phase) (picks_at t s i) (h i l))
    where
      quiet : (b k : Bool) → (k ≡ true → b ≡ false) → (b && k) ≡ false
      quiet b true e = rw (e refl) refl
      quiet b false e = and-false b
  records_stop c (records.Restart place offset) h =
      nobody_runs t _ (none_gone t (restarted (with_parts t c) place offset) (λ i e. rw (altered_map (with_parts t c) place (restarts offset (task_at t place))) e))

  module _ (g : Good t) (m : List ℕ) where
    ruling_silent : (next p tag lun : ℕ) (flags : Flags) (r : Ruling) → Silent (ruled next p tag lun flags r).records
    ruling_silent next p tag lun flags (Refuse n) = tt
    ruling_silent next p tag lun flags (Respond code sender) = tt
    ruling_silent next p tag lun flags (Report status sense sender queue) = tt
    ruling_silent next p tag lun flags (Invalid sender) = tt
    ruling_silent next p tag lun flags Accept = tt

    -- the task that a confirmation is about waits to be confirmed, and no other has its number
    completes_silent : (p tag : ℕ) (own : Pick) → awaited (pick_of t (named p tag)) ≡ Some own → Silent (records.Complete (numbered_as own.task.arrival p tag))
    completes_silent p tag own w i l e =
        let b = awaited_is _ own w in
        let f = pick_at t (named p tag) g.shaped b.0 in
        let q = both (is_live t.live i) _ e in
        let s : Selection = numbered_as own.task.arrival p tag in
        let one : i ≡ own.at = g.sound.one_arrival i own.at (task_at t i) own.task l f.below (at_live t i q.0) f.here (eqb-true _ _ (meets s (task_at t i) q.1).number) in
        let same : task_at t i ≡ own.task = ap (task_at t) one ∙ (live_at t own.at f.here).1 in
        ap (λ (a : Task). is_running a.phase) same ∙ not_running own.task.phase b.1

    plan_silent : (p tag : ℕ) (w : Request) → Silent (plan_at t m p tag w).records
    unfolding plan_at lookup_of order_plan
    plan_silent p tag (Command lun flags) = ruling_silent t.next p tag lun flags (deciding (facts_of t p tag lun) flags m).gives
    plan_silent p tag (Manage o) = cond_ind (λ (pl : Plan). Silent pl.records) (eqb (order_code _ m o).0 (Codes.done).0) (λ _. tt) (λ _. tt)
    plan_silent p tag (Confirm offset complete) =
        each_confirm (λ (pl : Plan). Silent pl.records) (pick_of t (named p tag)) p tag m offset complete tt tt (λ w e _. completes_silent p tag w e) (λ _ _ _ _. tt)

    pub message_stops : (n : ℕ) → Stops t (message_of t m n)
    unfolding carried_out
    message_stops n =
        each_message (Stops t) t (λ _. nothing_stops t) m
        (λ path tag w _ _. records_stop (plan_at t m (path_of t path) tag w).change (plan_at t m (path_of t path) tag w).records (plan_silent (path_of t path) tag w)) n

  pub start_stops : (unit : ℕ) → Stops t (start_of t unit)
  start_stops unit = each_start (Stops t) t (λ _. nothing_stops t) unit (λ _ _ _ _. nothing_stops t)

  pub reset_stops : Stops t (total_reset_of t)
  unfolding reset_of
  reset_stops =
      each_reset (Stops t) t (λ _. nothing_stops t)
      (picked_run t every_task _
      (λ i l. gone_at t.live 0 i l ∙ ap (λ (b : Bool). is_live t.live i && not b) (dead_zero i) ∙ ap (λ (b : Bool). is_live t.live i && b) (sym (picks_every (task_at t i)))))

pub finish_stops : (t : Table) (arrival : ℕ) (status : StatusByte) (s : Sense) (transferred n : ℕ) → (finish_of t arrival status s transferred n).stops ≡ 0
finish_stops t arrival status s transferred n = each_finish (λ (o : Outcome). o.stops ≡ 0) t (λ _. refl) arrival status s transferred n (λ _ _. refl)
