-- M-103 over any calls: the ACA of a unit stays until it is taken away, and meanwhile nothing but the ACA task is started
-- there. Each call is looked at by its ways out, as for demand 3. Assumes nothing.
use Rattle.std.specs.Prelude.{Result, Ok, Some, None}
use Prim.Native.Nat.{ℕ, zero, suc, ◌<◌}
use mathlib.Core.Path.{◌≡◌, refl, sym, ap, ◌∙◌}
use mathlib.Core.Bool.{Bool, true, false, cond, ◌&&◌}
use mathlib.Core.List.{List, [], ◌∷◌}
use mathlib.Core.Option.{Option, none, some, none-ne-some}
use native.Mathlib.Decide.{ℕ_discrete}
use lib.ListN.{length}
use lib.Dec.{eqb}
use borrow.Author.Tests.{eq-eqb, eqb-true}
use Rattle.wire.specs.declared.codes.Refusal.{Refusal}
use Rattle.wire.specs.Codes
use Rattle.wire.specs.Messages.{read_of}
use Rattle.wire.specs.declared.codes.StatusByte.{StatusByte}
use Rattle.wire.specs.declared.codes.Sense.{Sense}
use Rattle.wire.specs.declared.message.Flags.{Flags}
use Rattle.task.specs.Map.{lowest_free}
use Rattle.task.specs.Tasks.{is_aca, is_running, runs, awaits}
use Rattle.task.specs.Selections.{picks, named, waiting_on, aca_waiting_on, running_as}
use Rattle.wire.specs.declared.codes.Kind.{Kind}
use Rattle.task.specs.declared.Sequel.{Sequel}
use Rattle.task.specs.declared.Task.{Task}
use Rattle.task.specs.declared.select.Selection.{Selection}
use Rattle.wire.proofs.Table.{cond_ind}
use Rattle.task.proofs.Ways.{never, both}
use Rattle.task.proofs.Selecting.{meets, aca_number, running_number}
use Rattle.table.specs.Tables.{path_of, pick_of, has_room, others_on, unit_at, has_aca, aca_at, new_task, accepted, ended_by, altered_at, started, claimed_by}
use Rattle.table.specs.View.{Shaped, at}
use Rattle.table.specs.declared.Unit as held
use Rattle.table.specs.declared.Table.{Table}
use Rattle.table.proofs.Views.{OnlyTasks, Found, not_both, live_at, spared, at_put, at_put_other, at_ended, altered_at_law, altered_other, same_at, accepted_only, ended_only, altered_only, finished_ways, pick_at}
use Rattle.sound.proofs.Acas.{claimed_owned, cleared_here, cleared_all, reset_all, cleared_elsewhere}
use Rattle.sound.specs.Promises.{Good}
use Rattle.rules.specs.Facts.{facts_of, lookup_of}
use Rattle.rules.specs.Rules.{deciding}
use Rattle.rules.specs.Management.{ends_of, unit_of, tag_of, order_code, order_change}
use Rattle.rules.specs.declared.change.Change.{Change}
use Rattle.rules.specs.declared.change.Change.TheVariants as change
use Rattle.rules.specs.declared.change.SenderChange.TheVariants.{ClearMark}
use Rattle.rules.specs.declared.change.QueueChange.TheVariants.{Leaves, Holds}
use Rattle.rules.specs.declared.command.Ruling.{Ruling}
use Rattle.rules.specs.declared.command.Ruling.TheVariants.{Refuse, Respond, Report, Invalid, Accept}
use Rattle.rules.specs.declared.manage.Order.{Order}
use Rattle.rules.specs.declared.manage.Order.TheVariants.{AbortTask, AbortTaskSet, ClearTaskSet, ClearAca, UnitReset, TargetReset}
use Rattle.plan.specs.Plans.{asking, asked_in, reply_of, ruled, order_plan, units_after}
use Rattle.plan.proofs.Promises.{awaited_is}
use Rattle.plan.specs.declared.Request.{Request}
use Rattle.plan.specs.declared.Request.TheVariants.{Command, Manage, Confirm}
use Rattle.plan.specs.declared.Plan.{Plan}
use Rattle.plan.specs.declared.Answer.{Answer}
use Rattle.plan.specs.declared.Answer.TheVariants as answer
use Rattle.engine.specs.Calls.{with_parts, plan_at, with_records, carried_out, message_of, may_go, choice_on, start_of, failed, finish_of, total_reset_of}
use Rattle.engine.specs.declared.Outcome.{Outcome}
use Rattle.plan.proofs.Promises.{order_answer}
use Rattle.engine.proofs.Outcomes.{each_message, each_start, each_finish, each_reset, each_confirm}
use Rattle.engine.proofs.Keeps.{message_keeps, start_keeps, finish_keeps, reset_keeps, owned_by_law, owner_clears, on_unit_law}
use Rattle.engine.proofs.Promises.{unlike}
use Rattle.engine.proofs.Holding.{holds_queue_law}
use Rattle.history.specs.Trace.{Event, Message, Start, Finish, TotalReset, nth, place_in}
use Rattle.history.specs.Demand.{Call, Engine, Chained, last_table}
use Rattle.history.specs.Drives.{engine}
use Rattle.history.specs.Ended.{Lists, Made}
use Rattle.history.specs.Held.{order_releases, ask_releases, is_done, says_reset, releases, NoneReleases, ReleasesIt, given, AcaTask, StaysHeld, QueueIsHeld, BadCommandHolds}
use Rattle.history.proofs.Calls.{place, shaped_sender}
use Rattle.history.proofs.Demand.{as_drive}
use Rattle.history.proofs.Ended.{done_by_law}
use Rattle.history.proofs.Nth.{same_element}

-- ---- the units where the records alone change

only_units : {t u : Table} → OnlyTasks t u → u.units ≡ t.units
only_units o = ap (λ (x : Table). x.units) o.rest

-- ---- what runs in a record ran there before, as it is

abbrev Ran : Table → Table → ℕ → Type 0
Ran t u i = (a : Task) → at u i ≡ some a → is_running a.phase ≡ true → at t i ≡ some a

not_waiting : {A : Type 0} {x : Option Task} {a b : Task} → x ≡ some b → x ≡ some a → is_running b.phase ≡ false → is_running a.phase ≡ true → A
not_waiting e f w r = absurd (never (ap (λ (c : Task). is_running c.phase) (same_element e f) ∙ r) w)

module _ (t : Table) (h : Shaped t) (i : ℕ) (l : i < 64) where
  ran_ended : (s : Selection) → Ran t (ended_by t s) i
  ran_ended s a e r = was (at t i) (sym (at_ended t s i h l) ∙ e)
    where
      was : (x : Option Task) → spared s x ≡ some a → x ≡ some a
      was none f = f
      was (some b) f = cond_ind (λ (y : Option Task). y ≡ some a → some b ≡ some a) (picks s b) (λ _ g. absurd (not_both refl g)) (λ _ g. g) f

  -- another task is put at k, and it does not run
  ran_altered : (k : ℕ) (b : Task) → is_running b.phase ≡ false → (k < 64) × (c : Task) × (at t k ≡ some c) → Ran t (altered_at t k b) i
  ran_altered k b w there a e r = elim (ℕ_discrete i k) [
    | yes q ↦ not_waiting (altered_at_law t k b h there.0 there.2) (rw q at e) w r
    | no n ↦ sym (altered_other t k b i n) ∙ e
  ]

  ran_accepted : (path tag unit : ℕ) (kind : Kind) (sequel : Sequel) → Ran t (accepted t path tag unit kind sequel) i
  unfolding accepted
  ran_accepted path tag unit kind sequel =
      let k : ℕ = lowest_free t.live in
      let b : Task = new_task t path tag unit kind sequel in
      cond_ind (λ (u : Table). Ran t u i) (has_room t)
      (λ _ a e r. elim (ℕ_discrete i k) [
        | yes q ↦ not_waiting (at_put t k b h (rw q at l)) (rw q at e) refl r
        | no n ↦ sym (at_put_other t k b i n) ∙ e
      ])
      (λ _ a e _. e)

owner_is : {p q : ℕ} → Some p ≡ Some q → p ≡ q
owner_is e = cc

-- of two tests that do not both hold
first_false : (b c : Bool) → (b && c) ≡ false → c ≡ true → b ≡ false
first_false true c e h = absurd (never h e)
first_false false c e h = refl

-- what the path at q asks may take the ACA of the path at p away
abbrev asks : ℕ → ℕ → ℕ → Request → Bool
asks p unit q (Command lun flags) = false
asks p unit q (Manage o) = order_releases p unit q o
asks p unit q (Confirm offset complete) = false

-- ---- what takes an ACA away, by what was asked

module _ (t : Table) (g : Good t) (p unit : ℕ) where
  abbrev done_by : List ℕ → ℕ → Order → Bool
  done_by m q o = eqb (order_code (facts_of t q (tag_of o) (unit_of o)) m o).0 (Codes.done).0

  -- an order is answered 00h where its code is that
  order_said : (m : List ℕ) (q tag : ℕ) (o : Order) → (order_releases p unit q o && is_done (reply_of (plan_at t m q tag (Manage o)).answer)) ≡ (order_releases p unit q o && done_by m q o)
  unfolding plan_at lookup_of
  order_said m q tag o =
      ap (λ (a : Result Answer Refusal). order_releases p unit q o && is_done (reply_of a)) (order_answer (facts_of t q (tag_of o) (unit_of o)) (others_on t (unit_of o) q) q tag m o)

  -- the sender's place in the table is that in the list
  module _ (ids : List ℕ) (names : Lists ids t) where
    releases_so : (m buf : List ℕ) (path tag : ℕ) (w : Request) → asked_in (read_of m) ≡ Ok (asking path tag w) → path_of t path < 8
        → (a : Result Answer Refusal) → releases ids p unit (Message m buf) a ≡ (asks p unit (path_of t path) w && is_done (reply_of a))
    releases_so m buf path tag w e l a = ap (λ (b : Bool). b && is_done (reply_of a))
        (ap (ask_releases ids p unit) e ∙ by_request w ∙ ap (λ (q : ℕ). asks p unit q w) (place ids t g names.count names.each path l))
      where
        by_request : (w : Request) → ask_releases ids p unit (Ok (asking path tag w)) ≡ asks p unit (place_in ids path) w
        by_request (Command lun flags) = refl
        by_request (Manage o) = refl
        by_request (Confirm offset complete) = refl

  -- an order that takes the ACA away, and is carried out
  order_clear : (others q : ℕ) (o : Order) → order_releases p unit q o ≡ true → aca_at (units_after t.units (order_change others o)) unit ≡ None
  order_clear others q (AbortTask tag2) h = absurd (never h refl)
  order_clear others q (AbortTaskSet lun) h = absurd (never h refl)
  order_clear others q (ClearTaskSet lun) h = absurd (never h refl)
  order_clear others q (ClearAca lun) h = let k : lun ≡ unit = eqb-true lun unit (both (eqb lun unit) _ h).0 in rw (← k) (cleared_here t.units lun g.shaped.units)
  order_clear others q (UnitReset lun) h = let k : lun ≡ unit = eqb-true lun unit h in rw (← k) (cleared_here t.units lun g.shaped.units)
  order_clear others q TargetReset h = cleared_all t.units unit

  plan_clear : (m : List ℕ) (q tag : ℕ) (w : Request) → (asks p unit q w && is_done (reply_of (plan_at t m q tag w).answer)) ≡ true
      → aca_at (carried_out t (plan_at t m q tag w)).units unit ≡ None
  unfolding carried_out with_records plan_at lookup_of order_plan
  plan_clear m q tag (Command lun flags) h = absurd (never h refl)
  plan_clear m q tag (Manage o) h =
      let others : ℕ = others_on t (unit_of o) q in
      let so = both (order_releases p unit q o) (done_by m q o) (sym (order_said m q tag o) ∙ h) in
      cond_ind (λ (pl : Plan). aca_at (carried_out t pl).units unit ≡ None) (done_by m q o)
      (λ _. ap (λ (l : List held.Unit). aca_at l unit) (only_units (ended_only (with_parts t (order_change others o)) (ends_of q o))) ∙ order_clear others q o so.0)
      (λ e. absurd (never so.1 e))
  plan_clear m q tag (Confirm offset complete) h = absurd (never h refl)

  call_clear : (ids : List ℕ) → Lists ids t → (ev : Event) → releases ids p unit ev (engine ev t).answer ≡ true → aca_at (engine ev t).table.units unit ≡ None
  unfolding engine
  call_clear ids names (Message m buf) =
      each_message (λ (o : Outcome). releases ids p unit (Message m buf) o.answer ≡ true → aca_at o.table.units unit ≡ None) t
      (λ _ h. absurd (never (both (ask_releases ids p unit (asked_in (read_of m))) false h).1 refl)) m
      (λ path tag w e l h. plan_clear m (path_of t path) tag w (sym (releases_so ids names m buf path tag w e l (plan_at t m (path_of t path) tag w).answer) ∙ h)) (length buf)
  call_clear ids names (Start v) = λ h. absurd (never h refl)
  call_clear ids names (Finish arrival status sense transferred buf) = λ h. absurd (never h refl)
  call_clear ids names TotalReset =
      each_reset (λ (o : Outcome). says_reset o.answer ≡ true → aca_at o.table.units unit ≡ None) t (λ _ h. absurd (never h refl)) (λ _. reset_all t unit)

-- ---- one call, on a sound table in which the unit has ACA of the path at p

module _ (t : Table) (g : Good t) (p unit : ℕ) (owned : aca_at t.units unit ≡ Some p) where
  -- it has that ACA still, and what runs there is the ACA task, or ran there before
  abbrev Kept : Table → Type 0
  Kept u = (aca_at u.units unit ≡ Some p)
      × ((i : ℕ) (a : Task) → i < 64 → at u i ≡ some a → a.unit ≡ unit → is_running a.phase ≡ true → is_aca a.kind ≡ false → at t i ≡ some a)

  -- where everything that runs ran before
  keeps : (u : Table) → aca_at u.units unit ≡ Some p → ((i : ℕ) → i < 64 → Ran t u i) → Kept u
  keeps u aca ran = (aca, λ i a l e _ r _. ran i l a e r)

  same : Kept t
  same = (owned, λ i a l e _ _ _. e)

  -- the units alone change, or the paths
  abbrev StaysOwned : Change → Type 0
  StaysOwned c = aca_at (units_after t.units c) unit ≡ Some p

  parts_kept : (c : Change) → StaysOwned c → Kept (with_parts t c)
  parts_kept c aca = keeps _ aca (λ i l a e r. sym (same_at t _ _ i) ∙ e)

  ended_kept : (c : Change) (s : Selection) → StaysOwned c → Kept (ended_by (with_parts t c) s)
  unfolding ended_by
  ended_kept c s aca = keeps _ aca (λ i l a e r. ran_ended t g.shaped i l s a (sym (same_at (ended_by t s) _ _ i) ∙ e) r)

  -- ---- a command

  ruled_kept : (next q tag lun : ℕ) (flags : Flags) (r : Ruling) → Kept (carried_out t (ruled next q tag lun flags r))
  unfolding carried_out with_records
  ruled_kept next q tag lun flags (Refuse n) = same
  ruled_kept next q tag lun flags (Respond code sender) = parts_kept (change.OfSender q sender) owned
  ruled_kept next q tag lun flags (Report status sense sender Leaves) = parts_kept (change.OfSender q sender) owned
  ruled_kept next q tag lun flags (Report status sense sender Holds) = parts_kept (change.Holding q sender lun) (claimed_owned t.units g.shaped.units lun q unit p owned)
  ruled_kept next q tag lun flags (Invalid sender) = parts_kept (change.OfSender q sender) owned
  ruled_kept next q tag lun flags Accept =
      let x : Table = with_parts t (change.OfSender q ClearMark) in
      keeps _ (ap (λ (l : List held.Unit). aca_at l unit) (only_units (accepted_only x q tag lun _ _)) ∙ owned)
      (λ i l a e r. sym (same_at t _ _ i) ∙ ran_accepted x (shaped_sender t g q ClearMark) i l q tag lun _ _ a e r)

  -- ---- an order that is carried out, and does not take the ACA away

  order_owned : (m : List ℕ) (q : ℕ) (o : Order) → order_releases p unit q o ≡ false → (order_code (facts_of t q (tag_of o) (unit_of o)) m o).0 ≡ 0
      → StaysOwned (order_change (others_on t (unit_of o) q) o)
  unfolding facts_of
  order_owned m q (AbortTask tag2) free e = owned
  order_owned m q (AbortTaskSet lun) free e = owned
  order_owned m q (ClearTaskSet lun) free e = owned
  order_owned m q (ClearAca lun) free e = elim (ℕ_discrete unit lun) [
    | yes k ↦
        let mine : aca_at t.units lun ≡ Some q = owned_by_law (aca_at t.units lun) q (owner_clears (facts_of t q 0 lun) m lun e) in
        let both_so : p ≡ q = owner_is (sym owned ∙ ap (aca_at t.units) k ∙ mine) in
        absurd (never (rw (eq-eqb lun unit (sym k), eq-eqb q p (sym both_so))) free)
    | no n ↦ cleared_elsewhere t.units lun unit n ∙ owned
  ]
  order_owned m q (UnitReset lun) free e = cleared_elsewhere t.units lun unit (λ k. never (eq-eqb lun unit (sym k)) free) ∙ owned
  order_owned m q TargetReset free e = absurd (never refl free)

  plan_kept : (m : List ℕ) (q tag : ℕ) (w : Request) → (asks p unit q w && is_done (reply_of (plan_at t m q tag w).answer)) ≡ false → Kept (carried_out t (plan_at t m q tag w))
  unfolding carried_out with_records plan_at lookup_of order_plan
  plan_kept m q tag (Command lun flags) free = ruled_kept t.next q tag lun flags (deciding (facts_of t q tag lun) flags m).gives
  plan_kept m q tag (Manage o) free =
      let others : ℕ = others_on t (unit_of o) q in
      cond_ind (λ (pl : Plan). Kept (carried_out t pl)) (done_by t g p unit m q o)
      (λ e. ended_kept (order_change others o) (ends_of q o) (order_owned m q o (first_false _ _ (sym (order_said t g p unit m q tag o) ∙ free) e) (eqb-true _ _ e))) (λ _. same)
  plan_kept m q tag (Confirm offset complete) free =
      let s : Selection = named q tag in
      each_confirm (λ (pl : Plan). Kept (carried_out t pl)) (pick_of t s) q tag m offset complete same same (λ _ _ _. ended_kept change.Nothing _ owned)
      (λ w e _ _.
      let f = pick_at t s g.shaped (awaited_is _ w e).0 in
      let k : ℕ = w.at in
      keeps _ (ap (λ (l : List held.Unit). aca_at l unit) (only_units (altered_only t k _)) ∙ owned)
      (λ i l. ran_altered t g.shaped i l k _ refl (f.below, w.task, f.here)))

  -- ---- a start: under the ACA only the ACA task may go

  -- what is picked to go on a unit is there, and on this one it is the ACA task
  goes_on : (v i : ℕ) (a : Task) → Found t (may_go (unit_at t v).aca v) i a → (a.unit ≡ v) × (v ≡ unit → is_aca a.kind ≡ true)
  goes_on v i a f = (
    on_unit_law a (has_aca (unit_at t v).aca) v f.picked,
    λ k.
        let held : has_aca (unit_at t v).aca ≡ true = ap (λ (w : ℕ). has_aca (aca_at t.units w)) k ∙ ap has_aca owned in
        let waits : picks (aca_waiting_on v) a ≡ true = sym (ap (λ (b : Bool). picks (cond b (aca_waiting_on v) (waiting_on v)) a) held) ∙ f.picked in
        sym (aca_number a.kind) ∙ (meets (aca_waiting_on v) a waits).sort,
  )

  start_kept : (v : ℕ) → Kept (start_of t v).table
  unfolding choice_on
  start_kept v =
      each_start (λ (o : Outcome). Kept o.table) t (λ _. same) v
      (λ _ _ next found.
      let k : ℕ = next.at in
      let c : Task = next.task in
      let f = pick_at t _ g.shaped found in
      let goes = goes_on v k c f in
      let now : at (started t k) k ≡ some (runs c) = altered_at_law t k _ g.shaped f.below f.here ∙ ap (λ (x : Task). some (runs x)) (live_at t k f.here).1 in (
        ap (λ (l : List held.Unit). aca_at l unit) (only_units (altered_only t k _)) ∙ owned,
        λ i a l e there r other. elim (ℕ_discrete i k) [
          | yes q ↦
              let s : runs c ≡ a = same_element now (rw q at e) in
              let z : is_aca a.kind ≡ true = ap (λ (x : Task). is_aca x.kind) (sym s) ∙ goes.1 (sym goes.0 ∙ ap (λ (x : Task). x.unit) s ∙ there) in
              absurd (never z other)
          | no n ↦ sym (altered_other t k _ i n) ∙ e
        ],
      ))

  -- the task that it takes
  start_takes : (offset arrival : ℕ) (o : Outcome) → o ≡ start_of t unit → o.answer ≡ Ok (answer.Started offset arrival)
      → (i : ℕ) × (a : Task) × AcaTask t p unit i a × (a.arrival ≡ arrival)
  unfolding choice_on
  start_takes offset arrival o e h =
      each_start (λ (x : Outcome). x.answer ≡ Ok (answer.Started offset arrival) → (i : ℕ) × (a : Task) × AcaTask t p unit i a × (a.arrival ≡ arrival)) t (λ _. unlike refl) unit
      (λ _ _ next found y.
      let k : ℕ = next.at in
      let c : Task = next.task in
      let f = pick_at t _ g.shaped found in
      let goes = goes_on unit k c f in
      let mine : aca_at t.units c.unit ≡ Some c.path = g.sound.aca_owned k c f.below f.here (goes.1 refl) in
      let whose : c.path ≡ p = owner_is (sym mine ∙ ap (aca_at t.units) goes.0 ∙ owned) in
      (k, c, record { below = f.below; here = f.here; kind = goes.1 refl; there = goes.0; owner = whose }, cc))
      (sym (ap (λ (x : Outcome). x.answer) e) ∙ h)

  -- ---- a finish: where it failed, the first owner stays

  finish_kept : (arrival : ℕ) (status : StatusByte) (s : Sense) (transferred n : ℕ) → Kept (finish_of t arrival status s transferred n).table
  finish_kept arrival status s transferred n =
      each_finish (λ (o : Outcome). Kept o.table) t (λ _. same) arrival status s transferred n
      (λ ran found.
      let w : Selection = running_as arrival in
      let k : ℕ = ran.at in
      let c : Task = ran.task in
      let f = pick_at t w g.shaped found in
      let running : is_running c.phase ≡ true = sym (running_number c.phase) ∙ (meets w c f.picked).stage in
      let still : aca_at (claimed_by t c (failed status)).units unit ≡ Some p =
      cond_ind (λ (l : List held.Unit). aca_at l unit ≡ Some p) (failed status) (λ _. claimed_owned t.units g.shaped.units c.unit c.path unit p owned) (λ _. owned) in
      finished_ways t k (failed status) transferred f.below f.here running Kept
      (λ _. keeps _ still (λ i l a e r. ran_altered t g.shaped i l k _ refl (f.below, c, f.here) a (sym (same_at (altered_at t k (awaits transferred c)) _ _ i) ∙ e) r))
      (λ _. keeps _ still (λ i l a e r. ran_ended t g.shaped i l _ a (sym (same_at (ended_by t (running_as c.arrival)) _ _ i) ∙ e) r)))

  -- ---- a total reset that is refused

  reset_kept : says_reset (total_reset_of t).answer ≡ false → Kept (total_reset_of t).table
  reset_kept = each_reset (λ (o : Outcome). says_reset o.answer ≡ false → Kept o.table) t (λ _ _. same) (λ h. absurd (never refl h))

  -- ---- any call that does not take the ACA away

  module _ (ids : List ℕ) (names : Lists ids t) where
    message_kept : (m buf : List ℕ) → releases ids p unit (Message m buf) (message_of t m (length buf)).answer ≡ false → Kept (message_of t m (length buf)).table
    message_kept m buf =
        each_message (λ (o : Outcome). releases ids p unit (Message m buf) o.answer ≡ false → Kept o.table) t (λ _ _. same) m
        (λ path tag w e l free. plan_kept m (path_of t path) tag w (sym (releases_so t g p unit ids names m buf path tag w e l (plan_at t m (path_of t path) tag w).answer) ∙ free)) (length buf)

    call_kept : (ev : Event) → releases ids p unit ev (engine ev t).answer ≡ false → Kept (engine ev t).table
    unfolding engine
    call_kept (Message m buf) free = message_kept m buf free
    call_kept (Start v) free = start_kept v
    call_kept (Finish arrival status sense transferred buf) free = finish_kept arrival status sense transferred (length buf)
    call_kept TotalReset free = reset_kept free

-- ---- any calls

-- the path list is the same after a call
pub lists_after : (ids : List ℕ) (ev : Event) (t : Table) (o : Outcome) (left : List ℕ) → Lists ids t → Made Engine ev t o left → Lists ids o.table
lists_after ids ev t o left names x =
    let d = done_by_law ids ev t o left names x in
    record { count = d.count ∙ names.count; each = λ q l. d.ids q ∙ names.each q (rw d.count at l) }

pub good_after : (ev : Event) (t : Table) → Good t → Good (engine ev t).table
unfolding engine
good_after (Message m buf) t g = message_keeps t m (length buf) g
good_after (Start v) t g = start_keeps t v g
good_after (Finish arrival status sense transferred buf) t g = finish_keeps t arrival status sense transferred (length buf) g
good_after TotalReset t g = reset_keeps t g

module _ (ids : List ℕ) (p unit : ℕ) where
  -- call k of a chain, by the first call and the rest
  starts_of : (t : Table) (c : Call) (cs : List Call) → Good t → aca_at t.units unit ≡ Some p → Engine c.event t c.outcome c.left → StaysHeld c.outcome.table cs p unit
      → (k : ℕ) (x : Call) (offset arrival : ℕ) → nth (c ∷ cs) k ≡ some x → x.event ≡ Start unit → x.outcome.answer ≡ Ok (answer.Started offset arrival)
      → (i : ℕ) × (a : Task) × AcaTask (given t (c ∷ cs) k) p unit i a × (a.arrival ≡ arrival)
  unfolding given nth engine
  starts_of t c cs g owned made rest zero x offset arrival e s h =
      let same : c ≡ x = same_element refl e in
      let o : x.outcome ≡ engine x.event t = rw same at (as_drive c.event t c.outcome c.left made) in
      start_takes t g p unit owned offset arrival x.outcome (o ∙ ap (λ (ev : Event). engine ev t) s) h
  starts_of t c cs g owned made rest (suc k) x offset arrival e s h = rest.starts k x offset arrival e s h

  stays_held : (t : Table) (cs : List Call) → Good t → Lists ids t → Chained Engine t cs → aca_at t.units unit ≡ Some p → NoneReleases ids p unit cs → StaysHeld t cs p unit
  unfolding last_table given nth
  stays_held t [] g names chain owned free = record {
    held = owned;
    starts = λ k c offset arrival e. absurd (none-ne-some c e);
    not_executed = λ i a l e _ _ _. e;
  }
  stays_held t (c ∷ cs) g names chain owned free =
      let u : Table = c.outcome.table in
      let o : c.outcome ≡ engine c.event t = as_drive c.event t c.outcome c.left chain.0 in
      let table : u ≡ (engine c.event t).table = ap (λ (x : Outcome). x.table) o in
      let kept : Kept t g p unit owned u = rw table (call_kept t g p unit owned ids names c.event (sym (ap (λ (x : Outcome). releases ids p unit c.event x.answer) o) ∙ free 0 c refl)) in
      let later : Lists ids u = lists_after ids c.event t c.outcome c.left names (record { good = g; call = chain.0 }) in
      let rest = stays_held u cs (rw table (good_after c.event t g)) later chain.1 kept.0 (λ k. free (suc k)) in
      record {
        held = rest.held;
        starts = starts_of t c cs g owned chain.0 rest;
        not_executed = λ i a l e there r other. kept.1 i a l (rest.not_executed i a l e there r other) there r other;
      }

pub queue_is_held : QueueIsHeld Engine
queue_is_held ids t cs p unit g names chain owned free = stays_held ids p unit t cs g names chain owned free

pub releases_it : ReleasesIt Engine
releases_it ids ev t o left p unit names x h =
    let e : o ≡ engine ev t = as_drive ev t o left x.call in
    rw e (call_clear t x.good p unit ids names ev (sym (ap (λ (q : Outcome). releases ids p unit ev q.answer) e) ∙ h))

-- ---- after a command that holds the queue

pub bad_command_holds : BadCommandHolds
bad_command_holds ids t m buf o left path tag lun flags names c h =
    let owned : aca_at o.table.units lun ≡ Some (path_of t path) = (holds_queue_law t m buf o left path tag lun flags c).sender h in
    let good : Good o.table = rw c.call.outcome (message_keeps t m (length buf) c.good) in
    let later : Lists ids o.table = lists_after ids (Message m buf) t o left names (record { good = c.good; call = c.call }) in
    record { owned = owned; behind = λ cs chain free. queue_is_held ids o.table cs (path_of t path) lun good later chain owned free }
