-- What each call does to the table is its event's effect: by the path list, the attached units, the next number, the
-- weight of the live tasks, and what each live record has after it. Assumes nothing.
use Rattle.std.specs.Prelude.{Result, Ok, Err}
use Prim.Native.Nat.{ℕ, ◌<◌}
use mathlib.Core.Path.{◌≡◌, refl, sym, ap, ◌∙◌, subst}
use mathlib.Core.Bool.{Bool, true, false, cond, ◌&&◌}
use mathlib.Core.List.{List}
use mathlib.Core.Logic.{inl, inr}
use mathlib.Core.Option.{none, some}
use native.Mathlib.Decide.{ℕ_discrete}
use native.Mathlib.Omega.{arith}
use lib.ListN.{length, get_or}
use lib.Dec.{eqb, ltb}
use borrow.Author.Tests.{ltb-true, lt-ltb, eq-eqb, ne_eqb, eqb-true}
use Rattle.wire.specs.Codes
use Rattle.wire.specs.Messages.{read_of}
use Rattle.wire.specs.declared.codes.Refusal.{Refusal}
use Rattle.wire.specs.declared.codes.StatusByte.{StatusByte}
use Rattle.wire.specs.declared.codes.Sense.{Sense}
use Rattle.wire.specs.declared.message.Flags.{Flags}
use Rattle.std.specs.Prelude.{Some}
use Rattle.task.specs.declared.scan.Pick.{Pick}
use Rattle.task.specs.Tasks.{is_running, has_confirm, runs, awaits, restarts}
use Rattle.task.specs.Selections.{picks, every_task, named, numbered_as, running_as}
use Rattle.wire.specs.declared.codes.Kind.{Kind}
use Rattle.task.specs.declared.Sequel.{Sequel}
use Rattle.task.specs.declared.Task.{Task}
use Rattle.task.specs.declared.select.Selection.{Selection}
use Rattle.wire.proofs.Table.{cond_ind}
use Rattle.task.proofs.Ways.{either_way, never, both}
use Rattle.task.proofs.Places.{first_picks, first_before, first_is}
use Rattle.task.proofs.Selecting.{meets, running_number, picks_every}
use Rattle.table.specs.Tables.{path_at, has_id, place_of, path_of, has_room, pick_of, new_task, accepted, ended_by, altered_at, started, restarted, finished, reset_of, with_paths, with_units}
use Rattle.table.specs.View.{Shaped, at, weight_at, weight}
use Rattle.sound.specs.Promises.{Good}
use Rattle.table.specs.declared.Path as path
use Rattle.table.specs.declared.Unit as unit
use Rattle.table.specs.declared.Table.{Table}
use Rattle.table.proofs.Views.{OnlyTasks, Found, not_both, live_at, ids_of, ids_at, ids_length, ids_marked, ids_attention_gone, ids_reset_attention, ids_cleared_attention, reset_ids, accepted_put, accepted_only, ended_only, ended_next, ended_paths, ended_units, at_ended, altered_at_law, altered_other, altered_only, altered_next, finished_ways, at_reset, same_at, pick_at}
use Rattle.table.proofs.Weights.{weight_same, accept_weighs, end_weighs, reset_weighs}
use Rattle.rules.specs.Management.{ends_of, order_code, order_change}
use Rattle.rules.specs.Facts.{facts_of, lookup_of}
use Rattle.rules.specs.Rules.{deciding}
use Rattle.rules.specs.declared.change.Change.{Change}
use Rattle.rules.specs.declared.change.Change.TheVariants as change
use Rattle.rules.specs.declared.facts.Facts.{Facts}
use Rattle.rules.specs.declared.change.SenderChange.{SenderChange}
use Rattle.rules.specs.declared.change.SenderChange.TheVariants.{Stays, SetMark, ClearMark, ClearMarkAndAttention}
use Rattle.rules.specs.declared.command.Ruling.{Ruling}
use Rattle.rules.specs.declared.command.Ruling.TheVariants.{Refuse, Respond, Report, Invalid, Accept}
use Rattle.rules.specs.declared.manage.Order.{Order}
use Rattle.plan.specs.Plans.{asking, asked_in, sequel_of, report_change, ruled, order_plan, confirm_plan, sender_after, paths_after, units_after, awaited}
use Rattle.plan.proofs.Promises.{awaited_is}
use Rattle.engine.specs.Calls.{refused, with_parts, with_records, carried_out, plan_at, message_of, choice_on, start_of, finish_of, total_reset_of}
use Rattle.plan.specs.declared.Request.{Request}
use Rattle.plan.specs.declared.Request.TheVariants.{Command, Manage, Confirm}
use Rattle.plan.specs.declared.Asked.{Asked}
use Rattle.plan.specs.declared.Plan.{Plan}
use Rattle.engine.specs.declared.Outcome.{Outcome}
use Rattle.engine.proofs.Outcomes.{each_message, each_start, each_finish, each_reset, each_confirm}
use Rattle.engine.proofs.Keeps.{accept_has_room}
use Rattle.history.specs.Trace.{Event, Message, Start, Finish, TotalReset, Label, by_status, byTotalReset, by_order, counts_as_status, Effect, Nothing, Accepts, Starts, Finishes, Restarts, Ends, Fate, stays, becomes, ended, fate_of, place_in, command_effect, order_effect, confirm_effect, request_effect, message_effect, effect_of}
use Rattle.history.proofs.Nth.{same_element}
use Rattle.history.proofs.Totals.{weight_live, weight_zero, altered_weighs}
use Rattle.history.proofs.Fates.{taken}
use Rattle.history.proofs.Others.{accept_leaves}
use Rattle.history.proofs.Kept.{ends_by_status, fated, weighed, Sure, Done}

-- ---- what a change of paths and units leaves

ids_sender : (l : List path.Path) (p : ℕ) (sender : SenderChange) → ids_of (sender_after l p sender) ≡ ids_of l
ids_sender l p Stays = refl
ids_sender l p SetMark = ids_marked l p true
ids_sender l p ClearMark = ids_marked l p false
ids_sender l p ClearMarkAndAttention = ids_attention_gone _ p ∙ ids_marked l p false

ids_after : (l : List path.Path) (count : ℕ) (c : Change) → ids_of (paths_after l count c) ≡ ids_of l
ids_after l count change.Nothing = refl
ids_after l count (change.OfSender p sender) = ids_sender l p sender
ids_after l count (change.Holding p sender lun) = ids_sender l p sender
ids_after l count (change.ClearedAttention others) = ids_cleared_attention l others
ids_after l count (change.AcaGoes unit) = refl
ids_after l count (change.Resets place) = ids_reset_attention l count false

-- ---- what each effect is sure of

-- it accepts nothing, and ends nothing by status
calm : (effect : Effect) (t : Table) → taken effect ≡ none → ((b : Task) → ends_by_status (fate_of effect b) ≡ false) → Sure effect t
calm effect t n q = record { next = λ a e. absurd (not_both n e); live = λ b e. absurd (never e (q b)) }

module _ (t : Table) where
  sure_nothing : Sure Nothing t
  unfolding fate_of
  sure_nothing = calm Nothing t refl (λ _. refl)

  sure_accepts : (p tag lun : ℕ) (kind : Kind) (sequel : Sequel) → Sure (Accepts (new_task t p tag lun kind sequel)) t
  unfolding fate_of
  sure_accepts p tag lun kind sequel = record {
    next = λ a e. ap (λ (b : Task). b.arrival) (sym (same_element refl e));
    live = λ b e. absurd (never e refl);
  }

  sure_starts : (n : ℕ) → Sure (Starts n) t
  unfolding fate_of
  sure_starts n = calm (Starts n) t refl (λ b. cond_ind (λ (x : Fate). ends_by_status x ≡ false) (eqb b.arrival n) (λ _. refl) (λ _. refl))

  sure_restarts : (s : Selection) (offset : ℕ) → Sure (Restarts s offset) t
  unfolding fate_of
  sure_restarts s offset = calm (Restarts s offset) t refl (λ b. cond_ind (λ (x : Fate). ends_by_status x ≡ false) (picks s b) (λ _. refl) (λ _. refl))

  sure_ends : (s : Selection) (how : Label) → counts_as_status how ≡ false → Sure (Ends s how) t
  unfolding fate_of
  sure_ends s how e = calm (Ends s how) t refl (λ b. cond_ind (λ (x : Fate). ends_by_status x ≡ false) (picks s b) (λ _. e) (λ _. refl))

  -- what it ends by status has the number of the live task in record i
  sure_named : (effect : Effect) (i : ℕ) (a : Task) → i < 64 → at t i ≡ some a → taken effect ≡ none
      → ((b : Task) → ends_by_status (fate_of effect b) ≡ true → b.arrival ≡ a.arrival) → Sure effect t
  sure_named effect i a l e n q = record { next = λ b d. absurd (not_both n d); live = λ b s. (i, a, l, e, q b s) }

-- ---- the effects

pub done_nothing : (t : Table) → Done Nothing t t
unfolding fate_of
done_nothing t = record { count = refl; attached = refl; ids = λ p. refl; next = omega arith; weighs = λ f. omega arith; sure = sure_nothing t; follows = λ i a l e. e }

-- paths that keep their ids and units change no effect
done_beside : (effect : Effect) (t u : Table) (ps : List path.Path) (us : List unit.Unit) → ids_of ps ≡ ids_of u.paths → Done effect t u
    → Done effect t (with_paths (with_units u us) ps)
done_beside effect t u ps us e d = record {
  count = d.count;
  attached = d.attached;
  ids = λ p. ids_at u.paths ps p e ∙ d.ids p;
  next = d.next;
  weighs = λ f. weight_same f u ps us ∙ d.weighs f;
  sure = d.sure;
  follows = λ i a l e. same_at u ps us i ∙ d.follows i a l e;
}

only_count : (t u : Table) → OnlyTasks t u → u.count ≡ t.count
only_count t u o = ap (λ (x : Table). x.count) o.rest

only_attached : (t u : Table) → OnlyTasks t u → u.attached ≡ t.attached
only_attached t u o = ap (λ (x : Table). x.attached) o.rest

only_ids : (t u : Table) → OnlyTasks t u → (p : ℕ) → (path_at u p).id ≡ (path_at t p).id
only_ids t u o p = ap (λ (x : Table). (path_at x p).id) o.rest

module _ (t : Table) (effect : Effect) (s : Selection) (how : Label) where
  -- the live tasks that are picked end so, and the others stay
  abbrev EndsPicked : Type 0
  EndsPicked = (i : ℕ) (b : Task) → i < 64 → at t i ≡ some b → fate_of effect b ≡ cond (picks s b) (ended how) stays

  done_ended : Shaped t → taken effect ≡ none → EndsPicked → Sure effect t → Done effect t (ended_by t s)
  done_ended h n fates sure = record {
    count = only_count t _ (ended_only t s);
    attached = only_attached t _ (ended_only t s);
    ids = only_ids t _ (ended_only t s);
    next = omega (arith, ended_next t s, ap (weight_at (λ a. 1)) n);
    weighs = λ f. omega (arith, end_weighs f t s h, left f, ap (weight_at f) n);
    sure = sure;
    follows = λ i b l e. rw (at_ended t s i h l, e, fates i b l e) (elim (either_way (picks s b)) [ inl y ↦ rw y refl | inr y ↦ rw y refl ]);
  }
    where
      left : (f : Task → ℕ) → weight (λ b. cond (picks s b) 0 (f b)) t ≡ weight (weighed effect f) t
      left f =
          weight_live (λ b. cond (picks s b) 0 (f b)) (weighed effect f) t
          (λ i b l e. rw (fates i b l e) (elim (either_way (picks s b)) [ inl y ↦ rw y refl | inr y ↦ rw y refl ]))

-- the live task in record k goes on as b, and those with another number stay
done_altered : (t : Table) (effect : Effect) (k : ℕ) (a b : Task) → Good t → k < 64 → at t k ≡ some a → taken effect ≡ none → fate_of effect a ≡ becomes b
    → ((c : Task) → (c.arrival ≡ a.arrival → ⊥) → fate_of effect c ≡ stays) → Sure effect t → Done effect t (altered_at t k b)
done_altered t effect k a b g l e n fate rest sure = record {
  count = only_count t _ (altered_only t k b);
  attached = only_attached t _ (altered_only t k b);
  ids = only_ids t _ (altered_only t k b);
  next = omega (arith, altered_next t k b, ap (weight_at (λ a. 1)) n);
  weighs =
      λ f.
      omega (
        arith,
        altered_weighs f (weighed effect f) t k a b g l e (ap (fated f a) fate) (λ c other. ap (fated f c) (rest c other)),
        ap (weight_at f) n,
      );
  sure = sure;
  follows = λ i c below here. elim (ℕ_discrete i k) [
    | yes q ↦
        let same : a ≡ c = same_element e (rw q at here) in
        rw (q, altered_at_law t k b g.shaped l e, ← same, fate)
    | no other ↦ rw (altered_other t k b i other, here, rest c (λ same. other (g.sound.one_arrival i k c a below l here e same)))
  ];
}

module _ (t : Table) (g : Good t) where
  -- ---- a command

  done_parts : (c : Change) → Done Nothing t (with_parts t c)
  done_parts c = done_beside Nothing t t (paths_after t.paths t.count c) (units_after t.units c) (ids_after t.paths t.count c) (done_nothing t)

  pub shaped_sender : (p : ℕ) (sender : SenderChange) → Shaped (with_parts t (change.OfSender p sender))
  shaped_sender p sender = record {
    map = g.shaped.map;
    next = g.shaped.next;
    paths = ids_length t.paths (sender_after t.paths p sender) (ids_sender t.paths p sender) ∙ g.shaped.paths;
    units = g.shaped.units;
    tasks = g.shaped.tasks;
  }

  -- the mark goes, and the command comes
  done_coming : (p tag lun : ℕ) (kind : Kind) (sequel : Sequel) → has_room t ≡ true
      → Done (Accepts (new_task t p tag lun kind sequel)) t (accepted (with_parts t (change.OfSender p ClearMark)) p tag lun kind sequel)
  unfolding has_room fate_of
  done_coming p tag lun kind sequel room =
      let u : Table = with_parts t (change.OfSender p ClearMark) in
      let o : OnlyTasks u (accepted u p tag lun kind sequel) = accepted_only u p tag lun kind sequel in
      record {
        count = only_count u _ o;
        attached = only_attached u _ o;
        ids = λ k. only_ids u _ o k ∙ (done_parts (change.OfSender p ClearMark)).ids k;
        next = ap (λ (x : Table). x.next) (accepted_put u p tag lun kind sequel room);
        weighs = λ f. omega (arith, accept_weighs f u p tag lun kind sequel (shaped_sender p ClearMark) room, (done_parts (change.OfSender p ClearMark)).weighs f);
        sure = sure_accepts t p tag lun kind sequel;
        follows = λ i a l e. accept_leaves i a l u p tag lun kind sequel ((done_parts (change.OfSender p ClearMark)).follows i a l e);
      }

  done_ruled : (p tag lun : ℕ) (flags : Flags) (r : Ruling) → (r ≡ Accept → has_room t ≡ true)
      → Done (command_effect p tag lun flags.queue (sequel_of flags.confirm) (ruled t.next p tag lun flags r).answer) t (carried_out t (ruled t.next p tag lun flags r))
  unfolding carried_out with_records
  done_ruled p tag lun flags (Refuse n) room = done_nothing t
  done_ruled p tag lun flags (Respond code sender) room = done_parts (change.OfSender p sender)
  done_ruled p tag lun flags (Report status sense sender queue) room = done_parts (report_change p lun sender queue)
  done_ruled p tag lun flags (Invalid sender) room = done_parts (change.OfSender p sender)
  done_ruled p tag lun flags Accept room = done_coming p tag lun flags.queue (sequel_of flags.confirm) (room refl)

  -- ---- an order

  done_picked : (s : Selection) (how : Label) → Sure (Ends s how) t → Done (Ends s how) t (ended_by t s)
  unfolding fate_of
  done_picked s how sure = done_ended t (Ends s how) s how g.shaped refl (λ _ _ _ _. refl) sure

  done_by_order : (others p : ℕ) (o : Order) → Done (Ends (ends_of p o) (by_order o)) t (ended_by (with_parts t (order_change others o)) (ends_of p o))
  done_by_order others p o =
      let ps : List path.Path = paths_after t.paths t.count (order_change others o) in
      let us : List unit.Unit = units_after t.units (order_change others o) in
      let s : Selection = ends_of p o in
      let turned : ended_by (with_paths (with_units t us) ps) s ≡ with_paths (with_units (ended_by t s) us) ps =
      ended_paths (with_units t us) s ps ∙ ap (λ (x : Table). with_paths x ps) (ended_units t s us) in
      let kept : ids_of ps ≡ ids_of (ended_by t s).paths =
      ids_after t.paths t.count (order_change others o) ∙ ap (λ (x : Table). ids_of x.paths) (sym (ended_only t s).rest) in
      subst (Done (Ends s (by_order o)) t) (sym turned) (done_beside (Ends s (by_order o)) t (ended_by t s) ps us kept (done_picked s (by_order o) (sure_ends t s (by_order o) refl)))

  done_ordered : (f : Facts) (others p tag : ℕ) (m : List ℕ) (o : Order)
      → Done (order_effect p o (order_plan f others p tag m o).answer) t (carried_out t (order_plan f others p tag m o))
  unfolding order_plan carried_out with_records
  done_ordered f others p tag m o =
      cond_ind (λ (pl : Plan). Done (order_effect p o pl.answer) t (carried_out t pl)) (eqb (order_code f m o).0 (Codes.done).0)
      (λ e.
      subst (λ (b : Bool). Done (cond b (Ends (ends_of p o) (by_order o)) Nothing) t (ended_by (with_parts t (order_change others o)) (ends_of p o))) (sym e)
      (done_by_order others p o))
      (λ e. subst (λ (b : Bool). Done (cond b (Ends (ends_of p o) (by_order o)) Nothing) t t) (sym e) (done_nothing t))

  -- ---- a confirmation

  -- the task a of a path and a tag, in record k
  module _ (p tag k : ℕ) (a : Task) (f : Found t (named p tag) k a) where
    abbrev own : Selection
    own = numbered_as a.arrival p tag

    done_confirmed : Done (Ends own by_status) t (ended_by t own)
    unfolding fate_of
    done_confirmed =
        done_picked own by_status
        (sure_named t (Ends own by_status) k a f.below f.here refl
        (λ b. cond_ind (λ (x : Fate). ends_by_status x ≡ true → b.arrival ≡ a.arrival) (picks own b) (λ y _. eqb-true _ _ (meets own b y).number) (λ _ e. absurd (never e refl))))

    done_restarted : (offset : ℕ) → Done (Restarts own offset) t (restarted t k offset)
    unfolding fate_of picks
    done_restarted offset =
        rw (live_at t k f.here).1
        (done_altered t (Restarts own offset) k a (restarts offset a) g f.below f.here refl (rw (eq-eqb a.arrival a.arrival refl, f.picked))
        (λ c other. rw (ne_eqb c.arrival a.arrival other)) (sure_restarts t own offset))

  done_confirm : (p tag : ℕ) (m : List ℕ) (offset : ℕ) (complete : Bool)
      → let pl : Plan = confirm_plan (pick_of t (named p tag)) p tag m offset complete in Done (confirm_effect p tag offset complete pl.answer) t (carried_out t pl)
  unfolding carried_out with_records
  done_confirm p tag m offset complete =
      let found : (w : Pick) → awaited (pick_of t (named p tag)) ≡ Some w → Found t (named p tag) w.at w.task = λ w e. pick_at t (named p tag) g.shaped (awaited_is _ w e).0 in
      each_confirm (λ (pl : Plan). Done (confirm_effect p tag offset complete pl.answer) t (carried_out t pl)) (pick_of t (named p tag)) p tag m offset complete
      (done_nothing t) (done_nothing t) (λ w e c. rw c (done_confirmed p tag _ _ (found w e))) (λ w e c _. rw c (done_restarted p tag _ _ (found w e) offset))

  -- ---- start, finish, total reset

  done_started : (s : Selection) (p : Pick) → pick_of t s ≡ Some p → Done (Starts p.task.arrival) t (started t p.at)
  unfolding fate_of
  done_started s p found =
      let k : ℕ = p.at in
      let a : Task = p.task in
      let f = pick_at t s g.shaped found in
      rw (live_at t k f.here).1
      (done_altered t (Starts a.arrival) k a (runs a) g f.below f.here refl (rw (eq-eqb a.arrival a.arrival refl))
      (λ c other. rw (ne_eqb c.arrival a.arrival other)) (sure_starts t a.arrival))

  -- the running task a of an arrival number, in record k
  module _ (arrival transferred k : ℕ) (a : Task) (f : Found t (running_as arrival) k a) where
    numbered_so : a.arrival ≡ arrival
    numbered_so = eqb-true _ _ (meets (running_as arrival) a f.picked).number

    sure_finishes : Sure (Finishes arrival transferred) t
    unfolding fate_of
    sure_finishes =
        sure_named t (Finishes arrival transferred) k a f.below f.here refl
        (λ b. cond_ind (λ (x : Fate). ends_by_status x ≡ true → b.arrival ≡ a.arrival) (eqb b.arrival arrival) (λ y _. eqb-true _ _ y ∙ sym numbered_so) (λ _ e. absurd (never e refl)))

    -- a live task with that number is that one
    same_fate : has_confirm a.sequel ≡ false → EndsPicked t (Finishes arrival transferred) (running_as arrival) by_status
    unfolding fate_of picks
    same_fate plain i b below here = elim (either_way (eqb b.arrival arrival)) [
      | inl y ↦
          let one : i ≡ k = g.sound.one_arrival i k b a below f.below here f.here (eqb-true _ _ y ∙ sym numbered_so) in
          let there : at t i ≡ some a = rw one f.here in
          let same : a ≡ b = cc in
          rw (← same, plain, f.picked, eq-eqb a.arrival arrival numbered_so)
      | inr y ↦ rw y refl
    ]

    done_finished : (failed : Bool) → Done (Finishes arrival transferred) t (finished t k failed transferred)
    unfolding fate_of
    done_finished failed =
        let effect : Effect = Finishes arrival transferred in
        let running : is_running a.phase ≡ true = sym (running_number a.phase) ∙ (meets (running_as arrival) a f.picked).stage in
        finished_ways t k failed transferred f.below f.here running (Done effect t)
        (λ c.
        done_beside effect t (altered_at t k (awaits transferred a)) (altered_at t k (awaits transferred a)).paths _ refl
        (done_altered t effect k a (awaits transferred a) g f.below f.here refl (rw (eq-eqb a.arrival arrival numbered_so, c))
        (λ d other. rw (ne_eqb d.arrival arrival (λ e. other (e ∙ sym numbered_so)))) sure_finishes))
        (λ c.
        rw numbered_so
        (done_beside effect t (ended_by t (running_as arrival)) (ended_by t (running_as arrival)).paths _ refl
        (done_ended t effect (running_as arrival) by_status g.shaped refl (same_fate c) sure_finishes)))

  done_reset : Done (Ends every_task byTotalReset) t (reset_of t)
  unfolding reset_of fate_of
  done_reset = record {
    count = refl;
    attached = refl;
    ids = λ p. ids_at t.paths (reset_of t).paths p (reset_ids t);
    next = omega arith;
    weighs = λ f. omega (arith, reset_weighs f t, weight_zero (weighed (Ends every_task byTotalReset) f) t (λ a. rw (picks_every a) refl));
    sure = sure_ends t every_task byTotalReset refl;
    follows = λ i a l e. rw (at_reset t i, picks_every a);
  }

-- ---- a refusal does nothing

refused_request : (p tag : ℕ) (w : Request) (n : Refusal) → request_effect p tag w (Err n) ≡ Nothing
refused_request p tag (Command lun flags) n = refl
refused_request p tag (Manage o) n = refl
refused_request p tag (Confirm offset complete) n = refl

refused_message : (ids : List ℕ) (a : Result Asked Refusal) (n : Refusal) → message_effect ids a (Err n) ≡ Nothing
refused_message ids (Err k) n = refl
refused_message ids (Ok b) n = refused_request (place_in ids b.path) b.tag b.request n

pub refused_nothing : (ids : List ℕ) (ev : Event) (n : Refusal) → effect_of ids ev (Err n) ≡ Nothing
refused_nothing ids (Message m buf) n = refused_message ids (asked_in (read_of m)) n
refused_nothing ids (Start unit) n = refl
refused_nothing ids (Finish arrival status sense transferred buf) n = refl
refused_nothing ids TotalReset n = refl

-- ---- the place of an id: in setup's list as in the table's

module _ (ids : List ℕ) (t : Table) (g : Good t) (listed : t.count ≡ length ids) (stand : (p : ℕ) → p < t.count → (path_at t p).id ≡ get_or ids p 0) where
  pub place : (id : ℕ) → path_of t id < 8 → place_in ids id ≡ path_of t id
  unfolding place_in place_of
  place id l =
      let k : ℕ = path_of t id in
      let test : ℕ → Bool = λ p. has_id t.count id p (path_at t p) in
      let at-k = both (ltb k t.count) _ (first_picks 8 test l) in
      let below : k < t.count = ltb-true _ _ at-k.0 in
      first_is (length ids) k (λ p. eqb (get_or ids p 0) id) (omega (arith, below)) (rw (sym (stand k below)) at-k.1)
      (λ j before.
      let under : j < t.count = omega (arith, below) in
      sym (ap (λ (x : ℕ). eqb x id) (stand j under)) ∙ sym (ap (λ (b : Bool). b && eqb (path_at t j).id id) (lt-ltb j t.count under)) ∙ first_before 8 j test before)

  -- ---- the calls

  abbrev DoneBy : Event → Outcome → Type 0
  DoneBy ev o = Done (effect_of ids ev o.answer) t o.table

  stops : (ev : Event) (n : Refusal) → DoneBy ev (refused t n)
  stops ev n = subst (λ (x : Effect). Done x t t) (sym (refused_nothing ids ev n)) (done_nothing t)

  done_planned : (m : List ℕ) (path tag : ℕ) (w : Request) → path_of t path < 8
      → Done (message_effect ids (Ok (asking path tag w)) (plan_at t m (path_of t path) tag w).answer) t (carried_out t (plan_at t m (path_of t path) tag w))
  unfolding plan_at lookup_of
  done_planned m path tag (Command lun flags) l =
      let p : ℕ = path_of t path in
      subst (λ (q : ℕ). Done (command_effect q tag lun flags.queue (sequel_of flags.confirm) (plan_at t m p tag (Command lun flags)).answer) t (carried_out t (plan_at t m p tag (Command lun flags)))) (sym (place path l))
      (done_ruled t g p tag lun flags (deciding (facts_of t p tag lun) flags m).gives (accept_has_room t p tag lun flags m))
  done_planned m path tag (Manage o) l =
      let p : ℕ = path_of t path in
      subst (λ (q : ℕ). Done (order_effect q o (plan_at t m p tag (Manage o)).answer) t (carried_out t (plan_at t m p tag (Manage o)))) (sym (place path l))
      (done_ordered t g _ _ p tag m o)
  done_planned m path tag (Confirm offset complete) l =
      let p : ℕ = path_of t path in
      subst (λ (q : ℕ). Done (confirm_effect q tag offset complete (plan_at t m p tag (Confirm offset complete)).answer) t (carried_out t (plan_at t m p tag (Confirm offset complete)))) (sym (place path l))
      (done_confirm t g p tag m offset complete)

  pub message_done : (m buf : List ℕ) → DoneBy (Message m buf) (message_of t m (length buf))
  message_done m buf =
      each_message (DoneBy (Message m buf)) t (stops (Message m buf)) m
      (λ path tag w e l.
      subst (λ (a : Result Asked Refusal). Done (message_effect ids a (plan_at t m (path_of t path) tag w).answer) t (carried_out t (plan_at t m (path_of t path) tag w))) (sym e)
      (done_planned m path tag w l))
      (length buf)

  pub start_done : (unit : ℕ) → DoneBy (Start unit) (start_of t unit)
  unfolding choice_on
  start_done unit = each_start (DoneBy (Start unit)) t (stops (Start unit)) unit (λ _ _ p found. done_started t g _ p found)

  pub finish_done : (arrival : ℕ) (status : StatusByte) (sense : Sense) (transferred : ℕ) (buf : List ℕ)
      → DoneBy (Finish arrival status sense transferred buf) (finish_of t arrival status sense transferred (length buf))
  finish_done arrival status sense transferred buf =
      let ev : Event = Finish arrival status sense transferred buf in
      each_finish (DoneBy ev) t (stops ev) arrival status sense transferred (length buf)
      (λ _ found. done_finished t g arrival transferred _ _ (pick_at t (running_as arrival) g.shaped found) _)

  pub reset_done : DoneBy TotalReset (total_reset_of t)
  reset_done = each_reset (DoneBy TotalReset) t (stops TotalReset) (done_reset t g)
