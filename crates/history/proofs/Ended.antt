-- What a call says that it ended is what the trace says: by the fate of each live record's task. Summed.antt adds it
-- up over the calls. Assumes nothing.
use Prim.Native.Nat.{ℕ, zero, suc, ◌+◌, ◌^◌, ◌<◌}
use mathlib.Core.Path.{◌≡◌, refl, sym, ap, ◌∙◌}
use mathlib.Core.Bool.{Bool, true, false, not, ◌&&◌}
use mathlib.Core.List.{List}
use mathlib.Core.Logic.{◌⊎◌, inl, inr}
use mathlib.Core.Option.{Option, none, some}
use native.Mathlib.Decide.{ℕ_discrete}
use native.Mathlib.Omega.{arith}
use lib.ListN.{length, get_or}
use lib.Dec.{eqb}
use lib.Pow.{pow_pos}
use borrow.Author.Tests.{eq-eqb, eqb-true, not-true}
use Rattle.reply.specs.declared.Reply.{Reply}
use Rattle.reply.specs.declared.Reply.TheVariants as reply
use Rattle.task.specs.Map.{is_live, gone}
use Rattle.task.specs.Tasks.{is_running}
use Rattle.task.specs.declared.Task.{Task}
use Rattle.task.proofs.Ways.{either_way, never, both}
use Rattle.task.proofs.Places.{lt_or_le, some_at, some_find}
use Rattle.task.proofs.Bits.{dead_past, dead_zero, ext_live, live_map_of, map_of_lt}
use Rattle.task.proofs.Maps.{gone_at}
use Rattle.table.specs.Tables.{task_at, path_at, path_of}
use Rattle.table.specs.View.{at}
use Rattle.table.specs.declared.Table.{Table}
use Rattle.table.proofs.Views.{not_both, at_live, at_dead, live_at}
use Rattle.plan.specs.Plans.{reply_of}
use Rattle.engine.specs.Promises.{EndsNothing}
use Rattle.engine.specs.declared.Outcome.{Outcome}
use Rattle.engine.proofs.Endings.{message_gone, start_gone, finish_gone, reset_gone}
use Rattle.history.specs.Trace.{Event, Message, Start, Finish, TotalReset, Label, Effect, Fate, stays, becomes, ended, fate_of, finish_replied, effect_of}
use Rattle.history.specs.Demand.{Engine}
use Rattle.history.specs.Drives.{left_after, engine, ByDrive}
use Rattle.history.specs.Ended.{Lists, ids_from, EveryTableLists, Made, fate_by, SameCommand, finishes, Stopped, EndedAreItsOwn, SaysWhatItEnded}
use Rattle.history.proofs.Nth.{same_element}
use Rattle.history.proofs.Fates.{goes_on_as}
use Rattle.history.proofs.Kept.{remains_of, Done}
use Rattle.history.proofs.Calls.{message_done, start_done, finish_done, reset_done}
use Rattle.history.proofs.Stopping.{runs_of, running_in, message_stops, start_stops, finish_stops, reset_stops}
use Rattle.history.proofs.Others.{others_stay}
use Rattle.history.proofs.Demand.{as_drive, meets_contract}

-- ---- every table lists its ids

ids_length : (t : Table) (p n : ℕ) → n ≡ length (ids_from t p n)
unfolding ids_from
ids_length t p zero = refl
ids_length t p (suc n) = ap suc (ids_length t (suc p) n)

ids_each : (t : Table) (p n k : ℕ) → k < n → (path_at t (p + k)).id ≡ get_or (ids_from t p n) k 0
unfolding ids_from
ids_each t p zero k l = absurd (omega arith)
ids_each t p (suc n) zero l = ap (λ (q : ℕ). (path_at t q).id) (omega arith)
ids_each t p (suc n) (suc k) l = ap (λ (q : ℕ). (path_at t q).id) (omega arith) ∙ ids_each t (suc p) n k (omega arith)

pub every_table_lists : EveryTableLists
every_table_lists t = record {
  count = ids_length t 0 t.count;
  each = λ p l. let z : p ≡ 0 + p = omega arith in ap (λ (q : ℕ). (path_at t q).id) z ∙ ids_each t 0 t.count p l;
}

-- ---- what the engine did is what the trace says

pub done_by_law : (ids : List ℕ) (ev : Event) (t : Table) (o : Outcome) (left : List ℕ) → Lists ids t → Made Engine ev t o left → Done (effect_of ids ev o.answer) t o.table
unfolding engine
done_by_law ids ev t o left names x = rw (as_drive ev t o left x.call) (by_event_law ev)
  where
    by_event_law : (ev : Event) → Done (effect_of ids ev (engine ev t).answer) t (engine ev t).table
    by_event_law (Message m buf) = message_done ids t x.good names.count names.each m buf
    by_event_law (Start unit) = start_done ids t x.good names.count names.each unit
    by_event_law (Finish arrival status sense transferred buf) = finish_done ids t x.good names.count names.each arrival status sense transferred buf
    by_event_law TotalReset = reset_done ids t x.good names.count names.each

-- and what left the live map is `ended`, on any table
pub gone_by : (ev : Event) (t : Table) (o : Outcome) (left : List ℕ) → Engine ev t o left → o.ended ≡ gone t.live o.table.live
unfolding engine
gone_by ev t o left c = rw (as_drive ev t o left c) (by_event_law ev)
  where
    by_event_law : (ev : Event) → (engine ev t).ended ≡ gone t.live (engine ev t).table.live
    by_event_law (Message m buf) = message_gone t m (length buf)
    by_event_law (Start unit) = start_gone t unit
    by_event_law (Finish arrival status sense transferred buf) = finish_gone t arrival status sense transferred (length buf)
    by_event_law TotalReset = reset_gone t

-- ---- 1 and 2: a bit of `ended`, by what is in the record before and after

-- what a fate leaves: nothing where the command is ended, and else the command still
remains_none : (a : Task) (x : Fate) → remains_of a x ≡ none → (how : Label) × (x ≡ ended how)
remains_none a stays e = absurd (not_both e refl)
remains_none a (becomes b) e = absurd (not_both e refl)
remains_none a (ended how) e = (how, refl)

remains_some : (effect : Effect) (a b : Task) → remains_of a (fate_of effect a) ≡ some b → SameCommand a b
remains_some effect a b = cases (fate_of effect a) refl
  where
    cases : (x : Fate) → fate_of effect a ≡ x → remains_of a x ≡ some b → SameCommand a b
    cases stays f e = rw (same_element refl e) (record { path = refl; tag = refl; unit = refl; kind = refl; arrival = refl; sequel = refl })
    cases (becomes c) f e =
        let g = goes_on_as effect a c f in
        rw (← same_element refl e) (record { path = g.0; tag = g.1; unit = g.2; kind = g.3; arrival = g.4; sequel = g.5 })
    cases (ended how) f e = absurd (not_both refl e)

module _ (ev : Event) (t : Table) (o : Outcome) (left : List ℕ) (x : Made Engine ev t o left) where
  abbrev u : Table
  u = o.table

  pub bit : (i : ℕ) → i < 64 → is_live o.ended i ≡ (is_live t.live i && not (is_live u.live i))
  bit i l = ap (λ (m : ℕ). is_live m i) (gone_by ev t o left x.call) ∙ gone_at t.live u.live i l

  ended_lt : o.ended < 2 ^ 64
  unfolding gone
  ended_lt = rw (gone_by ev t o left x.call) (map_of_lt 64 _)

  -- a bit that is set: the record was live, and is not
  bit_set : (i : ℕ) → is_live o.ended i ≡ true → (i < 64) × (at t i ≡ some (task_at t i)) × (at u i ≡ none)
  bit_set i e = elim (lt_or_le i 64) [
    | inl l ↦ let b = both (is_live t.live i) (not (is_live u.live i)) (sym (bit i l) ∙ e) in (l, at_live t i b.0, at_dead u i (not-true _ b.1))
    | inr l ↦ absurd (never e (dead_past 64 o.ended i ended_lt l))
  ]

  -- the record was live, and is not: its bit is set; and is still: its bit is clear
  bit_of_gone : (i : ℕ) (a : Task) → i < 64 → at t i ≡ some a → at u i ≡ none → is_live o.ended i ≡ true
  bit_of_gone i a l e d = elim (either_way (is_live u.live i)) [
    | inl y ↦ absurd (not_both d (at_live u i y))
    | inr y ↦ bit i l ∙ rw ((live_at t i e).0, y) refl
  ]

  bit_of_live : (i : ℕ) (a b : Task) → i < 64 → at t i ≡ some a → at u i ≡ some b → is_live o.ended i ≡ false
  bit_of_live i a b l e d = bit i l ∙ rw ((live_at t i e).0, (live_at u i d).0) refl

  module _ (ids : List ℕ) (names : Lists ids t) where
    pub follows : (i : ℕ) (a : Task) → i < 64 → at t i ≡ some a → at u i ≡ remains_of a (fate_by ids ev o a)
    follows = (done_by_law ids ev t o left names x).follows

    pub set : (i : ℕ) → is_live o.ended i ≡ true → (i < 64) × (a : Task) × (how : Label) × (at t i ≡ some a) × (fate_by ids ev o a ≡ ended how)
    set i e =
        let b = bit_set i e in
        let f = remains_none (task_at t i) (fate_by ids ev o (task_at t i)) (sym (follows i (task_at t i) b.0 b.1) ∙ b.2) in
        (b.0, task_at t i, f.0, b.1, f.1)

    all : (i : ℕ) (a : Task) (how : Label) → i < 64 → at t i ≡ some a → fate_by ids ev o a ≡ ended how → is_live o.ended i ≡ true
    all i a how l e f = bit_of_gone i a l e (follows i a l e ∙ ap (remains_of a) f)

    pub silent_as : (i : ℕ) (a : Task) → i < 64 → at t i ≡ some a → is_live o.ended i ≡ false → (b : Task) × (at u i ≡ some b) × SameCommand a b
    silent_as i a l e d = elim (either_way (is_live u.live i)) [
      | inl y ↦ (task_at u i, at_live u i y, remains_some (effect_of ids ev o.answer) a (task_at u i) (sym (follows i a l e) ∙ at_live u i y))
      | inr y ↦ absurd (never (bit_of_gone i a l e (at_dead u i y)) d)
    ]

  -- by the table's own ids
  silent : (i : ℕ) (a : Task) → i < 64 → at t i ≡ some a → is_live o.ended i ≡ false → (b : Task) × (at u i ≡ some b) × SameCommand a b
  silent = silent_as (ids_from t 0 t.count) (every_table_lists t)

-- ---- 3: the units that have to stop

module _ (t : Table) (o : Outcome) where
  -- where `stops` is the units on which a task of `ended` ran
  abbrev ByEnded : Type 0
  ByEnded = o.stops ≡ running_in t o.ended

  unit_set : ByEnded → (unit : ℕ) → is_live o.stops unit ≡ true
      → (unit < 8) × (i : ℕ) × (i < 64) × (is_running (task_at t i).phase ≡ true) × (is_live o.ended i ≡ true) × ((task_at t i).unit ≡ unit)
  unfolding running_in
  unit_set e unit k = elim (lt_or_le unit 8) [
    | inl l ↦
        let r = some_find 64 _ (sym (live_map_of 8 unit _ l) ∙ sym (ap (λ (m : ℕ). is_live m unit) e) ∙ k) in
        let b = both (runs_of t o.ended r.0) _ r.2 in
        let c = both (is_running (task_at t r.0).phase) _ b.0 in
        (l, r.0, r.1, c.0, c.1, eqb-true _ _ b.1)
    | inr l ↦ absurd (never k (dead_past 8 o.stops unit (rw e (map_of_lt 8 _)) l))
  ]

  unit_all : ByEnded → (unit i : ℕ) → unit < 8 → i < 64 → is_running (task_at t i).phase ≡ true → is_live o.ended i ≡ true → (task_at t i).unit ≡ unit → is_live o.stops unit ≡ true
  unfolding running_in
  unit_all e unit i l below ran set there = ap (λ (m : ℕ). is_live m unit) e ∙ live_map_of 8 unit _ l ∙ some_at 64 i _ below (rw (ran, set, eq-eqb _ _ there) refl)

-- what a finish ends is the command that it names
abbrev pub is_ended : Fate → Bool
is_ended stays = false
is_ended (becomes b) = false
is_ended (ended how) = true

pub finish_named : (arrival transferred : ℕ) (r : Option Reply) (a : Task) (how : Label) → fate_of (finish_replied arrival transferred r) a ≡ ended how → eqb a.arrival arrival ≡ true
unfolding fate_of
finish_named arrival transferred none a how e = absurd (never (ap is_ended e) refl)
finish_named arrival transferred (some (reply.Response tag code)) a how e = absurd (never (ap is_ended e) refl)
finish_named arrival transferred (some (reply.Status tag status sense)) a how e = elim (either_way (eqb a.arrival arrival)) [
  | inl y ↦ y
  | inr y ↦ absurd (never (ap is_ended e) (rw y refl))
]
finish_named arrival transferred (some (reply.Invalid tag)) a how e = absurd (never (ap is_ended e) refl)

-- by a finish nothing has to stop, and what it ended is what it finished; by all else the units on which a task of
-- `ended` ran have to
module _ (t : Table) (o : Outcome) (left : List ℕ) where
  abbrev AtFinish : Event → Type 0
  AtFinish ev = (o.stops ≡ 0) × ((i : ℕ) (a : Task) → at t i ≡ some a → is_live o.ended i ≡ true → finishes ev a ≡ true)

  abbrev Otherwise : Event → Type 0
  Otherwise ev = (o.stops ≡ running_in t o.ended) × ((a : Task) → finishes ev a ≡ false)

  stops_by : (ev : Event) → Made Engine ev t o left → AtFinish ev ⊎ Otherwise ev
  stops_by (Message m buf) x = inr (rw x.call.outcome (message_stops t x.good m (length buf)), λ _. refl)
  stops_by (Start unit) x = inr (rw x.call (start_stops t unit), λ _. refl)
  stops_by (Finish arrival status sense transferred buf) x = inl (
    rw x.call.outcome (finish_stops t arrival status sense transferred (length buf)),
    λ i a here e.
        let f = set (Finish arrival status sense transferred buf) t o left x (ids_from t 0 t.count) (every_table_lists t) i e in
        let same : f.1 ≡ a = same_element f.3 here in
        ap (λ (b : Task). eqb b.arrival arrival) (sym same) ∙ finish_named arrival transferred (reply_of o.answer) f.1 f.2 f.4,
  )
  stops_by TotalReset x = inr (rw x.call (reset_stops t), λ _. refl)

  module _ (ev : Event) (x : Made Engine ev t o left) where
    stops_set : (unit : ℕ) → is_live o.stops unit ≡ true → (unit < 8) × (i : ℕ) × (a : Task) × Stopped ev t o unit i a
    stops_set unit k = elim (stops_by ev x) [
      | inl z ↦ absurd (never k (ap (λ (m : ℕ). is_live m unit) z.0 ∙ dead_zero unit))
      | inr w ↦
          let r = unit_set t o w.0 unit k in
          let i : ℕ = r.1 in (
            r.0,
            i,
            task_at t i,
            record { below = r.2; here = (bit_set ev t o left x i r.4).1; ran = r.3; there = r.5; in_ended = r.4; not_finished = w.1 (task_at t i) },
          )
    ]

    stops_all : (unit i : ℕ) (a : Task) → unit < 8 → Stopped ev t o unit i a → is_live o.stops unit ≡ true
    stops_all unit i a l s = elim (stops_by ev x) [
      | inl z ↦ absurd (never (z.1 i a s.here s.in_ended) s.not_finished)
      | inr w ↦
          let same : task_at t i ≡ a = (live_at t i s.here).1 in
          unit_all t o w.0 unit i l s.below (ap (λ (b : Task). is_running b.phase) same ∙ s.ran) s.in_ended (ap (λ (b : Task). b.unit) same ∙ s.there)
    ]

    stops_lt : o.stops < 2 ^ 8
    unfolding running_in
    stops_lt = elim (stops_by ev x) [ inl z ↦ rw z.0 (pow_pos 8) | inr w ↦ rw w.0 (map_of_lt 8 _) ]

-- ---- 4: whose they are

its_own : EndedAreItsOwn Engine
its_own m buf t o left path tag w x says r i a e here = elim (ℕ_discrete a.path (path_of t path)) [
  | yes q ↦ q
  | no n ↦
      let l : i < 64 = (bit_set (Message m buf) t o left x i e).0 in
      absurd (never e (bit_of_live (Message m buf) t o left x i a a l here (others_stay t m buf o left path tag w x.good x.call says r i a l here n)))
]

-- ---- where nothing was ended

-- a map of so many bits with none set
none_set : (n map : ℕ) → map < 2 ^ n → ((i : ℕ) → i < n → is_live map i ≡ false) → map ≡ 0
none_set n map l h = ext_live n map 0 l (pow_pos n) (λ i below. h i below ∙ sym (dead_zero i))

clear : {b : Bool} → (b ≡ true → ⊥) → b ≡ false
clear {b} n = elim (either_way b) [ inl y ↦ absurd (n y) | inr y ↦ y ]

none_ended : (ids : List ℕ) (ev : Event) (t : Table) (o : Outcome) (left : List ℕ) → Lists ids t → Made Engine ev t o left
    → ((i : ℕ) (a : Task) (how : Label) → i < 64 → at t i ≡ some a → fate_by ids ev o a ≡ ended how → ⊥) → EndsNothing o
none_ended ids ev t o left names x nobody =
    let unset : (i : ℕ) → is_live o.ended i ≡ true → ⊥ = λ i e. let f = set ev t o left x ids names i e in nobody i f.1 f.2 f.0 f.3 f.4 in
    record {
      ended = none_set 64 o.ended (ended_lt ev t o left x) (λ i _. clear (unset i));
      stops = none_set 8 o.stops (stops_lt t o left ev x) (λ unit _. clear (λ e. let s = stops_set t o left ev x unit e in unset s.1 s.3.in_ended));
    }

pub says_what_it_ended : SaysWhatItEnded Engine
says_what_it_ended = record {
  ended = record {
    set = λ ids ev t o left names x. set ev t o left x ids names;
    all = λ ids ev t o left names x. all ev t o left x ids names;
    none = none_ended;
  };
  silent = silent;
  stops = record { set = λ ev t o left x. stops_set t o left ev x; all = λ ev t o left x. stops_all t o left ev x };
  own = its_own;
}

-- and of the engine as a drive, which leaves the buffer as its answer asks
pub engine_says : SaysWhatItEnded (ByDrive engine)
engine_says = record {
  ended = record {
    set = λ ids ev t o left names x. says_what_it_ended.ended.set ids ev t o (left_after ev o.answer) names (as_made ev t o left x);
    all = λ ids ev t o left names x. says_what_it_ended.ended.all ids ev t o (left_after ev o.answer) names (as_made ev t o left x);
    none = λ ids ev t o left names x. says_what_it_ended.ended.none ids ev t o (left_after ev o.answer) names (as_made ev t o left x);
  };
  silent = λ ev t o left x. says_what_it_ended.silent ev t o (left_after ev o.answer) (as_made ev t o left x);
  stops = record {
    set = λ ev t o left x. says_what_it_ended.stops.set ev t o (left_after ev o.answer) (as_made ev t o left x);
    all = λ ev t o left x. says_what_it_ended.stops.all ev t o (left_after ev o.answer) (as_made ev t o left x);
  };
  own = λ m buf t o left path tag w x. says_what_it_ended.own m buf t o (left_after (Message m buf) o.answer) path tag w (as_made (Message m buf) t o left x);
}
  where
    as_made : (ev : Event) (t : Table) (o : Outcome) (left : List ℕ) → Made (ByDrive engine) ev t o left → Made Engine ev t o (left_after ev o.answer)
    as_made ev t o left x = record { good = x.good; call = rw x.call (meets_contract ev t) }
