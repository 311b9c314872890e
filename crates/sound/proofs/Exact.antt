-- The check is exact: it answers true for a table that is sound, and for no other. A lemma for each clause, each way.
-- Assumes nothing.
use Rattle.std.specs.Prelude.{Option, Some, None}
use Prim.Native.Nat.{ℕ, ◌≤◌, ◌<◌}
use mathlib.Core.Path.{◌≡◌, refl, sym, ap, ◌∙◌}
use mathlib.Core.Bool.{Bool, true, false, not, ◌&&◌, ◌||◌, or-true}
use mathlib.Core.List.{List}
use mathlib.Core.Option.{none, some}
use mathlib.Core.Logic.{inl, inr}
use native.Mathlib.Omega.{arith}
use lib.Dec.{eqb, ltb, leb}
use borrow.Author.Tests.{ltb-true, ltb-false, leb-true, eqb-true, eqb-false, not-true, lt-ltb, le-ltb, le-leb, eq-eqb, ne_eqb}
use Rattle.task.specs.Tasks.{no_task, is_aca, is_waiting, is_running, is_end}
use Rattle.task.specs.Map.{is_live}
use Rattle.wire.specs.declared.codes.Kind.{Kind}
use Rattle.wire.specs.declared.codes.Kind.TheVariants as kind
use Rattle.task.specs.declared.Phase.{Phase}
use Rattle.task.specs.declared.Phase.TheVariants as phase
use Rattle.task.specs.declared.Sequel.{Sequel}
use Rattle.task.specs.declared.Sequel.TheVariants as sequel
use Rattle.task.specs.declared.Task.{Task}
use Rattle.task.proofs.Ways.{either_way, never, both, either}
use Rattle.task.proofs.Places.{lt_or_le, all_at, all_of, none_at, some_none, first_is}
use Rattle.table.specs.Tables.{no_path, path_at, unit_at, task_at, bit_of, is_attached, is_nothing, owned_by, aca_at, has_id, place_of, path_of}
use Rattle.sound.specs.Sound.{Sound, is_no_path, is_no_task, may_stand, live_ok, count_ok, paths_distinct, unused_zero, records_ok, units_ok, cannot_share_unit, alike, clashes, sound_of}
use Rattle.table.specs.View.{at}
use Rattle.sound.specs.Promises.{CheckIsExact}
use Rattle.table.specs.declared.Attention.{Attention}
use Rattle.table.specs.declared.Attention.TheVariants as attention
use Rattle.table.specs.declared.Path as path
use Rattle.table.specs.declared.Unit as unit
use Rattle.table.specs.declared.Table.{Table}
use Rattle.table.proofs.Views.{not_both, at_live, at_dead, live_at}
use Rattle.sound.proofs.Checking.{first_with_id, used_or_zero, record_fine, unit_fine, clash_at, clash_below}

second : (b c : Bool) → b ≡ false → (b || c) ≡ true → c ≡ true
second b c e h = rw e at h

dead_at : (t : Table) (i : ℕ) → at t i ≡ none → is_live t.live i ≡ false
dead_at t i e = elim (either_way (is_live t.live i)) [ inl l ↦ absurd (not_both e (at_live t i l)) | inr d ↦ d ]

-- ---- what is all zero

aca_zero : (k : Kind) → is_aca k ≡ true → k ≡ kind.Aca
aca_zero kind.Aca h = refl
aca_zero kind.Head h = absurd (never h refl)
aca_zero kind.Ordered h = absurd (never h refl)
aca_zero kind.Simple h = absurd (never h refl)

phase_zero : (p : Phase) → is_waiting p ≡ true → p ≡ phase.Waiting
phase_zero phase.Waiting h = refl
phase_zero phase.Running h = absurd (never h refl)
phase_zero phase.Unconfirmed h = absurd (never h refl)

sequel_zero : (s : Sequel) → is_end s ≡ true → s ≡ sequel.End
sequel_zero sequel.End h = refl
sequel_zero sequel.Confirm h = absurd (never h refl)

attention_zero : (a : Attention) → is_nothing a ≡ true → a ≡ attention.Nothing
attention_zero attention.Nothing h = refl
attention_zero attention.Reset h = absurd (never h refl)
attention_zero attention.Cleared h = absurd (never h refl)

path_zero : (a : path.Path) → is_no_path a ≡ true → a ≡ no_path
path_zero a h =
    let f = both _ _ h in
    let g = both _ _ f.1 in
    let id : a.id ≡ 0 = eqb-true _ _ f.0 in
    let full : a.full ≡ false = not-true _ g.0 in
    let attention : a.attention ≡ attention.Nothing = attention_zero _ g.1 in
    λ i. record { id = id i; full = full i; attention = attention i }

task_zero : (a : Task) → is_no_task a ≡ true → a ≡ no_task
task_zero a h =
    let f = both _ _ h in
    let g = both _ _ f.1 in
    let j = both _ _ g.1 in
    let k = both _ _ j.1 in
    let l = both _ _ k.1 in
    let m = both _ _ l.1 in
    let n = both _ _ m.1 in
    let arrival : a.arrival ≡ 0 = eqb-true _ _ f.0 in
    let position : a.position ≡ 0 = eqb-true _ _ g.0 in
    let tag : a.tag ≡ 0 = eqb-true _ _ j.0 in
    let path : a.path ≡ 0 = eqb-true _ _ k.0 in
    let unit : a.unit ≡ 0 = eqb-true _ _ l.0 in
    let kind : a.kind ≡ kind.Aca = aca_zero _ m.0 in
    let phase : a.phase ≡ phase.Waiting = phase_zero _ n.0 in
    let sequel : a.sequel ≡ sequel.End = sequel_zero _ n.1 in
    λ i. record {
      arrival = arrival i;
      position = position i;
      tag = tag i;
      path = path i;
      unit = unit i;
      kind = kind i;
      phase = phase i;
      sequel = sequel i;
    }

-- ---- two tasks that can't both be live

pub data Clash (a b : Task) : Type 0 where
  same_name : a.path ≡ b.path → a.tag ≡ b.tag → Clash a b
  same_arrival : a.arrival ≡ b.arrival → Clash a b
  both_run : is_running a.phase ≡ true → is_running b.phase ≡ true → a.unit ≡ b.unit → Clash a b
  both_aca : is_aca a.kind ≡ true → is_aca b.kind ≡ true → a.unit ≡ b.unit → Clash a b

pub turned : {a b : Task} → Clash a b → Clash b a
turned (same_name p q) = same_name (sym p) (sym q)
turned (same_arrival p) = same_arrival (sym p)
turned (both_run h l p) = both_run l h (sym p)
turned (both_aca h l p) = both_aca l h (sym p)

-- what the check calls alike is that, and no more
module _ (a b : Task) where
  on_unit_law : a.unit ≡ b.unit → cannot_share_unit a b ≡ true → alike a b ≡ true
  on_unit_law p h =
      rw (eq-eqb a.unit b.unit p, h, or-true (eqb a.path b.path && eqb a.tag b.tag)) (or-true (eqb a.arrival b.arrival))

  clash_alike : Clash a b → alike a b ≡ true
  clash_alike (same_name p q) = rw (eq-eqb a.path b.path p, eq-eqb a.tag b.tag q) (or-true (eqb a.arrival b.arrival))
  clash_alike (same_arrival p) = rw (eq-eqb a.arrival b.arrival p)
  clash_alike (both_run h l p) = on_unit_law p (rw (h, l))
  clash_alike (both_aca h l p) = on_unit_law p (rw (h, l) (or-true (is_running a.phase && is_running b.phase)))

  unit_clash : a.unit ≡ b.unit → cannot_share_unit a b ≡ true → Clash a b
  unit_clash p h = elim (either (is_running a.phase && is_running b.phase) _ h) [
    | inl e ↦ let f = both _ _ e in both_run f.0 f.1 p
    | inr e ↦ let f = both _ _ e in both_aca f.0 f.1 p
  ]

  pub alike_clash : alike a b ≡ true → Clash a b
  alike_clash h = elim (either (eqb a.arrival b.arrival) _ h) [
    | inl e ↦ same_arrival (eqb-true _ _ e)
    | inr k ↦ elim (either (eqb a.path b.path && eqb a.tag b.tag) _ k) [
      | inl e ↦ let f = both _ _ e in same_name (eqb-true _ _ f.0) (eqb-true _ _ f.1)
      | inr e ↦ let f = both _ _ e in unit_clash (eqb-true _ _ f.1) f.0
    ]
  ]

-- ---- a live task by itself

-- its path is listed, its unit attached, its arrival number below the next, and an ACA task's path owns the unit's
-- ACA
pub record InOrder (count mask : ℕ) (units : List unit.Unit) (next : ℕ) (a : Task) : Type 0 where
  pub listed : a.path < count
  pub attached : bit_of mask a.unit ≡ true
  pub below : a.arrival < next
  pub owned : is_aca a.kind ≡ true → aca_at units a.unit ≡ Some a.path

abbrev pub order_in : Table → ℕ → Task → Type 0
order_in t next a = InOrder t.count t.attached t.units next a

owner_is : (aca : Option ℕ) (p : ℕ) → owned_by aca p ≡ true → aca ≡ Some p
owner_is None p h = absurd (never h refl)
owner_is (Some q) p h = ap Some (eqb-true _ _ h)

module _ (t : Table) (a : Task) where
  abbrev order_ok : Bool
  order_ok = live_ok t.next t.count t.attached (unit_at t a.unit).aca a

  in_order : order_ok ≡ true → order_in t t.next a
  in_order h =
      let f = both _ _ h in
      let g = both _ _ f.1 in
      let k = both _ _ g.1 in
      record {
        listed = ltb-true _ _ f.0;
        attached = g.0;
        below = ltb-true _ _ k.0;
        owned = λ e. owner_is _ _ (rw e at k.1);
      }

  may_stand_law : (is_aca a.kind ≡ true → (unit_at t a.unit).aca ≡ Some a.path) → may_stand (unit_at t a.unit).aca a ≡ true
  may_stand_law f = elim (either_way (is_aca a.kind)) [ inl h ↦ rw (h, f h) (eq-eqb a.path a.path refl) | inr h ↦ rw h ]

  order_ok_law : order_in t t.next a → order_ok ≡ true
  order_ok_law s = rw (lt-ltb a.path t.count s.listed, s.attached, lt-ltb a.arrival t.next s.below) (may_stand_law s.owned)

-- ---- sound, by what holds of each live task, of two that can't both be live, and of each ACA

pub record Parts (t : Table) : Type 0 where
  pub some_path : 1 ≤ t.count
  pub eight_at_most : t.count ≤ 8
  pub distinct : (p q : ℕ) → p < t.count → q < t.count → (path_at t p).id ≡ (path_at t q).id → p ≡ q
  pub dead_zero : (i : ℕ) → i < 64 → at t i ≡ none → task_at t i ≡ no_task
  pub unused_is_zero : (p : ℕ) → t.count ≤ p → p < 8 → path_at t p ≡ no_path
  pub order : (i : ℕ) (a : Task) → i < 64 → at t i ≡ some a → order_in t t.next a
  pub apart : (i j : ℕ) (a b : Task) → i < 64 → j < 64 → at t i ≡ some a → at t j ≡ some b → Clash a b → i ≡ j
  pub owner : (u p : ℕ) → u < 8 → (unit_at t u).aca ≡ Some p → (is_attached t u ≡ true) × (p < t.count)

pub sound_by : (t : Table) → Parts t → Sound t
sound_by t s = record {
  some_path = s.some_path;
  eight_at_most = s.eight_at_most;
  distinct = s.distinct;
  dead_zero = s.dead_zero;
  unused_is_zero = s.unused_is_zero;
  listed = λ i a l e. (s.order i a l e).listed;
  attached = λ i a l e. (s.order i a l e).attached;
  one_tag = λ i j a b l m e f p q. s.apart i j a b l m e f (same_name p q);
  one_arrival = λ i j a b l m e f p. s.apart i j a b l m e f (same_arrival p);
  below_next = λ i a l e. (s.order i a l e).below;
  one_running = λ i j a b l m e f h n p. s.apart i j a b l m e f (both_run h n p);
  aca_attached = λ u p l e. (s.owner u p l e).0;
  aca_listed = λ u p l e. (s.owner u p l e).1;
  aca_owned = λ i a l e. (s.order i a l e).owned;
  one_aca = λ i j a b l m e f h n p. s.apart i j a b l m e f (both_aca h n p);
}

pub parts : (t : Table) → Sound t → Parts t
parts t s = record {
  some_path = s.some_path;
  eight_at_most = s.eight_at_most;
  distinct = s.distinct;
  dead_zero = s.dead_zero;
  unused_is_zero = s.unused_is_zero;
  order = λ i a l e. record {
    listed = s.listed i a l e;
    attached = s.attached i a l e;
    below = s.below_next i a l e;
    owned = s.aca_owned i a l e;
  };
  apart = one;
  owner = λ u p l e. (s.aca_attached u p l e, s.aca_listed u p l e);
}
  where
    one : (i j : ℕ) (a b : Task) → i < 64 → j < 64 → at t i ≡ some a → at t j ≡ some b → Clash a b → i ≡ j
    one i j a b l m e f (same_name p q) = s.one_tag i j a b l m e f p q
    one i j a b l m e f (same_arrival p) = s.one_arrival i j a b l m e f p
    one i j a b l m e f (both_run h k p) = s.one_running i j a b l m e f h k p
    one i j a b l m e f (both_aca h k p) = s.one_aca i j a b l m e f h k p

-- ---- each part, from the part of the check that asks for it

module _ (t : Table) where
  some_path : count_ok t ≡ true → 1 ≤ t.count
  unfolding count_ok
  some_path h = let n : t.count ≡ 0 → ⊥ = eqb-false _ _ (not-true _ (both _ (leb t.count 8) h).0) in omega arith

  eight_at_most : count_ok t ≡ true → t.count ≤ 8
  unfolding count_ok
  eight_at_most h = leb-true _ _ (both (not (eqb t.count 0)) _ h).1

  own_place : paths_distinct t ≡ true → (p : ℕ) → p < t.count → t.count ≤ 8 → path_of t (path_at t p).id ≡ p
  unfolding paths_distinct
  own_place h p l m = eqb-true _ _ (second _ _ (ap not (lt-ltb p t.count l)) (all_at 8 p (first_with_id t) h (omega arith)))

  distinct : t.count ≤ 8 → paths_distinct t ≡ true → (p q : ℕ) → p < t.count → q < t.count → (path_at t p).id ≡ (path_at t q).id → p ≡ q
  distinct m h p q k l e = sym (own_place h p k m) ∙ ap (path_of t) e ∙ own_place h q l m

  unused_is_zero : unused_zero t ≡ true → (p : ℕ) → t.count ≤ p → p < 8 → path_at t p ≡ no_path
  unfolding unused_zero
  unused_is_zero h p l m = path_zero _ (second _ _ (le-ltb p t.count l) (all_at 8 p (used_or_zero t) h m))

  dead_zero : records_ok t ≡ true → (i : ℕ) → i < 64 → at t i ≡ none → task_at t i ≡ no_task
  unfolding records_ok
  dead_zero h i l e = task_zero _ (rw (dead_at t i e) at (all_at 64 i (record_fine t) h l))

  live_in_order : records_ok t ≡ true → (i : ℕ) (a : Task) → i < 64 → at t i ≡ some a → order_in t t.next a
  unfolding records_ok
  live_in_order h i a l e =
      let v = live_at t i e in
      let f : order_ok t (task_at t i) ≡ true = rw v.0 at (all_at 64 i (record_fine t) h l) in
      rw v.1 at (in_order t (task_at t i) f)

  owner_ok : units_ok t ≡ true → (u p : ℕ) → u < 8 → (unit_at t u).aca ≡ Some p → (is_attached t u ≡ true) × (p < t.count)
  unfolding units_ok
  owner_ok h u p l e =
      let f : (ltb p t.count && is_attached t u) ≡ true = rw e at (all_at 8 u (unit_fine t) h l) in
      let g = both _ _ f in
      (g.1, ltb-true _ _ g.0)

  -- the walk compares a record with those below it
  no_clash_below : clashes t ≡ false → (i j : ℕ) (a b : Task) → i < 64 → j < i → at t i ≡ some a → at t j ≡ some b → Clash a b → ⊥
  unfolding clashes
  no_clash_below h i j a b l m e f r =
      let v = live_at t i e in
      let w = live_at t j f in
      let n : clash_at t i j ≡ false = none_at i j (clash_at t i) (none_at 64 i (clash_below t) h l) m in
      let y : clash_at t i j ≡ true = rw (v.1, w.1, clash_alike a b r, v.0, w.0) in
      never y n

  alone : clashes t ≡ false → (i j : ℕ) (a b : Task) → i < 64 → j < 64 → at t i ≡ some a → at t j ≡ some b → Clash a b → i ≡ j
  alone h i j a b l m e f r = elim (lt_or_le i j) [
    | inl k ↦ absurd (no_clash_below h j i b a m k f e (turned r))
    | inr n ↦ elim (lt_or_le j i) [ inl k ↦ absurd (no_clash_below h i j a b l k e f r) | inr k ↦ omega arith ]
  ]

-- ---- each part of the check, from the parts

module _ (t : Table) (s : Parts t) where
  count_ok_law : count_ok t ≡ true
  unfolding count_ok
  count_ok_law = rw (ne_eqb t.count 0 (λ e. absurd (omega (arith, s.some_path))), le-leb t.count 8 s.eight_at_most)

  other_id : (p k : ℕ) → p < t.count → k < p → has_id t.count (path_at t p).id k (path_at t k) ≡ false
  other_id p k l m =
      rw (lt-ltb k t.count (omega arith))
      (ne_eqb (path_at t k).id (path_at t p).id (λ e. let q : k ≡ p = s.distinct k p (omega arith) l e in omega arith))

  first_place : (p : ℕ) → p < t.count → path_of t (path_at t p).id ≡ p
  unfolding place_of
  first_place p l =
      first_is 8 p (λ k. has_id t.count (path_at t p).id k (path_at t k)) (omega (arith, s.eight_at_most))
      (rw (lt-ltb p t.count l) (eq-eqb (path_at t p).id (path_at t p).id refl)) (λ k m. other_id p k l m)

  paths_distinct_law : paths_distinct t ≡ true
  unfolding paths_distinct
  paths_distinct_law = all_of 8 (first_with_id t) (λ p l.
      elim (either_way (ltb p t.count)) [
        | inl h ↦ rw (h, eq-eqb (path_of t (path_at t p).id) p (first_place p (ltb-true _ _ h)))
        | inr h ↦ rw h
      ])

  unused_ok : unused_zero t ≡ true
  unfolding unused_zero
  unused_ok = all_of 8 (used_or_zero t) (λ p l.
      elim (either_way (ltb p t.count)) [ inl h ↦ rw h | inr h ↦ rw (h, s.unused_is_zero p (ltb-false _ _ h) l) ])

  records_ok_law : records_ok t ≡ true
  unfolding records_ok
  records_ok_law = all_of 64 (record_fine t) (λ i l.
      elim (either_way (is_live t.live i)) [
        | inl h ↦ rw h (order_ok_law t (task_at t i) (s.order i (task_at t i) l (at_live t i h)))
        | inr h ↦ rw (h, s.dead_zero i l (at_dead t i h))
      ])

  unit_ok : (u : ℕ) → u < 8 → (aca : Option ℕ) → (unit_at t u).aca ≡ aca → unit_fine t u ≡ true
  unit_ok u l None e = rw e
  unit_ok u l (Some p) e = let o = s.owner u p l e in rw (e, lt-ltb p t.count o.1, o.0)

  units_ok_law : units_ok t ≡ true
  unfolding units_ok
  units_ok_law = all_of 8 (unit_fine t) (λ u l. unit_ok u l (unit_at t u).aca refl)

  no_clash_at : (i j : ℕ) → i < 64 → j < i → clash_at t i j ≡ false
  no_clash_at i j l m = elim (either_way (clash_at t i j)) [
    | inl h ↦
        let f = both _ _ h in
        let g = both _ _ f.1 in
        let r = alike_clash (task_at t i) (task_at t j) f.0 in
        let q : i ≡ j = s.apart i j (task_at t i) (task_at t j) l (omega arith) (at_live t i g.0) (at_live t j g.1) r in
        absurd (omega arith)
    | inr h ↦ h
  ]

  no_clash : clashes t ≡ false
  unfolding clashes
  no_clash = some_none 64 (clash_below t) (λ i l. some_none i (clash_at t i) (λ j m. no_clash_at i j l m))

-- ---- both ways

passed : (t : Table) → sound_of t ≡ true → Sound t
unfolding sound_of
passed t h =
    let count = both (count_ok t) _ h in
    let paths = both (paths_distinct t) _ count.1 in
    let unused = both (unused_zero t) _ paths.1 in
    let records = both (records_ok t) _ unused.1 in
    let units = both (units_ok t) _ records.1 in
    let eight = eight_at_most t count.0 in
    sound_by t
    (record {
      some_path = some_path t count.0;
      eight_at_most = eight;
      distinct = distinct t eight paths.0;
      dead_zero = dead_zero t records.0;
      unused_is_zero = unused_is_zero t unused.0;
      order = live_in_order t records.0;
      apart = alone t (not-true (clashes t) units.1);
      owner = owner_ok t units.0;
    })

passes : (t : Table) → Sound t → sound_of t ≡ true
unfolding sound_of
passes t s =
    let p = parts t s in rw (count_ok_law t p, paths_distinct_law t p, unused_ok t p, records_ok_law t p, units_ok_law t p, no_clash t p)

pub check_is_exact : CheckIsExact
check_is_exact t = (passed t, passes t)
