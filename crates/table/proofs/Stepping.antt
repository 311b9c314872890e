-- What a finish makes of the records, who has a task and where one runs. Assumes nothing.
--     finish_is_step, finish_of_none, finishes      a finish is a change of the units and a step: of a record, of none, and as `Table::finish` makes it
--     held_loop      for `search`, the loop that gathers who has a task
--     running_all      the end of the loop that gathers where one runs;        other_as, others_all      the paths that have one on a unit
use Prim.Native.Nat.{ℕ, ◌+◌, ◌%◌, ◌≤◌, ◌<◌}
use mathlib.Core.Path.{◌≡◌, refl, sym, ap, ap₂, ◌∙◌}
use mathlib.Core.Bool.{Bool, true, false, cond, not, ◌&&◌, or-false, and-true, and-false}
use mathlib.Core.List.{List}
use mathlib.Core.Logic.{◌⊎◌, inl, inr}
use native.Mathlib.Nat.{le_antisymm}
use native.Mathlib.Numerals.{add-one}
use native.Mathlib.Omega.{arith}
use lib.Dec.{eqb, ltb, lit<}
use lib.ListN.{length}
use Rattle.std.specs.Prelude.{Option, Some, None, is_some}
use Rattle.std.specs.Option.{unwrap_or, is_some}
use Rattle.task.specs.Index.{some_below, map_of}
use Rattle.task.specs.Map.{is_live, with_bit}
use Rattle.task.specs.Tasks.{has_confirm}
use Rattle.task.specs.Selections.{picks, on_unit, from_on}
use Rattle.task.specs.declared.Task.{Task}
use Rattle.task.specs.declared.select.Selection.{Selection}
use Rattle.task.proofs.Ways.{either_way, answered_true, answered_false}
use borrow.Author.Tests.{eq-eqb, eqb-true}
use Rattle.task.proofs.Places.{map_of_ext, some_ext, some_none, some_at, none_at}
use Rattle.task.proofs.Bits.{dead_zero, is_map_of, live_map_of}
use Rattle.task.proofs.Gathering.{keyed, gathered, gather_more, gather_same, low_byte}
use Rattle.table.specs.Tables.{task_at, picks_at, any_live, pick_of, is_other_on, others_on, with_units, runs_at, finished}
use Rattle.table.specs.Steps.{stepped, finish_step, finish_units, holds_one, holders_of, runs_picked, runs_one, running_among}
use Rattle.table.specs.declared.Unit as unit
use Rattle.table.specs.declared.Table.{Table}
use Rattle.table.specs.declared.steps.Step.{Step}
use Rattle.table.proofs.Views.{any_found}

-- ---- a finish of the task that stands in record i, and of a record that is none

module _ (t : Table) (failed : Bool) (transferred : ℕ) where
  pub finish_is_step : (i : ℕ) → stepped (with_units t (finish_units t.units t.live i (task_at t i) failed)) (finish_step t.live i (task_at t i) transferred) ≡ finished t i failed transferred
  unfolding stepped finish_step finish_units finished
  finish_is_step i =
      elim (either_way (runs_at t i)) [
        | inl e ↦ elim (either_way (has_confirm (task_at t i).sequel)) [ inl c ↦ rw (e, c) | inr c ↦ rw (e, c) ]
        | inr e ↦ rw e
      ]

  pub finish_of_none : (a : Task) → stepped (with_units t (finish_units t.units t.live 64 a failed)) (finish_step t.live 64 a transferred) ≡ finished t 64 failed transferred
  unfolding stepped finish_step finish_units finished
  finish_of_none a = refl

  pub finishes : (i : ℕ) {a : Task} {l : List unit.Unit} {q : Step} {v : Table} → a ≡ task_at t i → l ≡ finish_units t.units t.live i a failed → q ≡ finish_step t.live i a transferred
      → v ≡ stepped (with_units t l) q → v ≡ finished t i failed transferred
  finishes i h d e k = k ∙ rw (d, e, h) (finish_is_step i)

-- ---- who has a task that is picked

-- the path of the task in record i, and its unit
abbrev pub path_in : Table → ℕ → ℕ
path_in t i = (task_at t i).path

abbrev pub unit_in : Table → ℕ → ℕ
unit_in t i = (task_at t i).unit

-- of some places only n is n
some_alone : (k n : ℕ) (p : ℕ → Bool) → n < k → some_below k (λ i. p i && eqb i n) ≡ p n
some_alone k n p h =
    elim (either_way (p n)) [
      | inl y ↦ some_at k n (λ i. p i && eqb i n) h (rw (y, eq-eqb n n refl)) ∙ sym y
      | inr y ↦ some_none k (λ i. p i && eqb i n) (λ i l. other i y (either_way (eqb i n))) ∙ sym y
    ]
  where
    other : (i : ℕ) → p n ≡ false → (eqb i n ≡ true) ⊎ (eqb i n ≡ false) → (p i && eqb i n) ≡ false
    other i y (inl e) = let q : i ≡ n = eqb-true i n e in rw (q, y)
    other i y (inr e) = rw e (and-false (p i))

some_same : (k : ℕ) (p : ℕ → Bool) → p k ≡ false → some_below k p ≡ some_below (k + 1) p
unfolding some_below
some_same k p e = rw (add-one, e) (sym (or-false (some_below k p)))

module _ (t : Table) (s : Selection) where
  -- the map of those who have one below k
  abbrev holding : ℕ → ℕ
  holding k = gathered (picks_at t s) (path_in t) k

  -- and none where no live task below k is picked
  unfoldable pub held_below : ℕ → Option ℕ
  held_below k = cond (some_below k (picks_at t s)) (Some (holding k)) None

  pub held_start : None ≡ held_below 0
  unfolding held_below some_below
  held_start = refl

  -- where none is picked the map is empty
  none_holds : (k : ℕ) → some_below k (picks_at t s) ≡ false → 0 ≡ holding k
  unfolding gathered
  none_holds k e =
      is_map_of 64 0 (λ n. some_below k (keyed (picks_at t s) (path_in t) n)) (lit< tt)
      (λ n _. dead_zero n ∙ sym (some_none k _ (λ i l. rw (none_at k i (picks_at t s) e l))))

  held_map : (k : ℕ) → unwrap_or (held_below k) 0 ≡ holding k
  unfolding held_below
  held_map k = elim (either_way (some_below k (picks_at t s))) [ inl e ↦ rw e | inr e ↦ rw e (none_holds k e) ]

  module _ {h : Option ℕ} {b : Bool} (k : ℕ) (e : h ≡ held_below k) (f : b ≡ picks_at t s k) where
    pub held_more : {m n : ℕ} {v : Option ℕ} → b ≡ true → v ≡ Some m → m ≡ with_bit n (path_in t k) → n ≡ unwrap_or h 0 → v ≡ held_below (k + 1)
    unfolding held_below
    held_more {m} {n} y d c g =
        let w : n ≡ holding k = g ∙ rw e (held_map k) in
        d ∙ rw (some_at (k + 1) k (picks_at t s) (omega arith) (answered_true f y))
        (ap Some (gather_more (picks_at t s) (path_in t) k w f y c))

    pub held_same : {v : Option ℕ} → b ≡ false → v ≡ h → v ≡ held_below (k + 1)
    unfolding held_below
    held_same y d =
        d ∙ e ∙ ap₂ (λ (c : Bool) (m : ℕ). cond c (Some m) None) (some_same k (picks_at t s) (answered_false f y))
        (gather_same (picks_at t s) (path_in t) k refl f y refl)

  pub held_all : {h : Option ℕ} {k : ℕ} → k ≤ 64 → 64 ≤ k → h ≡ held_below k → length t.tasks ≡ 64 → h ≡ holders_of t s
  unfolding held_below gathered holders_of any_live
  held_all h l e n = rw (e, le_antisymm h l, any_found t s n)

  -- the map of the holders, which is empty where they are none
  pub holders_map : length t.tasks ≡ 64 → unwrap_or (holders_of t s) 0 ≡ map_of 64 (holds_one t s)
  unfolding holders_of gathered any_live
  holders_map n =
      elim (either_way (is_some (pick_of t s))) [ inl e ↦ rw e | inr e ↦ rw e (none_holds 64 (sym (any_found t s n) ∙ e)) ]

  pub holders_found : is_some (holders_of t s) ≡ (is_some (pick_of t s))
  unfolding holders_of
  holders_found = elim (either_way (is_some (pick_of t s))) [ inl e ↦ rw e | inr e ↦ rw e ]

  -- and where one of them runs
  pub running_all : {m k : ℕ} → k ≤ 64 → 64 ≤ k → m ≡ gathered (runs_picked t s) (unit_in t) k → m % 256 ≡ running_among t s
  unfolding gathered running_among
  running_all h l e = rw (e, le_antisymm h l) (low_byte (runs_one t s))

pub ruleset held_loop = (held_start, held_more, held_same, held_all)

-- ---- the paths that have a task on a unit

-- of the tasks on a unit those of a path
on_from : (p unit : ℕ) (a : Task) (b : Bool) → ((b && picks (on_unit unit) a) && eqb a.path p) ≡ (b && picks (from_on p unit) a)
unfolding picks
on_from p unit a true =
    elim (either_way (eqb a.path p)) [
      | inl e ↦ rw e (and-true (eqb a.unit unit && true))
      | inr e ↦ rw e (and-false (eqb a.unit unit && true))
    ]
on_from p unit a false = refl

module _ (t : Table) (unit sender : ℕ) where
  pub other_as : {s : Selection} {h : Option ℕ} {m : ℕ} {has b : Bool} (p : ℕ) → p < 8 → length t.tasks ≡ 64 → s ≡ on_unit unit → h ≡ holders_of t s → m ≡ unwrap_or h 0
      → has ≡ is_live m p → b ≡ (ltb p t.count && (not (eqb p sender) && has)) → b ≡ is_other_on t unit sender p
  unfolding any_live
  other_as p l n e h d g f =
      let k : p < 64 = omega arith in
      f ∙ rw (g, d, h, e, holders_map t (on_unit unit) n, live_map_of 64 p (holds_one t (on_unit unit)) k, some_ext 64 _ _ (λ i _. on_from p unit (task_at t i) (is_live t.live i)))

  -- and the map of them, gathered place by place
  pub others_all : {m k : ℕ} → k ≤ 8 → 8 ≤ k → m ≡ gathered (is_other_on t unit sender) (λ i. i) k → m % 256 ≡ others_on t unit sender
  unfolding gathered others_on
  others_all h l e =
      rw (e, le_antisymm h l)
      (low_byte (λ n. some_below 8 (keyed (is_other_on t unit sender) (λ i. i) n))
      ∙ map_of_ext 8 _ _ (λ n r. some_alone 8 n (is_other_on t unit sender) r))
