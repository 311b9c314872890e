-- When a table is sound: page 01's clauses as a record with a named field for each, and as the test that the check
-- makes.
use Rattle.std.specs.Prelude.{ℕ, ◌<◌, ◌≤◌, ◌≡◌, Bool, true, cond, not, ◌||◌, ◌&&◌, eqb, ltb, leb, Option, Some, None}
use Rattle.std.proofs.Math.Option.{none, some}
use Rattle.task.specs.Index.{all_below, some_below}
use Rattle.task.specs.Tasks.{no_task, is_aca, is_waiting, is_running, is_end}
use Rattle.task.specs.Map.{is_live}
use Rattle.task.specs.declared.Task.{Task}
use Rattle.table.specs.Tables.{no_path, path_at, unit_at, task_at, bit_of, is_attached, is_nothing, owned_by, aca_at, path_of}
use Rattle.table.specs.View.{at}
use Rattle.table.specs.declared.Path as path
use Rattle.table.specs.declared.Unit as unit
use Rattle.table.specs.declared.Table.{Table}

-- ---- sound means

pub record Sound (t : Table) : Type 0 where
  -- 1 to 8 distinct paths
  pub some_path : 1 ≤ t.count
  pub eight_at_most : t.count ≤ 8
  pub distinct : (p q : ℕ) → p < t.count → q < t.count → (path_at t p).id ≡ (path_at t q).id → p ≡ q
  -- dead records and unused paths all zero
  pub dead_zero : (i : ℕ) → i < 64 → at t i ≡ none → task_at t i ≡ no_task
  pub unused_is_zero : (p : ℕ) → t.count ≤ p → p < 8 → path_at t p ≡ no_path
  -- live records name listed paths and attached units
  pub listed : (i : ℕ) (a : Task) → i < 64 → at t i ≡ some a → a.path < t.count
  pub attached : (i : ℕ) (a : Task) → i < 64 → at t i ≡ some a → is_attached t a.unit ≡ true
  -- no two share path and tag, or an arrival number
  pub one_tag : (i j : ℕ) (a b : Task) → i < 64 → j < 64 → at t i ≡ some a → at t j ≡ some b → a.path ≡ b.path → a.tag ≡ b.tag → i ≡ j
  pub one_arrival : (i j : ℕ) (a b : Task) → i < 64 → j < 64 → at t i ≡ some a → at t j ≡ some b → a.arrival ≡ b.arrival → i ≡ j
  -- all arrival numbers lie below the next
  pub below_next : (i : ℕ) (a : Task) → i < 64 → at t i ≡ some a → a.arrival < t.next
  -- one running task per unit at most
  pub one_running : (i j : ℕ) (a b : Task) → i < 64 → j < 64 → at t i ≡ some a → at t j ≡ some b
      → is_running a.phase ≡ true → is_running b.phase ≡ true → a.unit ≡ b.unit → i ≡ j
  -- ACA only on attached units, with a listed owner
  pub aca_attached : (u p : ℕ) → u < 8 → (unit_at t u).aca ≡ Some p → is_attached t u ≡ true
  pub aca_listed : (u p : ℕ) → u < 8 → (unit_at t u).aca ≡ Some p → p < t.count
  -- an ACA task only on a unit with ACA, only from its owner, one at most
  pub aca_owned : (i : ℕ) (a : Task) → i < 64 → at t i ≡ some a → is_aca a.kind ≡ true → (unit_at t a.unit).aca ≡ Some a.path
  pub one_aca : (i j : ℕ) (a b : Task) → i < 64 → j < 64 → at t i ≡ some a → at t j ≡ some b
      → is_aca a.kind ≡ true → is_aca b.kind ≡ true → a.unit ≡ b.unit → i ≡ j

-- ---- the same as a test

abbrev pub is_no_path : path.Path → Bool
is_no_path a = eqb a.id 0 && (not a.full && is_nothing a.attention)

abbrev pub is_no_task : Task → Bool
is_no_task a =
    eqb a.arrival 0 && (eqb a.position 0 && (eqb a.tag 0
    && (eqb a.path 0 && (eqb a.unit 0 && (is_aca a.kind && (is_waiting a.phase && is_end a.sequel))))))

-- an ACA task only under an ACA of its path
abbrev pub may_stand : Option ℕ → Task → Bool
may_stand aca a = cond (is_aca a.kind) (owned_by aca a.path) true

abbrev pub live_ok : ℕ → ℕ → ℕ → Option ℕ → Task → Bool
live_ok next count attached aca a = ltb a.path count && (bit_of attached a.unit && (ltb a.arrival next && may_stand aca a))

abbrev pub record_ok : ℕ → ℕ → ℕ → ℕ → Option ℕ → ℕ → Task → Bool
record_ok live next count attached aca i a = cond (is_live live i) (live_ok next count attached aca a) (is_no_task a)

abbrev pub unit_ok : ℕ → ℕ → ℕ → unit.Unit → Bool
unit_ok count attached u a = by_owner a.aca
  where
    by_owner : Option ℕ → Bool
    by_owner None = true
    by_owner (Some p) = ltb p count && bit_of attached u

unfoldable pub count_ok : Table → Bool
count_ok t = not (eqb t.count 0) && leb t.count 8

-- every listed path is the first with its id
unfoldable pub paths_distinct : Table → Bool
paths_distinct t = all_below 8 (λ p. not (ltb p t.count) || eqb (path_of t (path_at t p).id) p)

unfoldable pub unused_zero : Table → Bool
unused_zero t = all_below 8 (λ p. ltb p t.count || is_no_path (path_at t p))

unfoldable pub records_ok : Table → Bool
records_ok t = all_below 64 (λ i. record_ok t.live t.next t.count t.attached (aca_at t.units (task_at t i).unit) i (task_at t i))

unfoldable pub units_ok : Table → Bool
units_ok t = all_below 8 (λ u. unit_ok t.count t.attached u (unit_at t u))

-- two tasks that can't stand on one unit: both run, or both are ACA tasks
abbrev pub cannot_share_unit : Task → Task → Bool
cannot_share_unit a b = (is_running a.phase && is_running b.phase) || (is_aca a.kind && is_aca b.kind)

-- two tasks that can't both be live
abbrev pub alike : Task → Task → Bool
alike a b =
    eqb a.arrival b.arrival || ((eqb a.path b.path && eqb a.tag b.tag) || (cannot_share_unit a b && eqb a.unit b.unit))

abbrev pub clash_of : ℕ → ℕ → Task → ℕ → Task → Bool
clash_of live i a j b = alike a b && (is_live live i && is_live live j)

-- some record clashes with one below it
unfoldable pub clashes : Table → Bool
clashes t = some_below 64 (λ i. some_below i (λ j. clash_of t.live i (task_at t i) j (task_at t j)))

unfoldable pub sound_of : Table → Bool
sound_of t = count_ok t && (paths_distinct t && (unused_zero t && (records_ok t && (units_ok t && not (clashes t)))))
