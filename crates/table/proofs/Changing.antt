-- The loops over the paths and over the records, and a unit's ACA. Assumes nothing.
--     path_through, path_kept      the turns of the loops over the paths
--     end_loop      for `search (rules, ..)`, the turns of the loop over the records;        owner_ways      of `claim`
use Rattle.std.specs.Prelude.{Option, Some, None}
use Prim.Native.Nat.{ℕ, ◌+◌, ◌^◌, ◌≤◌, ◌<◌}
use mathlib.Core.Path.{◌≡◌, refl, sym, ap, ap₂, ◌∙◌}
use mathlib.Core.Bool.{Bool, true, false, cond, not, ◌&&◌}
use mathlib.Core.List.{List}
use native.Mathlib.Nat.{le_refl, le_antisymm}
use native.Mathlib.Omega.{arith}
use lib.ListN.{length, get_or, set, length-set}
use Rattle.task.specs.Index.{map_at}
use Rattle.task.specs.Tasks.{no_task}
use Rattle.task.specs.Map.{is_live, without_bit}
use Rattle.task.specs.Selections.{picks, picks_live}
use Rattle.task.specs.declared.Task.{Task}
use Rattle.task.specs.declared.select.Selection.{Selection}
use Rattle.task.proofs.Ways.{never}
use Rattle.std.specs.Prelude.{Option, Some, None}
use Rattle.task.proofs.Places.{map_of_ext}
use Rattle.task.proofs.Lists.{map_below, map_below_ahead, map_below_zero, map_below_step, map_below_put, map_below_skip, map_below_all, length_map_below}
use Rattle.task.proofs.Clearing.{clear_below, clear_zero, clear_step, clear_skip, clear_ahead, clear_all}
use Rattle.table.specs.Tables.{no_path, task_at, has_aca, picks_at, with_tasks, ended_by, claimed_unit}
use Rattle.table.specs.declared.Path as path
use Rattle.table.specs.declared.Table.{Table}
use Rattle.table.proofs.Lists.{unmapped, past_end}

-- ---- a loop over the paths: those that q picks go through g

module _ (l : List path.Path) (q : ℕ → Bool) (g : path.Path → path.Path) where
  abbrev through : ℕ → path.Path → path.Path
  through p a = cond (q p) (g a) a

  unfoldable pub paths_below : ℕ → List path.Path
  paths_below k = map_below k through l

  pub paths_start : l ≡ paths_below 0
  unfolding paths_below
  paths_start = sym (map_below_zero through l no_path)

  module _ {m : List path.Path} (k : ℕ) (e : m ≡ paths_below k) (n : length m ≡ 8) where
    -- the list stays as long
    as_long : length m ≡ length l
    unfolding paths_below
    as_long = ap length e ∙ length_map_below k through l

    -- a turn's list, which has x at k, is that of k + 1
    next : {v : List path.Path} {x : path.Path} → v ≡ set m k x → x ≡ through k (get_or m k no_path) → k < 8 → (v ≡ paths_below (k + 1)) × (length v ≡ 8)
    unfolding paths_below
    next {v} {x} d c h =
        let p : v ≡ paths_below (k + 1) = d ∙ rw e (map_below_put through l no_path k (omega (arith, as_long)) (c ∙ rw e)) in
        (p, ap length d ∙ length-set m k x ∙ n)

    pub path_through : {v : List path.Path} {a : path.Path} → v ≡ set m k a → a ≡ g (get_or m k no_path) → q k ≡ true → k < 8
        → (v ≡ paths_below (k + 1)) × (length v ≡ 8)
    path_through d c b h = next d (c ∙ rw b) h

    pub path_kept : {v : List path.Path} → v ≡ set m k (get_or m k no_path) → q k ≡ false → k < 8 → (v ≡ paths_below (k + 1)) × (length v ≡ 8)
    path_kept d b h = next d (rw b) h

    pub paths_end : k ≤ 8 → 8 ≤ k → m ≡ map_at through 0 l
    unfolding paths_below
    paths_end h j = e ∙ map_below_all through l no_path k (omega (arith, as_long))

-- ---- a unit's ACA

pub owner_stays : (path : ℕ) (o : Option ℕ) → has_aca o ≡ true → claimed_unit path (record { aca = o }) ≡ record { aca = o }
owner_stays path None h = absurd (never h refl)
owner_stays path (Some p) h = refl

pub owner_comes : (path : ℕ) (o : Option ℕ) → has_aca o ≡ false → claimed_unit path (record { aca = o }) ≡ record { aca = Some path }
owner_comes path None h = refl
owner_comes path (Some p) h = absurd (never refl h)

pub ruleset owner_ways = (owner_stays, owner_comes)

-- ---- the pass that ends what is picked

live_not_both : (b c : Bool) → (b && not (b && c)) ≡ (b && not c)
live_not_both true c = refl
live_not_both false c = refl

module _ (t : Table) (s : Selection) where
  abbrev wipe : ℕ → Task → Task
  wipe i a = cond (picks_live t.live s i a) no_task a

  unfoldable pub ended_below : ℕ → Table
  ended_below k = with_tasks t (clear_below (picks_at t s) t.live k) (map_below k wipe t.tasks)

  pub end_start : t ≡ ended_below 0
  unfolding ended_below
  end_start = ap₂ (with_tasks t) (sym (clear_zero (picks_at t s) t.live)) (sym (map_below_zero wipe t.tasks no_task))

  module _ {u : Table} (k : ℕ) (e : u ≡ ended_below k) where
    -- the pass asks of the table so far what the table at its start answers
    end_here : k < 64 → picks_at u s k ≡ picks_at t s k
    unfolding ended_below
    end_here h =
        rw e
        (ap₂ (λ (b : Bool) (a : Task). b && picks s a) (clear_ahead (picks_at t s) t.live k k (le_refl k) h)
        (map_below_ahead wipe t.tasks no_task k k (le_refl k)))

    module _ {b : Bool} (h : k < 64) (p : b ≡ picks_at u s k) where
      pub end_wiped : {v : Table} {a : Task} {m : ℕ} → b ≡ true → v ≡ with_tasks u m (set u.tasks k a) → a ≡ no_task → m ≡ without_bit u.live k → length t.tasks ≡ 64
          → v ≡ ended_below (k + 1)
      unfolding ended_below
      end_wiped y f c d n =
          let z : picks_at t s k ≡ true = sym (end_here h) ∙ sym p ∙ y in
          let w : no_task ≡ wipe k (task_at t k) = rw z in
          f ∙ rw (e, c, d, e)
          (ap₂ (with_tasks t) (clear_step (picks_at t s) t.live k z)
          (ap (set (map_below k wipe t.tasks) k) w ∙ map_below_step wipe t.tasks no_task k (omega arith)))

      pub end_kept : {v : Table} → b ≡ false → v ≡ u → v ≡ ended_below (k + 1)
      unfolding ended_below
      end_kept n d =
          let z : picks_at t s k ≡ false = sym (end_here h) ∙ sym p ∙ n in
          d ∙ e ∙ ap₂ (with_tasks t) (clear_skip (picks_at t s) t.live k z) (map_below_skip wipe t.tasks no_task k (rw z))

    pub end_all : k ≤ 64 → 64 ≤ k → length t.tasks ≡ 64 → t.live < 2 ^ 64 → u ≡ ended_by t s
    unfolding ended_below ended_by
    end_all h l n m =
        rw (e, le_antisymm h l)
        (ap₂ (with_tasks t)
        (clear_all (picks_at t s) t.live m ∙ map_of_ext 64 _ _ (λ i _. live_not_both (is_live t.live i) (picks s (task_at t i))))
        (map_below_all wipe t.tasks no_task 64 n))

pub ruleset end_loop = (end_start, end_wiped, end_kept, end_all, unmapped)
