-- What each change does to the task that is live at a place, what it leaves as it was, and what a selection finds, by
-- places. Assumes nothing.
use Prim.Native.Nat.{ℕ, suc, ◌<◌}
use mathlib.Core.Path.{◌≡◌, refl, sym, ap, ap₂, subst, ◌∙◌}
use mathlib.Core.Bool.{Bool, true, false, cond, not, ◌&&◌}
use mathlib.Core.List.{List, [], ◌∷◌, map}
use mathlib.Core.Option.{Option, none, some, none-ne-some}
use mathlib.Core.Logic.{inl, inr}
use lib.Dec.{ltb}
use lib.ListN.{length, get_or, set, length-map, length-set, get_or-map}
use lib.Seq.{get_or-set_same, get_or-set_other, map-set_same}
use borrow.Author.Tests.{lt-ltb}
use Rattle.std.specs.Prelude.{Some, is_some}
use Rattle.task.specs.Index.{map_at}
use Rattle.task.specs.Tasks.{no_task, is_running, has_confirm, awaits}
use Rattle.task.specs.Map.{is_live, lowest_free}
use Rattle.task.specs.Selections.{picks, picks_live, running_as}
use Rattle.task.specs.Next.{Stands}
use Rattle.wire.specs.declared.codes.Kind.{Kind}
use Rattle.task.specs.declared.Sequel.{Sequel}
use Rattle.task.specs.declared.Task.{Task}
use Rattle.task.specs.declared.select.Selection.{Selection}
use Rattle.task.specs.declared.scan.Pick.{Pick}
use Rattle.wire.proofs.Table.{cond_ind}
use Rattle.task.proofs.Ways.{either_way, never, both}
use Rattle.task.proofs.Places.{some_at, some_find}
use Rattle.task.proofs.Bits.{dead_zero, live_map_of}
use Rattle.task.proofs.Maps.{with_same, with_other, lowest_free_law}
use Rattle.task.proofs.Lists.{get_d_map_at}
use Rattle.task.proofs.Next.{scan_stands, found_is_some}
use Rattle.table.specs.Tables.{no_path, zero_table, task_at, bit_of, is_reset, picks_at, any_live, pick_of, has_room, with_tasks, with_paths, with_units, put_at, new_task, accepted, ended_by, altered_at, marked_in, attention_gone_in, reset_attention_in, cleared_attention_in, claimed_by, finished, reset_of}
use Rattle.table.specs.Setup.{bad_list, fresh_table, setup_table}
use Rattle.table.specs.View.{Shaped, at}
use Rattle.table.specs.Promises.{AnyIsFound}
use Rattle.table.specs.declared.Path as path
use Rattle.table.specs.declared.Unit as unit
use Rattle.table.specs.declared.Table.{Table}

-- ---- a place by its bit and its record

-- a place has no task, or one
pub not_both : {x : Option Task} {a : Task} → x ≡ none → x ≡ some a → ⊥
not_both {a = a} e f = none-ne-some a (sym e ∙ f)

module _ (t : Table) (i : ℕ) where
  pub at_live : is_live t.live i ≡ true → at t i ≡ some (task_at t i)
  unfolding at
  at_live e = rw e

  pub at_dead : is_live t.live i ≡ false → at t i ≡ none
  unfolding at
  at_dead e = rw e

  pub live_at : {a : Task} → at t i ≡ some a → (is_live t.live i ≡ true) × (task_at t i ≡ a)
  live_at {a} e = elim (either_way (is_live t.live i)) [
    | inl l ↦ let f = at_live l in (l, cc)
    | inr d ↦ absurd (not_both (at_dead d) e)
  ]

  pub at_empty : t.live ≡ 0 → at t i ≡ none
  at_empty e = at_dead (rw e (dead_zero i))

-- ---- what a change of the tasks does to the view

-- a task is put into a place
module _ (t : Table) (k : ℕ) (a : Task) where
  pub at_put : Shaped t → k < 64 → at (put_at t k a) k ≡ some a
  at_put h l =
      at_live (put_at t k a) k (with_same t.live k l) ∙ ap some (get_or-set_same t.tasks k a no_task (rw h.tasks l))

  pub at_put_other : (i : ℕ) → (i ≡ k → ⊥) → at (put_at t k a) i ≡ at t i
  unfolding at
  at_put_other i n = rw (with_other t.live k i n, get_or-set_other t.tasks k i a no_task n)

-- accept puts its task into a free place where there is room
module _ (t : Table) (path tag unit : ℕ) (kind : Kind) (sequel : Sequel) where
  pub accepted_put : has_room t ≡ true → accepted t path tag unit kind sequel ≡ put_at t (lowest_free t.live) (new_task t path tag unit kind sequel)
  unfolding accepted
  accepted_put e = rw e

pub at_free : (t : Table) → lowest_free t.live < 64 → at t (lowest_free t.live) ≡ none
at_free t l = at_dead t (lowest_free t.live) (lowest_free_law t.live l)

-- what an ending leaves of a place
abbrev pub spared : Selection → Option Task → Option Task
spared s none = none
spared s (some a) = cond (picks s a) none (some a)

module _ (t : Table) (s : Selection) (i : ℕ) where
  ended_live : i < 64 → is_live (ended_by t s).live i ≡ (is_live t.live i && not (picks s (task_at t i)))
  unfolding ended_by
  ended_live l = live_map_of 64 i (λ i. is_live t.live i && not (picks s (task_at t i))) l

  pub ended_task : Shaped t → i < 64 → task_at (ended_by t s) i ≡ cond (picks_live t.live s i (task_at t i)) no_task (task_at t i)
  unfolding ended_by
  ended_task h l = get_d_map_at (λ i a. cond (picks_live t.live s i a) no_task a) i t.tasks no_task (rw h.tasks l)

  pub at_ended : Shaped t → i < 64 → at (ended_by t s) i ≡ spared s (at t i)
  unfolding at
  at_ended h l = rw (ended_live l, ended_task h l) (cases (is_live t.live i) (picks s (task_at t i)) (task_at t i) refl)
    where
      cases : (b c : Bool) (a : Task) → picks s a ≡ c → cond (b && not c) (some (cond (b && c) no_task a)) none ≡ spared s (cond b (some a) none)
      cases true true a e = rw e
      cases true false a e = rw e
      cases false c a e = refl

-- a live record changes, and no other
module _ (t : Table) (k : ℕ) (b : Task) where
  pub altered_live : {a : Task} → k < 64 → at t k ≡ some a → altered_at t k b ≡ with_tasks t t.live (set t.tasks k b)
  unfolding altered_at
  altered_live l e = rw (lt-ltb k 64 l, (live_at t k e).0)

  pub altered_at_law : {a : Task} → Shaped t → k < 64 → at t k ≡ some a → at (altered_at t k b) k ≡ some b
  unfolding at
  altered_at_law h l e = rw (altered_live l e, (live_at t k e).0, get_or-set_same t.tasks k b no_task (rw h.tasks l))

  pub altered_other : (i : ℕ) → (i ≡ k → ⊥) → at (altered_at t k b) i ≡ at t i
  unfolding altered_at at
  altered_other i n =
      cond_ind (λ (u : Table). at u i ≡ at t i) (ltb k 64 && is_live t.live k) (λ _. rw (get_or-set_other t.tasks k i b no_task n)) (λ _. refl)

-- 64 is no record
pub altered_none : (t : Table) (b : Task) → altered_at t 64 b ≡ t
unfolding altered_at
altered_none t b = refl

pub finished_none : (t : Table) (failed : Bool) (transferred : ℕ) → finished t 64 failed transferred ≡ t
unfolding finished
finished_none t failed transferred = refl

-- ---- setup and total reset leave no task

pub at_reset : (t : Table) (i : ℕ) → at (reset_of t) i ≡ none
unfolding reset_of
at_reset t i = at_empty (reset_of t) i refl

pub at_fresh : (ids : List ℕ) (attached next i : ℕ) → at (fresh_table ids attached next) i ≡ none
unfolding fresh_table
at_fresh ids attached next i = at_empty (fresh_table ids attached next) i refl

pub at_setup : (ids : List ℕ) (attached next i : ℕ) → at (setup_table ids attached next) i ≡ none
unfolding setup_table zero_table
at_setup ids attached next i =
    cond_ind (λ (u : Table). at u i ≡ none) (bad_list ids) (λ _. at_empty zero_table i refl) (λ _. at_fresh ids attached next i)

-- ---- what a change leaves

abbrev pub ids_of : List path.Path → List ℕ
ids_of l = map (λ (a : path.Path). a.id) l

pub ids_at : (l m : List path.Path) (p : ℕ) → ids_of m ≡ ids_of l → (get_or m p no_path).id ≡ (get_or l p no_path).id
ids_at l m p e = sym (get_or-map _ m p no_path) ∙ ap (λ (x : List ℕ). get_or x p 0) e ∙ get_or-map _ l p no_path

pub ids_length : (l m : List path.Path) → ids_of m ≡ ids_of l → length m ≡ length l
ids_length l m e = sym (length-map m _) ∙ ap length e ∙ length-map l _

-- a change of paths leaves their ids
map_ids : (f : ℕ → path.Path → path.Path) → ((p : ℕ) (a : path.Path) → (f p a).id ≡ a.id) → (i : ℕ) (l : List path.Path) → ids_of (map_at f i l) ≡ ids_of l
unfolding map_at
map_ids f h i [] = refl
map_ids f h i (a ∷ l) = ap₂ ◌∷◌ (h i a) (map_ids f h (suc i) l)

module _ (l : List path.Path) where
  set_ids : (p : ℕ) (a : path.Path) → a.id ≡ (get_or l p no_path).id → ids_of (cond (ltb p 8) (set l p a) l) ≡ ids_of l
  set_ids p a e = cond_ind (λ (m : List path.Path). ids_of m ≡ ids_of l) (ltb p 8) (λ _. map-set_same _ l p a no_path e) (λ _. refl)

  pub ids_marked : (p : ℕ) (full : Bool) → ids_of (marked_in l p full) ≡ ids_of l
  unfolding marked_in
  ids_marked p full = set_ids p _ refl

  pub ids_attention_gone : (p : ℕ) → ids_of (attention_gone_in l p) ≡ ids_of l
  unfolding attention_gone_in
  ids_attention_gone p = set_ids p _ refl

  pub ids_reset_attention : (count : ℕ) (unmark : Bool) → ids_of (reset_attention_in l count unmark) ≡ ids_of l
  unfolding reset_attention_in
  ids_reset_attention count unmark = map_ids _ (λ p a. cond_ind (λ (x : path.Path). x.id ≡ a.id) (ltb p count) (λ _. refl) (λ _. refl)) 0 l

  pub ids_cleared_attention : (others : ℕ) → ids_of (cleared_attention_in l others) ≡ ids_of l
  unfolding cleared_attention_in
  ids_cleared_attention others =
      map_ids _
      (λ p a.
      cond_ind (λ (x : path.Path). x.id ≡ a.id) (bit_of others p)
      (λ _. cond_ind (λ (x : path.Path). x.id ≡ a.id) (is_reset a.attention) (λ _. refl) (λ _. refl)) (λ _. refl)) 0 l

pub reset_ids : (t : Table) → ids_of (reset_of t).paths ≡ ids_of t.paths
unfolding reset_of
reset_ids t = ids_reset_attention t.paths t.count true

-- paths and units are not asked for the tasks
module _ (t : Table) (paths : List path.Path) (units : List unit.Unit) where
  pub same_at : (i : ℕ) → at (with_paths (with_units t units) paths) i ≡ at t i
  unfolding at
  same_at i = refl

  pub same_any : (s : Selection) → any_live (with_paths (with_units t units) paths) s ≡ any_live t s
  unfolding any_live
  same_any s = refl

abbrev pub with_next : Table → ℕ → ℕ → List Task → Table
with_next t live next l = record { live = live; next = next; count = t.count; attached = t.attached; paths = t.paths; units = t.units; tasks = l }

-- u is t but for its tasks and the next arrival number
pub record OnlyTasks (t u : Table) : Type 0 where
  pub rest : with_next u t.live t.next t.tasks ≡ t

module _ (t : Table) where
  tasks_if : (b : Bool) (live next : ℕ) (l : List Task) → OnlyTasks t (cond b (with_next t live next l) t)
  tasks_if true live next l = record { rest = refl }
  tasks_if false live next l = record { rest = refl }

  pub accepted_only : (path tag unit : ℕ) (kind : Kind) (sequel : Sequel) → OnlyTasks t (accepted t path tag unit kind sequel)
  unfolding accepted
  accepted_only path tag unit kind sequel = tasks_if (has_room t) _ _ _

  pub ended_only : (s : Selection) → OnlyTasks t (ended_by t s)
  unfolding ended_by
  ended_only s = tasks_if true _ _ _

  pub ended_next : (s : Selection) → (ended_by t s).next ≡ t.next
  unfolding ended_by
  ended_next s = refl

  pub altered_only : (k : ℕ) (b : Task) → OnlyTasks t (altered_at t k b)
  unfolding altered_at
  altered_only k b = tasks_if (ltb k 64 && is_live t.live k) _ _ _

  pub altered_next : (k : ℕ) (b : Task) → (altered_at t k b).next ≡ t.next
  unfolding altered_at
  altered_next k b = cond_ind (λ (u : Table). u.next ≡ t.next) (ltb k 64 && is_live t.live k) (λ _. refl) (λ _. refl)

  pub altered_shaped : (k : ℕ) (b : Task) → Shaped t → Shaped (altered_at t k b)
  unfolding altered_at
  altered_shaped k b h =
      cond_ind Shaped (ltb k 64 && is_live t.live k)
      (λ _. record { map = h.map; next = h.next; paths = h.paths; units = h.units; tasks = length-set t.tasks k b ∙ h.tasks }) (λ _. h)

-- ---- an ending, or a record that changes, and a change of paths or units, in either order

pub ended_paths : (t : Table) (s : Selection) (l : List path.Path) → ended_by (with_paths t l) s ≡ with_paths (ended_by t s) l
unfolding ended_by
ended_paths t s l = refl

pub ended_units : (t : Table) (s : Selection) (l : List unit.Unit) → ended_by (with_units t l) s ≡ with_units (ended_by t s) l
unfolding ended_by
ended_units t s l = refl

-- a choice of tables through a change
through : (f : Table → Table) (c : Bool) (x y : Table) → cond c (f x) (f y) ≡ f (cond c x y)
through f true x y = refl
through f false x y = refl

pub altered_paths : (t : Table) (k : ℕ) (b : Task) (l : List path.Path) → altered_at (with_paths t l) k b ≡ with_paths (altered_at t k b) l
unfolding altered_at
altered_paths t k b l = through (λ u. with_paths u l) (ltb k 64 && is_live t.live k) (with_tasks t t.live (set t.tasks k b)) t

pub altered_units : (t : Table) (k : ℕ) (b : Task) (l : List unit.Unit) → altered_at (with_units t l) k b ≡ with_units (altered_at t k b) l
unfolding altered_at
altered_units t k b l = through (λ u. with_units u l) (ltb k 64 && is_live t.live k) (with_tasks t t.live (set t.tasks k b)) t

-- a finish has a task with CONFIRM wait to be confirmed, ends any other, and changes units alone beside that
abbrev pub awaited_at : Table → ℕ → Task → Bool → ℕ → Table
awaited_at t i a failed transferred = with_units (altered_at t i (awaits transferred a)) (claimed_by t a failed).units

abbrev pub ended_as : Table → Task → Bool → Table
ended_as t a failed = with_units (ended_by t (running_as a.arrival)) (claimed_by t a failed).units

module _ (t : Table) (i : ℕ) {a : Task} (failed : Bool) (transferred : ℕ) (l : i < 64) (e : at t i ≡ some a) (r : is_running a.phase ≡ true) where
  pub finished_ways : (P : Table → Type 0) → (has_confirm a.sequel ≡ true → P (awaited_at t i a failed transferred))
      → (has_confirm a.sequel ≡ false → P (ended_as t a failed)) → P (finished t i failed transferred)
  unfolding finished
  finished_ways P f g =
      let v = live_at t i e in
      rw (lt-ltb i 64 l, v.0, v.1, r)
      (cond_ind P (has_confirm a.sequel) (λ c. rw (altered_units t i (awaits transferred a) (claimed_by t a failed).units) (f c))
      (λ c. rw (ended_units t (running_as a.arrival) (claimed_by t a failed).units) (g c)))

  pub finished_awaits : has_confirm a.sequel ≡ true → finished t i failed transferred ≡ awaited_at t i a failed transferred
  finished_awaits c = finished_ways (λ (u : Table). u ≡ awaited_at t i a failed transferred) (λ _. refl) (λ d. absurd (never c d))

  pub finished_ends : has_confirm a.sequel ≡ false → finished t i failed transferred ≡ ended_as t a failed
  finished_ends c = finished_ways (λ (u : Table). u ≡ ended_as t a failed) (λ d. absurd (never d c)) (λ _. refl)

-- ---- some live task is picked, by places

-- a live task that is picked
pub record Found (t : Table) (s : Selection) (i : ℕ) (a : Task) : Type 0 where
  pub below : i < 64
  pub here : at t i ≡ some a
  pub picked : picks s a ≡ true

module _ (t : Table) (s : Selection) where
  pub found_at : (i : ℕ) → i < 64 → picks_at t s i ≡ true → Found t s i (task_at t i)
  found_at i l e = let b = both (is_live t.live i) _ e in record { below = l; here = at_live t i b.0; picked = b.1 }

  pub some_any : any_live t s ≡ true → (i : ℕ) × (a : Task) × Found t s i a
  unfolding any_live
  some_any e = let r = some_find 64 (picks_at t s) e in (r.0, task_at t r.0, found_at r.0 r.1 r.2)

  pub any_some : {i : ℕ} {a : Task} → i < 64 → at t i ≡ some a → picks s a ≡ true → any_live t s ≡ true
  unfolding any_live
  any_some {i} l e p = let b = live_at t i e in some_at 64 i (picks_at t s) l (rw (b.0, b.1) p)

  pub any_none : ((i : ℕ) (a : Task) → Found t s i a → ⊥) → any_live t s ≡ false
  any_none h = elim (either_way (any_live t s)) [ inl e ↦ let r = some_any e in absurd (h r.0 r.1 r.2) | inr e ↦ e ]

  pub none_any : any_live t s ≡ false → {i : ℕ} {a : Task} → i < 64 → at t i ≡ some a → picks s a ≡ true → ⊥
  none_any n l e p = never (any_some l e p) n

  pub any_empty : t.live ≡ 0 → any_live t s ≡ false
  any_empty e = any_none (λ i a f. not_both (at_empty t i e) f.here)

  pub pick_stands : Shaped t → {p : Pick} → pick_of t s ≡ Some p → Stands t.live s t.tasks 64 p
  unfolding pick_of
  pick_stands h {p} e = subst (λ (n : ℕ). Stands t.live s t.tasks n p) h.tasks (scan_stands t.live s t.tasks p e)

  pub pick_at : Shaped t → {p : Pick} → pick_of t s ≡ Some p → Found t s p.at p.task
  pick_at h {p} e = let r = pick_stands h e in rw r.task (found_at p.at r.below r.takes)

  pub any_found : length t.tasks ≡ 64 → is_some (pick_of t s) ≡ any_live t s
  unfolding pick_of any_live
  any_found e = rw (← e) (found_is_some t.live s t.tasks)

pub any_is_found : AnyIsFound
any_is_found t s h = any_found t s h.tasks

-- ---- what is live after an ending: what was, and is not picked

spared_some : (s : Selection) (x : Option Task) {a : Task} → spared s x ≡ some a → (x ≡ some a) × (picks s a ≡ false)
spared_some s none e = absurd (not_both refl e)
spared_some s (some b) {a} e = cases (picks s b) refl e
  where
    cases : (c : Bool) → picks s b ≡ c → cond c none (some b) ≡ some a → (some b ≡ some a) × (picks s a ≡ false)
    cases true q e = absurd (not_both refl e)
    cases false q e = let r : b ≡ a = cc in (e, rw r at q)

module _ (t : Table) (s : Selection) (h : Shaped t) where
  pub ended_from : {i : ℕ} {a : Task} → i < 64 → at (ended_by t s) i ≡ some a → (at t i ≡ some a) × (picks s a ≡ false)
  ended_from {i} l e = spared_some s (at t i) (sym (at_ended t s i h l) ∙ e)

  pub ended_to : {i : ℕ} {a : Task} → i < 64 → at t i ≡ some a → picks s a ≡ false → at (ended_by t s) i ≡ some a
  ended_to {i} l e f = at_ended t s i h l ∙ rw (e, f)

  -- what r picks is all gone where s picked it; so is what s picks
  pub none_left : (r : Selection) → ((i : ℕ) (a : Task) → Found t r i a → picks s a ≡ true) → any_live (ended_by t s) r ≡ false
  none_left r w =
      any_none (ended_by t s) r
      (λ i a f.
      let e = ended_from f.below f.here in
      never (w i a (record { below = f.below; here = e.0; picked = f.picked })) e.1)
