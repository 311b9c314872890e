-- Setup gives a good table, each change keeps a table good, and total reset gives what setup gives and is the pass
-- that ends every task. Assumes nothing.
use Rattle.std.specs.Prelude.{Option, Some, None}
use Prim.Native.Nat.{ℕ, zero, suc, ◌+◌, ◌-◌, ◌^◌, ◌≤◌, ◌<◌}
use mathlib.Core.Path.{◌≡◌, refl, sym, ap, ◌∙◌}
use mathlib.Core.Bool.{true, false, cond, not, ◌&&◌, and-false}
use mathlib.Core.List.{List, [], ◌∷◌}
use mathlib.Core.Option.{none, some}
use mathlib.Core.Logic.{◌⊎◌, inl, inr, ⊎_elim}
use native.Mathlib.Decide.{ℕ_discrete}
use native.Mathlib.Omega.{arith}
use lib.Dec.{eqb, ltb, lit<}
use lib.ListN.{length, get_or, set, replicate, length-append, length-set, length-replicate, get_or-append}
use lib.Seq.{get_or-set_same, get_or-set_other, get_or-append-add}
use borrow.Author.Tests.{lt-ltb, le-ltb, ltb-true, ltb-false, leb-true, eq-eqb, ne_eqb, eqb-false}
use Rattle.task.specs.Index.{some_below, map_of, map_at}
use Rattle.task.specs.Tasks.{no_task, is_aca, is_running, has_confirm, in_phase, awaits}
use Rattle.task.specs.Map.{is_live, lowest_free, with_bit}
use Rattle.task.specs.Selections.{picks, picks_live, every_task, named, aca_on, running_on, running_as}
use Rattle.wire.specs.declared.codes.Kind.{Kind}
use Rattle.task.specs.declared.Phase.{Phase}
use Rattle.task.specs.declared.Sequel.{Sequel}
use Rattle.task.specs.declared.Task.{Task}
use Rattle.std.specs.Prelude.{Some, None}
use Rattle.wire.proofs.Table.{cond_ind, neither}
use Rattle.task.proofs.Ways.{either_way, never, both}
use Rattle.task.proofs.Places.{lt_or_le, some_none, none_at}
use Rattle.task.proofs.Bits.{dead_zero as live-nowhere, map_of_lt, live_map_of, is_map_of}
use Rattle.task.proofs.Maps.{with_lt}
use Rattle.task.proofs.Lists.{length_map_at, get_d_map_at, is_map_at}
use Rattle.task.proofs.Selecting.{picks_named, picks_aca_on, picks_running_on}
use Rattle.table.specs.Tables.{no_path, no_unit, path_at, unit_at, task_at, is_attached, any_live, last_arrival, has_room, with_tasks, with_paths, with_units, new_task, accepted, ended_by, altered_at, marked_in, attention_gone_in, with_reset_attention, reset_attention_in, is_other_on, others_on, cleared_attention_in, claimed_unit, claimed_in, aca_cleared_in, claimed_by, runs_at, finished, reset_of}
use Rattle.table.specs.Setup.{seen_before, bad_list, fresh_path, fresh_paths, paths_of, fresh_table, setup_table}
use Rattle.sound.specs.Sound.{Sound}
use Rattle.table.specs.View.{at}
use Rattle.sound.specs.Promises.{Good, FreshIsGood, MayCome, AcceptKeeps, EndKeeps, SameTask, AlterKeeps, StartedKeeps, RestartedKeeps, FinishedKeeps, ClaimKeeps, ClearKeeps, MarkKeeps, AttentionGoneKeeps, ResetAttentionKeeps, ClearedAttentionKeeps, ResetOfKeeps, ResetIsSetup, ResetIsEnding}
use Rattle.table.specs.declared.Path as path
use Rattle.table.specs.declared.Unit as unit
use Rattle.table.specs.declared.Table.{Table}
use Rattle.sound.proofs.Exact.{Clash, same_name, same_arrival, both_run, both_aca, turned, order_in, sound_by, parts}
use Rattle.table.proofs.Setting.{few_ids}
use Rattle.table.proofs.Views.{not_both, at_live, at_dead, at_empty, at_put, at_put_other, ended_task, altered_at_law, altered_other, at_fresh, with_next, ids_of, ids_at, ids_length, ids_marked, ids_attention_gone, ids_reset_attention, ids_cleared_attention, none_any, any_empty, ended_from, ended_to}

get_d_same : {A : Type 0} (n i : ℕ) (d : A) → get_or (replicate n d) i d ≡ d
get_d_same zero i d = refl
get_d_same (suc n) zero d = refl
get_d_same (suc n) (suc i) d = get_d_same n i d

-- ---- a change of paths and units

-- what unit u of t may have: an ACA only where it is attached, with a listed owner, and the owner's where it has an
-- ACA task
pub record MayHave (t : Table) (u : ℕ) (aca : Option ℕ) : Type 0 where
  pub owner : (p : ℕ) → u < 8 → aca ≡ Some p → (is_attached t u ≡ true) × (p < t.count)
  pub owned : (i : ℕ) (a : Task) → i < 64 → at t i ≡ some a → is_aca a.kind ≡ true → a.unit ≡ u → aca ≡ Some a.path

pub may_stay : (t : Table) → Good t → (u : ℕ) → MayHave t u (unit_at t u).aca
may_stay t g u = record {
  owner = (parts t g.sound).owner u;
  owned = λ i a b e f q. rw (← q) (g.sound.aca_owned i a b e f);
}

-- the ids of the listed paths stay, the rest of the paths are wiped, and each unit has what it may
pub rest_keep : (t : Table) (ps : List path.Path) (us : List unit.Unit) → length ps ≡ 8
    → ((p : ℕ) → p < t.count → (get_or ps p no_path).id ≡ (path_at t p).id) → ((p : ℕ) → t.count ≤ p → p < 8 → get_or ps p no_path ≡ no_path)
    → length us ≡ 8 → ((u : ℕ) → MayHave t u (get_or us u no_unit).aca) → Good t → Good (with_units (with_paths t ps) us)
unfolding at
rest_keep t ps us h id z k m g =
    let s = parts t g.sound in
    record {
      shaped = record { map = g.shaped.map; next = g.shaped.next; paths = h; units = k; tasks = g.shaped.tasks };
      sound = sound_by (with_units (with_paths t ps) us)
          (record {
            some_path = s.some_path;
            eight_at_most = s.eight_at_most;
            distinct = λ p q b c f. s.distinct p q b c (sym (id p b) ∙ f ∙ id q c);
            dead_zero = s.dead_zero;
            unused_is_zero = z;
            order = λ i a b f.
                let o = s.order i a b f in
                record { listed = o.listed; attached = o.attached; below = o.below; owned = λ c. (m a.unit).owned i a b f c refl };
            apart = s.apart;
            owner = λ u. (m u).owner;
          });
    }

pub paths_keep : (t : Table) (l : List path.Path) → length l ≡ 8 → ((p : ℕ) → p < t.count → (get_or l p no_path).id ≡ (path_at t p).id)
    → ((p : ℕ) → t.count ≤ p → p < 8 → get_or l p no_path ≡ no_path) → Good t → Good (with_paths t l)
paths_keep t l h id z g = rest_keep t l t.units h id z g.shaped.units (may_stay t g) g

pub units_keep : (t : Table) (l : List unit.Unit) → length l ≡ 8 → ((u : ℕ) → MayHave t u (get_or l u no_unit).aca) → Good t → Good (with_units t l)
units_keep t l h m g = rest_keep t t.paths l g.shaped.paths (λ _ _. refl) g.sound.unused_is_zero h m g

-- ---- paths

module _ (t : Table) (g : Good t) where
  -- all ids stay, and so do the unused paths
  ids_keep : (l : List path.Path) → ids_of l ≡ ids_of t.paths → ((p : ℕ) → t.count ≤ p → p < 8 → get_or l p no_path ≡ path_at t p)
      → Good (with_paths t l)
  ids_keep l e k =
      paths_keep t l (ids_length t.paths l e ∙ g.shaped.paths) (λ p _. ids_at t.paths l p e)
      (λ p b c. k p b c ∙ g.sound.unused_is_zero p b c) g

  -- one that is listed changes, or all by their places
  set_kept : (p : ℕ) (a : path.Path) → p < t.count → (q : ℕ) → t.count ≤ q
      → get_or (cond (ltb p 8) (set t.paths p a) t.paths) q no_path ≡ path_at t q
  set_kept p a l q b =
      cond_ind (λ (x : List path.Path). get_or x q no_path ≡ path_at t q) (ltb p 8)
      (λ _. get_or-set_other t.paths p q a no_path (λ r. omega arith)) (λ _. refl)

  map_kept : (f : ℕ → path.Path → path.Path) (p : ℕ) → p < 8 → f p (path_at t p) ≡ path_at t p → get_or (map_at f 0 t.paths) p no_path ≡ path_at t p
  map_kept f p l e = get_d_map_at f p t.paths no_path (rw g.shaped.paths l) ∙ e

pub mark_keeps : MarkKeeps
unfolding marked_in
mark_keeps t p full g l = ids_keep t g _ (ids_marked t.paths p full) (λ q b _. set_kept t g p _ l q b)

pub attention_gone_keeps : AttentionGoneKeeps
unfolding attention_gone_in
attention_gone_keeps t p g l = ids_keep t g _ (ids_attention_gone t.paths p) (λ q b _. set_kept t g p _ l q b)

pub reset_attention_keeps : ResetAttentionKeeps
unfolding reset_attention_in
reset_attention_keeps t unmark g = ids_keep t g _ (ids_reset_attention t.paths t.count unmark) (λ p b l. map_kept t g _ p l (rw (le-ltb p t.count b)))

pub cleared_attention_keeps : ClearedAttentionKeeps
unfolding cleared_attention_in others_on
cleared_attention_keeps t unit sender g =
    ids_keep t g _ (ids_cleared_attention t.paths (others_on t unit sender))
    (λ p b l. map_kept t g _ p l (rw (live_map_of 8 p (is_other_on t unit sender) l, le-ltb p t.count b)))

-- ---- units

-- one unit changes
set_keep : (t : Table) (u : ℕ) (a : unit.Unit) → MayHave t u a.aca → Good t → Good (with_units t (cond (ltb u 8) (set t.units u a) t.units))
set_keep t u a m g =
    cond_ind (λ (l : List unit.Unit). Good (with_units t l)) (ltb u 8)
    (λ b.
    units_keep t (set t.units u a) (length-set t.units u a ∙ g.shaped.units)
    (λ v. elim (ℕ_discrete v u) [
      | yes e ↦ rw (e, get_or-set_same t.units u a no_unit (rw g.shaped.units (ltb-true u 8 b))) m
      | no n ↦ rw (get_or-set_other t.units u v a no_unit n) (may_stay t g v)
    ]) g)
    (λ _. g)

not_owned : {p : ℕ} → None ≡ Some p → ⊥
not_owned e = let z : ◌≡◌ {A = ℕ} 0 1 = cc in omega arith

may_go : (t : Table) (u : ℕ) → any_live t (aca_on u) ≡ false → MayHave t u None
may_go t u e = record {
  owner = λ p _ f. absurd (not_owned f);
  owned = λ i a b f c q. absurd (none_any t (aca_on u) e b f (picks_aca_on a u ∙ rw (eq-eqb a.unit u q) c));
}

may_own : (t : Table) (u path : ℕ) → is_attached t u ≡ true → path < t.count → (o : Option ℕ) → MayHave t u o → MayHave t u (claimed_unit path (record { aca = o })).aca
may_own t u path h l (Some p) m = m
may_own t u path h l None m = record {
  owner = λ p _ e. let q : path ≡ p = cc in (h, rw q at l);
  owned = λ i a b e f q. absurd (not_owned (m.owned i a b e f q));
}

pub claim_keeps : ClaimKeeps
unfolding claimed_in
claim_keeps t unit path g h l =
    set_keep t unit (claimed_unit path (unit_at t unit)) (may_own t unit path h l (unit_at t unit).aca (may_stay t g unit)) g

pub clear_keeps : ClearKeeps
unfolding aca_cleared_in
clear_keeps t None g n = units_keep t (replicate 8 no_unit) (length-replicate 8 no_unit) (λ u. rw (get_d_same 8 u no_unit) (may_go t u (n u))) g
clear_keeps t (Some unit) g n = set_keep t unit no_unit (may_go t unit n) g

-- ---- a change of the tasks

-- task a may be live in record k beside t's tasks in the others
record Fits (t : Table) (next k : ℕ) (a : Task) : Type 0 where
  order : order_in t next a
  apart : (j : ℕ) (b : Task) → j < 64 → at t j ≡ some b → Clash a b → k ≡ j

-- t with other tasks: those that it has, and at k one that fits
module _ (t : Table) (live next : ℕ) (l : List Task) (k : ℕ) where
  abbrev with : Table
  with = with_next t live next l

  record Comes : Type 0 where
    map : live < 2 ^ 64
    later : t.next ≤ next
    small : next < 2 ^ 64
    long : length l ≡ 64
    dead : (i : ℕ) → i < 64 → at with i ≡ none → get_or l i no_task ≡ no_task
    from : (i : ℕ) (a : Task) → i < 64 → at with i ≡ some a → (at t i ≡ some a) ⊎ ((i ≡ k) × Fits t next i a)

  module _ (g : Good t) (c : Comes) where
    raised : {a : Task} → order_in t t.next a → order_in t next a
    raised o = record { listed = o.listed; attached = o.attached; below = omega (arith, o.below, c.later); owned = o.owned }

    lone : (i j : ℕ) (a b : Task) → i < 64 → j < 64 → at with i ≡ some a → at with j ≡ some b → Clash a b → i ≡ j
    lone i j a b l m e f r = cases (c.from i a l e) (c.from j b m f)
      where
        cases : (at t i ≡ some a) ⊎ ((i ≡ k) × Fits t next i a) → (at t j ≡ some b) ⊎ ((j ≡ k) × Fits t next j b) → i ≡ j
        cases (inl p) (inl q) = (parts t g.sound).apart i j a b l m p q r
        cases (inl p) (inr q) = sym (q.1.apart i a l p (turned r))
        cases (inr p) (inl q) = p.1.apart j b m q r
        cases (inr p) (inr q) = p.0 ∙ sym q.0

    tasks_good : Good with
    tasks_good =
        let s = parts t g.sound in
        record {
          shaped = record { map = c.map; next = c.small; paths = g.shaped.paths; units = g.shaped.units; tasks = c.long };
          sound = sound_by with
              (record {
                some_path = s.some_path;
                eight_at_most = s.eight_at_most;
                distinct = s.distinct;
                dead_zero = c.dead;
                unused_is_zero = s.unused_is_zero;
                order = λ i a l e. ⊎_elim (λ f. raised (s.order i a l f)) (λ f. f.1.order) (c.from i a l e);
                apart = lone;
                owner = s.owner;
              });
        }

pub end_keeps : EndKeeps
unfolding ended_by
end_keeps t s g =
    let h = g.shaped in
    tasks_good t (ended_by t s).live t.next (ended_by t s).tasks 0 g
    (record {
      map = map_of_lt 64 _;
      later = omega arith;
      small = h.next;
      long = length_map_at _ 0 t.tasks ∙ h.tasks;
      dead = λ i l e. elim (either_way (is_live t.live i)) [
        | inl b ↦ elim (either_way (picks s (task_at t i))) [
          | inl c ↦ ended_task t s i h l ∙ rw (b, c)
          | inr c ↦ absurd (not_both e (ended_to t s h l (at_live t i b) c))
        ]
        | inr b ↦ ended_task t s i h l ∙ rw b (g.sound.dead_zero i l (at_dead t i b))
      ];
      from = λ i a l e. inl (ended_from t s h l e).0;
    })

-- a task in record k that was not there, or that was another
put_good : (t : Table) (live next k : ℕ) (a : Task) → live < 2 ^ 64 → t.next ≤ next → next < 2 ^ 64
    → at (with_next t live next (set t.tasks k a)) k ≡ some a
    → ((i : ℕ) → (i ≡ k → ⊥) → at (with_next t live next (set t.tasks k a)) i ≡ at t i)
    → Fits t next k a → Good t → Good (with_next t live next (set t.tasks k a))
put_good t live next k a m l s here other f g =
    tasks_good t live next (set t.tasks k a) k g
    (record {
      map = m;
      later = l;
      small = s;
      long = length-set t.tasks k a ∙ g.shaped.tasks;
      dead = λ i b e. elim (ℕ_discrete i k) [
        | yes q ↦ absurd (not_both (rw q at e) here)
        | no n ↦ get_or-set_other t.tasks k i a no_task n ∙ g.sound.dead_zero i b (sym (other i n) ∙ e)
      ];
      from = λ i c b e. elim (ℕ_discrete i k) [
        | yes q ↦ let x : some a ≡ some c = sym here ∙ (rw q at e) in let y : a ≡ c = cc in inr (q, rw (q, ← y) f)
        | no n ↦ inl (sym (other i n) ∙ e)
      ];
    })

-- the task in record k is the same, and does not run beside another
same_fits : (t : Table) (k : ℕ) (a b : Task) → Sound t → SameTask a b → (is_running b.phase ≡ true → any_live t (running_on b.unit) ≡ false) → k < 64
    → at t k ≡ some a → Fits t t.next k b
same_fits t k a b s x n l e = record { order = same_order ((parts t s).order k a l e); apart = apart }
  where
    same_order : order_in t t.next a → order_in t t.next b
    same_order o = record {
      listed = rw x.path o.listed;
      attached = rw x.unit o.attached;
      below = rw x.arrival o.below;
      owned = rw (x.kind, x.unit, x.path) o.owned;
    }

    apart : (j : ℕ) (c : Task) → j < 64 → at t j ≡ some c → Clash b c → k ≡ j
    apart j c m f (same_name p q) = s.one_tag k j a c l m e f (sym x.path ∙ p) (sym x.tag ∙ q)
    apart j c m f (same_arrival p) = s.one_arrival k j a c l m e f (sym x.arrival ∙ p)
    apart j c m f (both_run h r p) = absurd (none_any t (running_on b.unit) (n h) m f (picks_running_on c b.unit ∙ rw (eq-eqb _ _ (sym p)) r))
    apart j c m f (both_aca h r p) = s.one_aca k j a c l m e f (rw x.kind at h) r (sym x.unit ∙ p)

pub alter_keeps : AlterKeeps
unfolding altered_at
alter_keeps t k b g x n =
    cond_ind
    (λ (u : Table). (k < 64 → at t k ≡ some (task_at t k) → at u k ≡ some b) → ((i : ℕ) → (i ≡ k → ⊥) → at u i ≡ at t i) → Good u)
    (ltb k 64 && is_live t.live k)
    (λ y here other.
    let c = both (ltb k 64) _ y in
    let l = ltb-true k 64 c.0 in
    let e = at_live t k c.1 in
    put_good t t.live t.next k b g.shaped.map (omega arith) g.shaped.next (here l e) other
    (same_fits t k (task_at t k) b g.sound x n l e) g)
    (λ _ _ _. g) (λ l e. altered_at_law t k b g.shaped l e) (altered_other t k b)

-- a task in another phase is the same task
pub same_in : (phase : Phase) (position : ℕ) (a : Task) → SameTask a (in_phase phase position a)
same_in phase position a = record { arrival = refl; tag = refl; path = refl; unit = refl; kind = refl }

pub start_keeps : StartedKeeps
start_keeps t i g n = alter_keeps t i _ g (same_in _ _ (task_at t i)) (λ _. n)

pub restart_keeps : RestartedKeeps
restart_keeps t i offset g = alter_keeps t i _ g (same_in _ _ (task_at t i)) (λ r. absurd (never r refl))

new_fits : (t : Table) (path tag unit : ℕ) (kind : Kind) (sequel : Sequel) (k : ℕ) → Sound t → MayCome t path tag unit kind
    → Fits t (t.next + 1) k (new_task t path tag unit kind sequel)
new_fits t path tag unit kind sequel k s m =
    record { order = record { listed = m.listed; attached = m.attached; below = omega arith; owned = m.owner }; apart = apart }
  where
    apart : (j : ℕ) (b : Task) → j < 64 → at t j ≡ some b → Clash (new_task t path tag unit kind sequel) b → k ≡ j
    apart j b l e (same_name p q) =
        absurd (none_any t (named path tag) m.free l e (picks_named b path tag ∙ rw (eq-eqb _ _ (sym p)) (eq-eqb _ _ (sym q))))
    apart j b l e (same_arrival p) = absurd (let h = s.below_next j b l e in omega arith)
    apart j b l e (both_run h _ _) = absurd (never h refl)
    apart j b l e (both_aca h r p) = absurd (none_any t (aca_on unit) (m.alone h) l e (picks_aca_on b unit ∙ rw (eq-eqb _ _ (sym p)) r))

pub accept_keeps : AcceptKeeps
unfolding accepted has_room
accept_keeps t path tag unit kind sequel g m =
    cond_ind Good (has_room t)
    (λ y.
    let b = both (ltb (lowest_free t.live) 64) _ y in
    let l = ltb-true (lowest_free t.live) 64 b.0 in
    let n = leb-true t.next last_arrival b.1 in
    let k = lowest_free t.live in
    let a = new_task t path tag unit kind sequel in
    put_good t (with_bit t.live k) (t.next + 1) k a (with_lt t.live k g.shaped.map) (omega arith) (omega arith)
    (at_put t k a g.shaped l) (at_put_other t k a) (new_fits t path tag unit kind sequel k g.sound m) g)
    (λ _. g)

-- what may come to t may come to t with other paths
pub may_come : {t : Table} (l : List path.Path) {path tag unit : ℕ} {kind : Kind} → MayCome t path tag unit kind → MayCome (with_paths t l) path tag unit kind
unfolding any_live
may_come l m = record { listed = m.listed; attached = m.attached; free = m.free; owner = m.owner; alone = m.alone }

pub finish_keeps : FinishedKeeps
unfolding finished
finish_keeps t i failed transferred g =
    let a = task_at t i in
    cond_ind Good (runs_at t i)
    (λ y.
    let b = both (ltb i 64) _ y in
    let l = ltb-true i 64 b.0 in
    let e = at_live t i (both (is_live t.live i) _ b.1).0 in
    let claimed : Good (claimed_by t a failed) =
    cond_ind (λ (us : List unit.Unit). Good (with_units t us)) failed
    (λ _. claim_keeps t a.unit a.path g (g.sound.attached i a l e) (g.sound.listed i a l e)) (λ _. g) in
    cond_ind Good (has_confirm a.sequel)
    (λ _. alter_keeps (claimed_by t a failed) i (awaits transferred a) claimed (same_in _ _ a) (λ r. absurd (never r refl)))
    (λ _. end_keeps (claimed_by t a failed) (running_as a.arrival) claimed))
    (λ _. g)

-- ---- total reset, step by step

wipe_good : (t : Table) → Good t → Good (with_tasks t 0 (replicate 64 no_task))
wipe_good t g =
    tasks_good t 0 t.next (replicate 64 no_task) 0 g
    (record {
      map = omega arith;
      later = omega arith;
      small = g.shaped.next;
      long = length-replicate 64 no_task;
      dead = λ i _ _. get_d_same 64 i no_task;
      from = λ i a _ e. absurd (not_both (at_empty (with_tasks t 0 (replicate 64 no_task)) i refl) e);
    })

pub reset_keeps : ResetOfKeeps
unfolding reset_of aca_cleared_in
reset_keeps t g =
    let u = with_tasks t 0 (replicate 64 no_task) in
    reset_attention_keeps (with_units u (aca_cleared_in u.units None)) true
    (clear_keeps u None (wipe_good t g) (λ unit. any_empty u (aca_on unit) refl))

-- ---- setup

length_fresh : (ids : List ℕ) → length (fresh_paths ids) ≡ length ids
unfolding fresh_paths
length_fresh [] = refl
length_fresh (id ∷ ids) = ap suc (length_fresh ids)

fresh_at : (ids : List ℕ) (p : ℕ) → p < length ids → get_or (fresh_paths ids) p no_path ≡ fresh_path (get_or ids p 0)
unfolding fresh_paths
fresh_at [] p l = absurd (omega arith)
fresh_at (id ∷ ids) zero l = refl
fresh_at (id ∷ ids) (suc p) l = fresh_at ids p (omega arith)

module _ (ids : List ℕ) where
  length_paths : length ids ≤ 8 → length (paths_of ids) ≡ 8
  unfolding paths_of
  length_paths h =
      omega (arith, length-append (fresh_paths ids) (replicate (8 - length ids) no_path), length_fresh ids, length-replicate (8 - length ids) no_path)

  pub listed_at : (p : ℕ) → p < length ids → get_or (paths_of ids) p no_path ≡ fresh_path (get_or ids p 0)
  unfolding paths_of
  listed_at p l = get_or-append (fresh_paths ids) (replicate (8 - length ids) no_path) no_path p (rw (length_fresh ids) l) ∙ fresh_at ids p l

  unused_at : (p : ℕ) → length ids ≤ p → get_or (paths_of ids) p no_path ≡ no_path
  unfolding paths_of
  unused_at p l =
      let e : p ≡ length (fresh_paths ids) + (p - length ids) = omega (arith, length_fresh ids) in
      rw e
      (get_or-append-add (fresh_paths ids) (replicate (8 - length ids) no_path) (p - length ids) no_path
      ∙ get_d_same (8 - length ids) (p - length ids) no_path)

  ids_apart : some_below (length ids) (seen_before ids) ≡ false → (i j : ℕ) → i < length ids → j < length ids → get_or ids i 0 ≡ get_or ids j 0
      → i ≡ j
  ids_apart e i j l m q =
      ⊎_elim (λ h. absurd (differ j i m h (sym q))) (λ h. ⊎_elim (λ k. absurd (differ i j l k q)) (λ k. omega arith) (lt_or_le j i)) (lt_or_le i j)
    where
      differ : (i j : ℕ) → i < length ids → j < i → get_or ids i 0 ≡ get_or ids j 0 → ⊥
      differ i j l m = eqb-false (get_or ids i 0) (get_or ids j 0) (none_at i j _ (none_at (length ids) i (seen_before ids) e l) m)

  fresh_good : (attached next : ℕ) → next < 2 ^ 64 → bad_list ids ≡ false → Good (fresh_table ids attached next)
  unfolding bad_list fresh_table
  fresh_good attached next h b =
      let n = neither (eqb (length ids) 0) _ b in
      let m = neither (ltb 8 (length ids)) _ n.1 in
      let least : length ids ≡ 0 → ⊥ = eqb-false (length ids) 0 n.0 in
      let most = ltb-false 8 (length ids) m.0 in
      record {
        shaped = record {
          map = omega arith;
          next = h;
          paths = length_paths most;
          units = length-replicate 8 no_unit;
          tasks = length-replicate 64 no_task;
        };
        sound = sound_by (fresh_table ids attached next)
            (record {
              some_path = omega arith;
              eight_at_most = most;
              distinct = λ p q l k e. ids_apart m.1 p q l k (sym (id_at p l) ∙ e ∙ id_at q k);
              dead_zero = λ i _ _. get_d_same 64 i no_task;
              unused_is_zero = λ p l _. unused_at p l;
              order = λ i a _ e. absurd (no i e);
              apart = λ i j a c _ _ e _ _. absurd (no i e);
              owner = λ u p _ e. absurd (clear u e);
            });
      }
    where
      id_at : (p : ℕ) → p < length ids → (get_or (paths_of ids) p no_path).id ≡ get_or ids p 0
      id_at p l = ap (λ (a : path.Path). a.id) (listed_at p l)

      no : (i : ℕ) {a : Task} → at (fresh_table ids attached next) i ≡ some a → ⊥
      no i e = not_both (at_fresh ids attached next i) e

      clear : (u : ℕ) {p : ℕ} → (get_or (replicate 8 no_unit) u no_unit).aca ≡ Some p → ⊥
      clear u e = not_owned (rw (get_d_same 8 u no_unit) at e)

pub setup_is_good : FreshIsGood
unfolding setup_table
setup_is_good ids attached next h b = rw b (fresh_good ids attached next h b)

-- ---- total reset gives what setup gives

-- the ids of a good table are no bad list
ids_good : (t : Table) (ids : List ℕ) → Sound t → length ids ≡ t.count → ((p : ℕ) → p < t.count → (path_at t p).id ≡ get_or ids p 0) → bad_list ids ≡ false
ids_good t ids s e h =
    sym (few_ids ids (λ z. absurd (omega (arith, s.some_path))) (omega (arith, s.eight_at_most))
    (sym (some_none (length ids) (seen_before ids) (λ i l. some_none i _ (λ j m. ne_eqb (get_or ids i 0) (get_or ids j 0) (λ q. apart i j l m q))))))
  where
    apart : (i j : ℕ) → i < length ids → j < i → get_or ids i 0 ≡ get_or ids j 0 → ⊥
    apart i j l m q = let z : i ≡ j = s.distinct i j (omega arith) (omega arith) (h i (omega arith) ∙ q ∙ sym (h j (omega arith))) in omega arith

pub reset_is_setup : ResetIsSetup
unfolding reset_of reset_attention_in fresh_table setup_table
reset_is_setup t ids g e h = rw (ids_good t ids g.sound e h) (λ i. record {
  live = 0;
  next = t.next;
  count = sym e i;
  attached = t.attached;
  paths = same i;
  units = replicate 8 no_unit;
  tasks = replicate 64 no_task;
})
  where
    f : ℕ → path.Path → path.Path
    f p a = cond (ltb p t.count) (with_reset_attention true a) a

    same : map_at f 0 t.paths ≡ paths_of ids
    same =
        sym (is_map_at f t.paths (paths_of ids) no_path (length_paths ids (let m = g.sound.eight_at_most in omega arith) ∙ sym g.shaped.paths)
        (λ p b. ⊎_elim
        (λ l. listed_at ids p (omega arith) ∙ ap fresh_path (sym (h p l)) ∙ rw (lt-ltb p t.count l))
        (λ l. unused_at ids p (omega arith) ∙ rw (le-ltb p t.count l) (sym (g.sound.unused_is_zero p l (omega (arith, g.shaped.paths)))))
        (lt_or_le p t.count)))

-- every live record is wiped, and a dead one is zero already
module _ (t : Table) (n : length t.tasks ≡ 64) (s : Sound t) where
  none_left : map_of 64 (λ i. is_live t.live i && not (picks every_task (task_at t i))) ≡ 0
  unfolding picks
  none_left = sym (is_map_of 64 0 (λ i. is_live t.live i && false) (lit< tt) (λ i _. live-nowhere i ∙ sym (and-false (is_live t.live i))))

  abbrev wiped : ℕ → Task → Task
  wiped i a = cond (picks_live t.live every_task i a) no_task a

  all_wiped : map_at wiped 0 t.tasks ≡ replicate 64 no_task
  unfolding picks
  all_wiped = sym (is_map_at wiped t.tasks (replicate 64 no_task) no_task (length-replicate 64 no_task ∙ sym n) (λ i b. get_d_same 64 i no_task ∙ each i (omega (arith, n))))
    where
      each : (i : ℕ) → i < 64 → no_task ≡ wiped i (task_at t i)
      each i l = elim (either_way (is_live t.live i)) [ inl e ↦ rw e | inr e ↦ rw e (sym (s.dead_zero i l (at_dead t i e))) ]

  pub reset_ends : ended_by (with_units (with_paths t (reset_attention_in t.paths t.count true)) (aca_cleared_in t.units None)) every_task ≡ reset_of t
  unfolding ended_by aca_cleared_in reset_of
  reset_ends = rw (none_left, all_wiped)

pub reset_is_ending : ResetIsEnding
reset_is_ending t g = reset_ends t g.shaped.tasks g.sound
