-- What ties a ledger to a table, and that an effect keeps the tie. The tie compares weights: open entries and live
-- records weigh the same, whatever the weight. Assumes nothing.
use Prim.Native.Nat.{ℕ, ◌+◌, ◌-◌, ◌<◌, ◌≤◌}
use mathlib.Core.Path.{◌≡◌, refl, ap, ap₂, ◌∙◌}
use mathlib.Core.Bool.{Bool, true, false, cond, not, ◌&&◌}
use mathlib.Core.List.{List, [], ◌∷◌, map}
use mathlib.Core.Logic.{inl, inr}
use mathlib.Core.Option.{Option, none, some}
use native.Mathlib.Omega.{arith}
use lib.ListN.{length, get_or, length-append}
use lib.Dec.{eqb}
use borrow.Author.Tests.{eq-eqb, eqb-true}
use Rattle.task.specs.Index.{one}
use Rattle.task.specs.declared.Task.{Task}
use Rattle.wire.proofs.Table.{cond_ind}
use Rattle.task.proofs.Ways.{either_way, both}
use Rattle.task.proofs.Places.{lt_or_le}
use Rattle.table.specs.Tables.{path_at}
use Rattle.table.specs.View.{Shaped, at, weight_at, weight}
use Rattle.sound.specs.Promises.{Good}
use Rattle.table.specs.declared.Table.{Table}
use Rattle.history.specs.Trace.{counts_as_status, Effect, Fate, stays, becomes, ended, fate_of}
use Rattle.history.specs.Ledger.{Ending, Entry, is_empty, is_open, new_entry, after_fate, after_effect, new_entries, noted, total, count_of}
use Rattle.history.proofs.Totals.{total_ext, total_le, total_add, total_append, total_map, total_at, total_find, weight_at_law}
use Rattle.history.proofs.Fates.{effect_ways, taken, new_entries_ways}

-- ---- weights of an entry: of its task while it is open; its number; the endings beyond the first

abbrev pub open_weight : (Task → ℕ) → Entry → ℕ
open_weight f e = cond (is_open e) (f e.task) 0

abbrev pub has_number : ℕ → Entry → Bool
has_number n e = eqb e.task.arrival n

abbrev pub extra : Entry → ℕ
extra e = length e.endings - 1

pub record Tied (ids : List ℕ) (l : List Entry) (t : Table) : Type 0 where
  pub good : Good t
  -- the path list is setup's
  pub listed : t.count ≡ length ids
  pub ids_stand : (p : ℕ) → p < t.count → (path_at t p).id ≡ get_or ids p 0
  -- open entries and live records weigh the same
  pub same : (f : Task → ℕ) → total (open_weight f) l ≡ weight f t
  -- an arrival number is given once, and those from the next on not yet
  pub given : (n : ℕ) → count_of (has_number n) l ≤ 1
  pub unused : (n : ℕ) → t.next ≤ n → count_of (has_number n) l ≡ 0
  -- no entry has a second ending
  pub single : total extra l ≡ 0

-- what of it the agreement goes by
pub record Matched (l : List Entry) (t : Table) : Type 0 where
  pub shaped : Shaped t
  pub one_arrival : (i j : ℕ) (a b : Task) → i < 64 → j < 64 → at t i ≡ some a → at t j ≡ some b → a.arrival ≡ b.arrival → i ≡ j
  pub same : (f : Task → ℕ) → total (open_weight f) l ≡ weight f t
  pub given : (n : ℕ) → count_of (has_number n) l ≤ 1
  pub single : total extra l ≡ 0

pub matched : {ids : List ℕ} {l : List Entry} {t : Table} → Tied ids l t → Matched l t
matched T = record { shaped = T.good.shaped; one_arrival = T.good.sound.one_arrival; same = T.same; given = T.given; single = T.single }

-- ---- what an effect is to do to a table

-- what a task weighs after its fate
abbrev pub fated : (Task → ℕ) → Task → Fate → ℕ
fated f a stays = f a
fated f a (becomes b) = f b
fated f a (ended how) = 0

abbrev pub weighed : Effect → (Task → ℕ) → Task → ℕ
weighed effect f a = fated f a (fate_of effect a)

abbrev pub added : Effect → (Task → ℕ) → ℕ
added effect f = weight_at f (taken effect)

abbrev pub ends_by_status : Fate → Bool
ends_by_status stays = false
ends_by_status (becomes b) = false
ends_by_status (ended how) = counts_as_status how

-- what is in a record after the fate of its task a
abbrev pub remains_of : Task → Fate → Option Task
remains_of a stays = some a
remains_of a (becomes b) = some b
remains_of a (ended how) = none

-- a command takes the next number; what ends by status has the number of a live task
pub record Sure (effect : Effect) (t : Table) : Type 0 where
  pub next : (a : Task) → taken effect ≡ some a → a.arrival ≡ t.next
  pub live : (b : Task) → ends_by_status (fate_of effect b) ≡ true → (i : ℕ) × (a : Task) × (i < 64) × (at t i ≡ some a) × (b.arrival ≡ a.arrival)

pub record Done (effect : Effect) (t u : Table) : Type 0 where
  pub count : u.count ≡ t.count
  pub attached : u.attached ≡ t.attached
  pub ids : (p : ℕ) → (path_at u p).id ≡ (path_at t p).id
  pub next : u.next ≡ t.next + added effect (λ a. 1)
  pub weighs : (f : Task → ℕ) → weight f u ≡ weight (weighed effect f) t + added effect f
  pub sure : Sure effect t
  -- each live record has after it what its task's fate leaves, at its place
  pub follows : (i : ℕ) (a : Task) → i < 64 → at t i ≡ some a → at u i ≡ remains_of a (fate_of effect a)

-- ---- what an effect does to an entry's weights

-- an entry that was ended before is ended by status
abbrev again : Fate → List Ending → Bool
again x l = ends_by_status x && not (is_empty l)

module _ (n : ℕ) where
  fate_open : (f : Task → ℕ) (x : Fate) (a : Task) (k : ℕ) (l : List Ending)
      → open_weight f (after_fate n x (record { task = a; accepted = k; endings = l })) ≡ cond (is_empty l) (fated f a x) 0
  fate_open f stays a k l = refl
  fate_open f (becomes b) a k [] = refl
  fate_open f (becomes b) a k (y ∷ l) = refl
  fate_open f (ended how) a k [] = refl
  fate_open f (ended how) a k (y ∷ l) = cond_ind (λ (e : Entry). open_weight f e ≡ 0) (counts_as_status how) (λ _. refl) (λ _. refl)

  fate_extra : (x : Fate) (a : Task) (k : ℕ) (l : List Ending)
      → extra (after_fate n x (record { task = a; accepted = k; endings = l })) ≤ (length l - 1) + one (again x l)
  fate_extra stays a k l = omega arith
  fate_extra (becomes b) a k [] = omega arith
  fate_extra (becomes b) a k (y ∷ l) = omega arith
  fate_extra (ended how) a k [] = omega arith
  fate_extra (ended how) a k (y ∷ l) = elim (either_way (counts_as_status how)) [
    | inl s ↦ rw s (omega (arith, length-append l (record { event = n; how = how } ∷ [])))
    | inr s ↦ rw s (omega arith)
  ]

-- an entry of a number is open or ended
split : (b o : Bool) → one b ≡ cond o (one b) 0 + one (b && not o)
split true true = refl
split true false = refl
split false true = refl
split false false = refl

pub one_true : (b : Bool) → 1 ≤ one b → b ≡ true
one_true true h = refl
one_true false h = absurd (omega arith)

-- ---- a command that comes

pub noted_total : (f : Entry → ℕ) (n : ℕ) (effect : Effect) (l : List Entry)
    → total f (noted n effect l) ≡ total (λ e. f (after_effect n effect e)) l + added effect (λ a. f (new_entry n a))
unfolding noted total
noted_total f n effect l =
    omega (
      arith,
      total_append f (map (after_effect n effect) l) (new_entries n effect),
      total_map f (after_effect n effect) l,
      new_entries_ways (λ (x : Option Task) (m : List Entry). total f m ≡ weight_at (λ a. f (new_entry n a)) x) n effect refl (λ a _. omega arith),
    )

-- s commands have the number m, and none has the next number or a later one; then one more comes, under the next
-- number
module _ (next m s : ℕ) where
  abbrev numbered : Option Task → ℕ
  numbered x = weight_at (λ a. one (eqb a.arrival m)) x

  add_given : (x : Option Task) → ((a : Task) → x ≡ some a → a.arrival ≡ next) → s ≤ 1 → (next ≤ m → s ≡ 0) → s + numbered x ≤ 1
  add_given none h l z = omega arith
  add_given (some a) h l z = elim (either_way (eqb a.arrival m)) [
    | inl y ↦ omega (arith, ap one y, z (omega (arith, h a refl, eqb-true a.arrival m y)))
    | inr y ↦ omega (arith, ap one y)
  ]

  add_unused : (x : Option Task) → ((a : Task) → x ≡ some a → a.arrival ≡ next) → next + weight_at (λ a. 1) x ≤ m → s ≡ 0 → s + numbered x ≡ 0
  add_unused none h l z = omega arith
  add_unused (some a) h l z = elim (either_way (eqb a.arrival m)) [
    | inl y ↦ absurd (omega (arith, h a refl, eqb-true a.arrival m y))
    | inr y ↦ omega (arith, ap one y)
  ]

nothing_more : (x : Option Task) → weight_at (λ a. 0) x ≡ 0
nothing_more none = refl
nothing_more (some a) = refl

-- ---- the tie is kept

module _ (ids : List ℕ) (l : List Entry) (t u : Table) (T : Tied ids l t) (g : Good u) where
  -- a number that is live has no ended entry
  none_ended : (i : ℕ) (a : Task) → i < 64 → at t i ≡ some a → total (λ e. one (has_number a.arrival e && not (is_open e))) l ≡ 0
  none_ended i a below here =
      let n : ℕ = a.arrival in
      let ended : Entry → ℕ = λ e. one (has_number n e && not (is_open e)) in
      let opens : Entry → ℕ = open_weight (λ b. one (eqb b.arrival n)) in
      let parts : count_of (has_number n) l ≡ total (λ e. opens e + ended e) l = total_ext _ _ (λ e. split (has_number n e) (is_open e)) l in
      let whole : total (λ e. opens e + ended e) l ≡ total opens l + total ended l = total_add opens ended l in
      let live : one (eqb a.arrival n) ≤ weight (λ b. one (eqb b.arrival n)) t = weight_at_law (λ b. one (eqb b.arrival n)) t i a below here in
      omega (arith, parts, whole, live, T.same (λ b. one (eqb b.arrival n)), T.given n, ap one (eq-eqb a.arrival n refl))

  none_again : (effect : Effect) → Sure effect t → total (λ e. one (again (fate_of effect e.task) e.endings)) l ≡ 0
  none_again effect sure = elim (lt_or_le 0 (total (λ e. one (again (fate_of effect e.task) e.endings)) l)) [
    | inl more ↦
        let r = total_find (λ e. one (again (fate_of effect e.task) e.endings)) l more in
        let e : Entry = r.1 in
        let q = both (ends_by_status (fate_of effect e.task)) (not (is_open e)) (one_true _ r.3) in
        let v = sure.live e.task q.0 in
        absurd (omega (
          arith,
          none_ended v.0 v.1 v.2 v.3,
          total_at (λ e. one (has_number v.1.arrival e && not (is_open e))) l r.0 e r.2,
          ap₂ (λ (b c : Bool). one (b && c)) (eq-eqb _ _ v.4) q.1,
        ))
    | inr z ↦ omega arith
  ]

  pub kept : (n : ℕ) (effect : Effect) → Done effect t u → Tied ids (noted n effect l) u
  unfolding after_effect
  kept n effect d =
      let numbers : (m : ℕ) → count_of (has_number m) (noted n effect l) ≡ count_of (has_number m) l + added effect (λ a. one (eqb a.arrival m)) =
      λ m.
      omega (
        arith,
        noted_total (λ e. one (has_number m e)) n effect l,
        total_ext (λ e. one (has_number m (after_effect n effect e))) (λ e. one (has_number m e))
            (λ e. effect_ways (λ (x : Entry). one (has_number m x) ≡ one (has_number m e)) n effect e refl (λ _ _ _. refl) (λ _ _. refl)) l,
      ) in
      let anew : Entry → ℕ = λ e. one (again (fate_of effect e.task) e.endings) in
      record {
        good = g;
        listed = d.count ∙ T.listed;
        ids_stand = λ p below. d.ids p ∙ T.ids_stand p (omega (arith, d.count));
        same =
            λ f.
            omega (
              arith,
              noted_total (open_weight f) n effect l,
              total_ext (λ e. open_weight f (after_effect n effect e)) (open_weight (weighed effect f)) (λ e. fate_open n f (fate_of effect e.task) e.task e.accepted e.endings) l,
              T.same (weighed effect f),
              d.weighs f,
            );
        given = λ m. omega (arith, numbers m, add_given t.next m (count_of (has_number m) l) (taken effect) d.sure.next (T.given m) (T.unused m));
        unused =
            λ m h.
            numbers m
            ∙ add_unused t.next m (count_of (has_number m) l) (taken effect) d.sure.next (omega (arith, d.next)) (T.unused m (omega (arith, d.next)));
        single =
            omega (
              arith,
              noted_total extra n effect l,
              total_le (λ e. extra (after_effect n effect e)) (λ e. extra e + anew e) (λ e. fate_extra n (fate_of effect e.task) e.task e.accepted e.endings) l,
              total_add extra anew l,
              T.single,
              none_again effect d.sure,
              nothing_more (taken effect),
            );
      }
