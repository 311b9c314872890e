-- A ledger and a table that match agree, as demand 3 asks. Assumes nothing.
use Prim.Native.Nat.{ℕ, suc, ◌+◌, ◌-◌, ◌<◌, ◌≤◌}
use mathlib.Core.Path.{◌≡◌, refl, sym, ap, ap₂, ◌∙◌}
use mathlib.Core.Bool.{Bool, true, false, cond, ◌&&◌}
use mathlib.Core.List.{List, [], ◌∷◌}
use mathlib.Core.Logic.{inl, inr}
use mathlib.Core.Option.{some}
use native.Mathlib.Omega.{arith}
use lib.ListN.{length, get_or}
use lib.Dec.{eqb}
use borrow.Author.Tests.{eq-eqb, eqb-true}
use Rattle.task.specs.Index.{one}
use Rattle.task.specs.Tasks.{has_confirm, kind_number, phase_number}
use Rattle.wire.specs.declared.codes.Kind.{Kind}
use Rattle.wire.specs.declared.codes.Kind.TheVariants as kind
use Rattle.task.specs.declared.Phase.{Phase}
use Rattle.task.specs.declared.Phase.TheVariants as phase
use Rattle.task.specs.declared.Sequel.{Sequel}
use Rattle.task.specs.declared.Sequel.TheVariants as sequel
use Rattle.task.specs.declared.Task.{Task}
use Rattle.task.proofs.Ways.{never, both}
use Rattle.task.proofs.Places.{lt_or_le}
use Rattle.table.specs.declared.Table.{Table}
use Rattle.table.proofs.Weights.{ones_are_live}
use Rattle.history.specs.Trace.{Told, nth, Label, by_status, byTotalReset, by_order, resets, counts_as_status, counts_as_management, counts_as_reset, Effect, Nothing, Accepts, Starts, Finishes, Restarts, Ends, effect_told}
use Rattle.history.specs.Ledger.{Ending, Entry, is_empty, is_open, after_effect, noted, ledger_from, ledger, total, count_of, is_from, accepts_from, accepted_from}
use Rattle.history.specs.Demand.{accounted_for, Agrees}
use Rattle.history.proofs.Totals.{total_ext, total_le, total_add, total_at, total_two, total_find, weight_at_law, weight_find}
use Rattle.history.proofs.Fates.{effect_ways}
use Rattle.history.proofs.Traces.{came_in, caused_in, entered_in}
use Rattle.history.proofs.Kept.{Matched, open_weight, has_number, extra, added, one_true, noted_total}

-- ---- two tasks, field by field

kind_from : ℕ → Kind
kind_from n = cond (eqb n 0) kind.Aca (cond (eqb n 1) kind.Head (cond (eqb n 2) kind.Ordered kind.Simple))

kind_back : (k : Kind) → kind_from (kind_number k) ≡ k
unfolding kind_from
kind_back kind.Aca = refl
kind_back kind.Head = refl
kind_back kind.Ordered = refl
kind_back kind.Simple = refl

phase_from : ℕ → Phase
phase_from n = cond (eqb n 0) phase.Waiting (cond (eqb n 1) phase.Running phase.Unconfirmed)

phase_back : (p : Phase) → phase_from (phase_number p) ≡ p
unfolding phase_from
phase_back phase.Waiting = refl
phase_back phase.Running = refl
phase_back phase.Unconfirmed = refl

sequel_from : Bool → Sequel
sequel_from b = cond b sequel.Confirm sequel.End

sequel_back : (s : Sequel) → sequel_from (eqb (one (has_confirm s)) 1) ≡ s
unfolding sequel_from
sequel_back sequel.End = refl
sequel_back sequel.Confirm = refl

abbrev fields : Task → List ℕ
fields a =
    a.arrival ∷ a.position ∷ a.tag ∷ a.path ∷ a.unit ∷ kind_number a.kind ∷ phase_number a.phase ∷ one (has_confirm a.sequel) ∷ []

fields_eq : (a b : Task) → fields a ≡ fields b → a ≡ b
fields_eq a b e =
    let at : (k : ℕ) → get_or (fields a) k 0 ≡ get_or (fields b) k 0 = λ k. ap (λ (l : List ℕ). get_or l k 0) e in
    let k : a.kind ≡ b.kind = sym (kind_back a.kind) ∙ ap kind_from (at 5) ∙ kind_back b.kind in
    let p : a.phase ≡ b.phase = sym (phase_back a.phase) ∙ ap phase_from (at 6) ∙ phase_back b.phase in
    let s : a.sequel ≡ b.sequel = sym (sequel_back a.sequel) ∙ ap (λ (n : ℕ). sequel_from (eqb n 1)) (at 7) ∙ sequel_back b.sequel in
    λ i.
    record {
      arrival = at 0 i;
      position = at 1 i;
      tag = at 2 i;
      path = at 3 i;
      unit = at 4 i;
      kind = k i;
      phase = p i;
      sequel = s i;
    }

same_list : List ℕ → List ℕ → Bool
same_list [] [] = true
same_list [] (y ∷ m) = false
same_list (x ∷ l) [] = false
same_list (x ∷ l) (y ∷ m) = eqb x y && same_list l m

list_eq : (l m : List ℕ) → same_list l m ≡ true → l ≡ m
unfolding same_list
list_eq [] [] e = refl
list_eq [] (y ∷ m) e = absurd (never e refl)
list_eq (x ∷ l) [] e = absurd (never e refl)
list_eq (x ∷ l) (y ∷ m) e = let q = both (eqb x y) (same_list l m) e in ap₂ ◌∷◌ (eqb-true x y q.0) (list_eq l m q.1)

list_refl : (l : List ℕ) → same_list l l ≡ true
unfolding same_list
list_refl [] = refl
list_refl (x ∷ l) = rw (eq-eqb x x refl) (list_refl l)

abbrev same_task : Task → Task → Bool
same_task a b = same_list (fields a) (fields b)

same_eq : (a b : Task) → same_task a b ≡ true → a ≡ b
same_eq a b e = fields_eq a b (list_eq (fields a) (fields b) e)

same_refl : (a : Task) → same_task a a ≡ true
same_refl a = list_refl (fields a)

open_true : (o b : Bool) → 1 ≤ cond o (one b) 0 → (o ≡ true) × (b ≡ true)
open_true true b h = (refl, one_true b h)
open_true false b h = absurd (omega arith)

open_one : (o : Bool) → cond o 1 0 ≡ one o
open_one true = refl
open_one false = refl

-- ---- the commands of a path: as many entries as the trace accepts

pub accepted_path : (p : ℕ) (effect : Effect) → added effect (λ a. one (is_from p a)) ≡ one (accepts_from p effect)
accepted_path p Nothing = refl
accepted_path p (Accepts a) = refl
accepted_path p (Starts arrival) = refl
accepted_path p (Finishes arrival transferred) = refl
accepted_path p (Restarts s offset) = refl
accepted_path p (Ends s how) = refl

noted_path : (n p : ℕ) (effect : Effect) (l : List Entry)
    → count_of (λ e. is_from p e.task) (noted n effect l) ≡ count_of (λ e. is_from p e.task) l + one (accepts_from p effect)
noted_path n p effect l =
    let from : Entry → ℕ = λ e. one (is_from p e.task) in
    omega (
      arith,
      noted_total from n effect l,
      total_ext (λ e. from (after_effect n effect e)) from (λ e. effect_ways (λ (x : Entry). from x ≡ from e) n effect e refl (λ _ _ _. refl) (λ _ _. refl)) l,
      accepted_path p effect,
    )

entries : (ids : List ℕ) (p n : ℕ) (l : List Entry) (h : List Told)
    → count_of (λ e. is_from p e.task) (ledger_from ids n l h) ≡ count_of (λ e. is_from p e.task) l + accepted_from ids p h
unfolding ledger_from total
entries ids p n l [] = omega arith
entries ids p n l (x ∷ h) =
    let effect : Effect = effect_told ids x in
    omega (arith, entries ids p (suc n) (noted n effect l) h, noted_path n p effect l)

-- ---- the endings of an entry by their sort

one_sort : (w : Label) → one (counts_as_status w) + one (counts_as_management w) + one (counts_as_reset w) ≡ 1
one_sort by_status = refl
one_sort byTotalReset = refl
one_sort (by_order o) = cases (resets o)
  where
    cases : (b : Bool) → one false + one (cond b false true) + one b ≡ 1
    cases true = refl
    cases false = refl

abbrev of : (Label → Bool) → List Ending → ℕ
of sort l = count_of (λ x. sort x.how) l

sorts : (l : List Ending) → length l ≡ of counts_as_status l + of counts_as_management l + of counts_as_reset l
unfolding total
sorts [] = refl
sorts (x ∷ l) = omega (arith, one_sort x.how, sorts l)

-- an entry of the path is open, or has as many endings as one and those beyond the first
entry_balance : (b : Bool) (l : List Ending)
    → one b + cond b (length l - 1) 0
    ≡ cond b (of counts_as_status l) 0 + cond b (of counts_as_management l) 0 + cond b (of counts_as_reset l) 0 + cond (is_empty l) (one b) 0
unfolding total
entry_balance true [] = refl
entry_balance false [] = refl
entry_balance true (x ∷ l) = omega (arith, sorts (x ∷ l))
entry_balance false (x ∷ l) = refl

cond_le : (b : Bool) (n : ℕ) → cond b n 0 ≤ n
cond_le true n = omega arith
cond_le false n = omega arith

module _ (ids : List ℕ) (h : List Told) (t : Table) (T : Matched (ledger ids h) t) where
  abbrev l : List Entry
  l = ledger ids h

  balanced : (p : ℕ) → accepted_from ids p h ≡ accounted_for p l t
  unfolding total
  balanced p =
      let from : Entry → Bool = λ e. is_from p e.task in
      let ended : (Label → Bool) → Entry → ℕ = λ sort e. cond (from e) (of sort e.endings) 0 in
      let opens : Entry → ℕ = open_weight (λ a. one (is_from p a)) in
      let more : Entry → ℕ = λ e. cond (from e) (extra e) 0 in
      omega (
        arith,
        entries ids p 1 [] h,
        total_ext (λ e. one (from e) + more e) (λ e. ended counts_as_status e + ended counts_as_management e + ended counts_as_reset e + opens e) (λ e. entry_balance (from e) e.endings) l,
        total_add (λ e. one (from e)) more l,
        total_le more extra (λ e. cond_le (from e) (extra e)) l,
        total_add (λ e. ended counts_as_status e + ended counts_as_management e + ended counts_as_reset e) opens l,
        total_add (λ e. ended counts_as_status e + ended counts_as_management e) (ended counts_as_reset) l,
        total_add (ended counts_as_status) (ended counts_as_management) l,
        T.single,
        T.same (λ a. one (is_from p a)),
      )

  apart : (k j : ℕ) (e f : Entry) → nth l k ≡ some e → nth l j ≡ some f → e.task.arrival ≡ f.task.arrival → k < j → ⊥
  apart k j e f en fn q below =
      let n : ℕ = f.task.arrival in
      omega (
        arith,
        total_two (λ e. one (has_number n e)) l k j e f below en fn,
        ap one (eq-eqb e.task.arrival n q),
        ap one (eq-eqb f.task.arrival n refl),
        T.given n,
      )

  pub agrees : Agrees ids h t
  agrees = record {
    held =
        λ k e en o.
        let f : Task → ℕ = λ b. one (same_task e.task b) in
        let r =
        weight_find f t
        (omega (
          arith,
          total_at (open_weight f) l k e en,
          T.same f,
          ap₂ (λ (b c : Bool). cond b (one c) 0) o (same_refl e.task),
        )) in
        (r.0, r.2, r.3 ∙ ap some (sym (same_eq e.task r.1 (one_true _ r.4))));
    no_other =
        λ i a below here.
        let f : Task → ℕ = λ b. one (same_task b a) in
        let r = total_find (open_weight f) l (omega (arith, weight_at_law f t i a below here, T.same f, ap one (same_refl a))) in
        let o = open_true (is_open r.1) (same_task r.1.task a) r.3 in
        (r.0, r.1, r.2, o.0, same_eq r.1.task a o.1);
    one_record = T.one_arrival;
    one_entry =
        λ k j e f en fn q.
        elim (lt_or_le k j) [
          | inl below ↦ absurd (apart k j e f en fn q below)
          | inr past ↦ elim (lt_or_le j k) [ inl below ↦ absurd (apart j k f e fn en (sym q) below) | inr under ↦ omega arith ]
        ];
    live_count =
        ones_are_live t T.shaped ∙ sym (T.same (λ a. 1)) ∙ total_ext (open_weight (λ a. 1)) (λ e. one (is_open e)) (λ e. open_one (is_open e)) l;
    once = λ k e en. omega (arith, total_at extra l k e en, T.single);
    came = came_in ids h;
    caused = caused_in ids h;
    entered = entered_in ids h;
    balance = balanced;
  }
