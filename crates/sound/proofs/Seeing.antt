-- The map of what was seen: a bit that is set is seen, and what was seen stays seen; the bits of each live record
-- below a place are set; where none of a task's bits is set, no live record below clashes with it. Assumes nothing.
use Prim.Native.Nat.{ℕ, zero, suc, ◌/◌, ◌%◌, ◌<◌}
use mathlib.Core.Path.{◌≡◌, refl, ap, ◌∙◌}
use mathlib.Core.Bool.{Bool, true, false, ◌&&◌, or-true, and-false}
use mathlib.Core.List.{List, [], ◌∷◌}
use mathlib.Core.Logic.{◌⊎◌, inl, inr, ⊎_elim}
use native.Mathlib.Decide.{ℕ_discrete}
use native.Mathlib.Omega.{arith}
use lib.ListN.{length, get_or, set, length-set}
use lib.Seq.{get_or-set_same, get_or-set_other, set_out}
use Rattle.task.specs.Index.{first, some_below, all_below}
use Rattle.task.specs.Tasks.{is_aca, is_running}
use Rattle.task.specs.Map.{is_live, lowest_free, with_bit}
use Rattle.wire.specs.declared.codes.Kind.TheVariants.{Simple}
use Rattle.task.specs.declared.Sequel.TheVariants.{End}
use Rattle.task.specs.declared.Task.{Task}
use Rattle.wire.proofs.Table.{cond_ind}
use Rattle.task.proofs.Ways.{either_way, never}
use Rattle.task.proofs.Places.{below_suc, lt_or_le, some_none}
use Rattle.task.proofs.Maps.{with_same, with_other}
use Rattle.table.specs.Tables.{task_at, place_of, zero_table, has_room, accepted}
use Rattle.table.specs.Setup.{bad_list, fresh_paths, paths_of, fresh_table, setup_table}
use Rattle.sound.specs.Sound.{alike, count_ok, paths_distinct, unused_zero, records_ok, units_ok, clashes, sound_of}
use Rattle.sound.specs.Seen.{name_bit, number_bit, running_bit, aca_bit}
use Rattle.sound.specs.Seen.{is_seen, with_seen, with_seen_if, may_clash, with_bits_of, seen_below}
use Rattle.sound.specs.Promises.{ClearIsFree, SomeAreClear, SomeShareABit}
use Rattle.table.specs.declared.Table.{Table}
use Rattle.sound.proofs.Checking.{clash_at}
use Rattle.sound.proofs.Exact.{Clash, same_name, same_arrival, both_run, both_aca, alike_clash}

-- ---- a bit set

-- a bit of a word stays set
with_keeps : (w i j : ℕ) → i < 64 → is_live w j ≡ true → is_live (with_bit w i) j ≡ true
with_keeps w i j l h = elim (ℕ_discrete j i) [ yes q ↦ rw q (with_same w i l) | no n ↦ with_other w i j n ∙ h ]

-- what is read of a list that was written at i: what was there, or what was written
written : (l : List ℕ) (i j a : ℕ) → (get_or (set l i a) j 0 ≡ get_or l j 0) ⊎ ((j ≡ i) × (get_or (set l i a) j 0 ≡ a))
written l i j a = elim (ℕ_discrete j i) [
  | no n ↦ inl (get_or-set_other l i j a 0 n)
  | yes q ↦ elim (lt_or_le i (length l)) [
    | inl h ↦ inr (q, rw q (get_or-set_same l i a 0 h))
    | inr h ↦ inl (rw (set_out l i a h))
  ]
]

module _ (seen : List ℕ) where
  -- the word of a bit, and the word with the bit set
  abbrev word_of : ℕ → ℕ
  word_of k = get_or seen (k / 64) 0

  abbrev word_with : ℕ → ℕ
  word_with k = with_bit (word_of k) (k % 64)

  pub set_is_seen : (k : ℕ) → k / 64 < length seen → is_seen (with_seen seen k) k ≡ true
  set_is_seen k h =
      ap (λ (w : ℕ). is_live w (k % 64)) (get_or-set_same seen (k / 64) (word_with k) 0 h)
      ∙ with_same (word_of k) (k % 64) (omega arith)

  pub seen_stays : (m k : ℕ) → is_seen seen k ≡ true → is_seen (with_seen seen m) k ≡ true
  seen_stays m k h = elim (written seen (m / 64) (k / 64) (word_with m)) [
    | inl e ↦ ap (λ (w : ℕ). is_live w (k % 64)) e ∙ h
    | inr e ↦
        let g : is_live (word_of m) (k % 64) ≡ true = rw e.0 at h in
        ap (λ (w : ℕ). is_live w (k % 64)) e.1 ∙ with_keeps (word_of m) (m % 64) (k % 64) (omega arith) g
  ]

  pub seen_stays_if : (b : Bool) (m k : ℕ) → is_seen seen k ≡ true → is_seen (with_seen_if b seen m) k ≡ true
  seen_stays_if true m k h = seen_stays m k h
  seen_stays_if false m k h = h

  pub length_with : (b : Bool) (k : ℕ) → length (with_seen_if b seen k) ≡ length seen
  length_with true k = length-set seen (k / 64) (word_with k)
  length_with false k = refl

-- ---- a task's bits

-- each bit that is the task's is set
pub record AllSet (seen : List ℕ) (a : Task) : Type 0 where
  pub name : is_seen seen (name_bit a) ≡ true
  pub number : is_seen seen (number_bit a) ≡ true
  pub running : is_running a.phase ≡ true → is_seen seen (running_bit a) ≡ true
  pub aca : is_aca a.kind ≡ true → is_seen seen (aca_bit a) ≡ true

module _ (seen : List ℕ) (a : Task) where
  -- the map after the first of the four, after the second and after the third
  abbrev named : List ℕ
  named = with_seen seen (name_bit a)

  abbrev numbered : List ℕ
  numbered = with_seen named (number_bit a)

  abbrev with_running : List ℕ
  with_running = with_seen_if (is_running a.phase) numbered (running_bit a)

  length_named : length named ≡ length seen
  length_named = length_with seen true (name_bit a)

  length_numbered : length numbered ≡ length seen
  length_numbered = length_with named true (number_bit a) ∙ length_named

  length_running : length with_running ≡ length seen
  length_running = length_with numbered (is_running a.phase) (running_bit a) ∙ length_numbered

  pub length_bits : length (with_bits_of seen a) ≡ length seen
  unfolding with_bits_of
  length_bits = length_with with_running (is_aca a.kind) (aca_bit a) ∙ length_running

  from_running : (k : ℕ) → is_seen with_running k ≡ true → is_seen (with_bits_of seen a) k ≡ true
  unfolding with_bits_of
  from_running k = seen_stays_if with_running (is_aca a.kind) (aca_bit a) k

  from_numbered : (k : ℕ) → is_seen numbered k ≡ true → is_seen (with_bits_of seen a) k ≡ true
  from_numbered k h = from_running k (seen_stays_if numbered (is_running a.phase) (running_bit a) k h)

  from_named : (k : ℕ) → is_seen named k ≡ true → is_seen (with_bits_of seen a) k ≡ true
  from_named k h = from_numbered k (seen_stays named (number_bit a) k h)

  pub bits_stay : (k : ℕ) → is_seen seen k ≡ true → is_seen (with_bits_of seen a) k ≡ true
  bits_stay k h = from_named k (seen_stays seen (name_bit a) k h)

  pub bits_set : length seen ≡ 17 → AllSet (with_bits_of seen a) a
  unfolding with_bits_of
  bits_set e = record {
    name = from_named (name_bit a) (set_is_seen seen (name_bit a) (omega arith));
    number = from_numbered (number_bit a) (set_is_seen named (number_bit a) (omega (arith, length_named)));
    running = λ h.
        from_running (running_bit a) (rw h (set_is_seen numbered (running_bit a) (omega (arith, length_numbered))));
    aca = λ h. rw h (set_is_seen with_running (aca_bit a) (omega (arith, length_running)));
  }

  pub all_stays : (b : Task) → AllSet seen b → AllSet (with_bits_of seen a) b
  all_stays b s = record {
    name = bits_stay (name_bit b) s.name;
    number = bits_stay (number_bit b) s.number;
    running = λ h. bits_stay (running_bit b) (s.running h);
    aca = λ h. bits_stay (aca_bit b) (s.aca h);
  }

-- ---- the bits of the live records below a place

module _ (t : Table) where
  pub length_below : (i : ℕ) → length (seen_below t i) ≡ 17
  unfolding seen_below
  length_below zero = refl
  length_below (suc i) =
      cond_ind (λ (l : List ℕ). length l ≡ 17) (is_live t.live i)
      (λ _. length_bits (seen_below t i) (task_at t i) ∙ length_below i) (λ _. length_below i)

  pub below_all_set : (i j : ℕ) → j < i → is_live t.live j ≡ true → AllSet (seen_below t i) (task_at t j)
  unfolding seen_below
  below_all_set zero j l h = absurd (omega arith)
  below_all_set (suc i) j l h =
      ⊎_elim
      (λ (q : j ≡ i).
      let k : is_live t.live i ≡ true = rw q at h in
      rw (k, q) (bits_set (seen_below t i) (task_at t i) (length_below i)))
      (λ m.
      let s : AllSet (seen_below t i) (task_at t j) = below_all_set i j m h in
      cond_ind (λ (l : List ℕ). AllSet l (task_at t j)) (is_live t.live i)
      (λ _. all_stays (seen_below t i) (task_at t i) (task_at t j) s) (λ _. s)) (below_suc l)

-- ---- where none of a task's bits is set, no live record below clashes with it

clash_seen : (seen : List ℕ) (a b : Task) → AllSet seen b → Clash a b → may_clash seen a ≡ true
unfolding may_clash
clash_seen seen a b s (same_name p q) = rw (p, q, s.name)
clash_seen seen a b s (same_arrival p) = rw (p, s.number, or-true)
clash_seen seen a b s (both_run h l p) = rw (p, h, s.running l, or-true, or-true)
clash_seen seen a b s (both_aca h l p) = rw (p, h, s.aca l, or-true, or-true, or-true)

pub clear_is_free : ClearIsFree
clear_is_free t i j a e l h =
    let b = task_at t j in
    elim (either_way (alike a b)) [
      | inl k ↦ absurd (never (clash_seen (seen_below t i) a b (below_all_set t i j l h) (alike_clash a b k)) e)
      | inr k ↦ k
    ]

-- what the walk asks of a record: where its bits are clear, and where it is not live
module _ (t : Table) (i : ℕ) where
  pub clear_below : may_clash (seen_below t i) (task_at t i) ≡ false → some_below i (clash_at t i) ≡ false
  clear_below e = some_none i (clash_at t i) (λ j l. elim (either_way (is_live t.live j)) [
    | inl h ↦ ap (λ (b : Bool). b && (is_live t.live i && is_live t.live j)) (clear_is_free t i j (task_at t i) e l h)
    | inr h ↦ rw (h, and-false (is_live t.live i)) (and-false (alike (task_at t i) (task_at t j)))
  ])

  pub dead_below : is_live t.live i ≡ false → some_below i (clash_at t i) ≡ false
  dead_below h = some_none i (clash_at t i) (λ j l. rw h (and-false (alike (task_at t i) (task_at t j))))

-- ---- sound tables of two commands of path 0, with tag 0000h and another

unfoldable computing : Unit {0}
unfolding first some_below all_below lowest_free with_bit zero_table has_room accepted place_of bad_list fresh_paths paths_of fresh_table setup_table count_ok paths_distinct unused_zero records_ok units_ok clashes sound_of may_clash with_bits_of seen_below
computing = tt

two : ℕ → Table
two tag = accepted (accepted (setup_table (1 ∷ []) 1 1) 0 0 0 Simple End) 0 tag 0 Simple End

pub some_are_clear : SomeAreClear
unfolding computing two
some_are_clear = record { table = two 1; sound = refl; lower = refl; upper = refl; bits = refl }

pub some_share_a_bit : SomeShareABit
unfolding computing two
some_share_a_bit = record { table = two 512; sound = refl; lower = refl; upper = refl; bits = refl }
