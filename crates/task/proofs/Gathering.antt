-- A pass over the places that gathers a number of each place that a test picks: `gathered k` is the map of the numbers
-- below 64 after k places. Assumes nothing.
--     gather_start, gather_more, gather_same      the turns of the loop;        low_byte      the numbers below 8, as a byte
use Prim.Native.Nat.{ℕ, ◌+◌, ◌%◌, ◌^◌, ◌<◌}
use mathlib.Core.Path.{◌≡◌, refl, sym, ap, ◌∙◌}
use mathlib.Core.Bool.{Bool, true, false, ◌||◌, ◌&&◌, or-true, or-false, and-true}
use mathlib.Core.Logic.{inl, inr}
use native.Mathlib.Nat.{mod-lt}
use native.Mathlib.Numerals.{add-one}
use native.Mathlib.Omega.{arith}
use lib.Dec.{eqb, lit<}
use lib.Bits.{and_mask}
use borrow.Author.Tests.{eqb-true, eqb-false}
use Rattle.task.specs.Index.{some_below, all_below, map_of}
use Rattle.task.specs.Map.{is_live, with_bit}
use Rattle.task.proofs.Ways.{either_way}
use Rattle.task.proofs.Places.{all_at}
use Rattle.task.proofs.Bits.{dead_zero, live_and, is_map_of, live_map_of, map_of_lt}
use Rattle.task.proofs.Maps.{with_same, with_other, with_lt}

module _ (test : ℕ → Bool) (key : ℕ → ℕ) where
  -- place i is picked, and its number is n
  abbrev pub keyed : ℕ → ℕ → Bool
  keyed n i = test i && eqb (key i) n

  unfoldable pub gathered : ℕ → ℕ
  gathered k = map_of 64 (λ n. some_below k (keyed n))

  pub gather_start : 0 ≡ gathered 0
  unfolding gathered some_below
  gather_start = is_map_of 64 0 (λ n. false) (lit< tt) (λ n _. dead_zero n)

  module _ {m : ℕ} (k : ℕ) (e : m ≡ gathered k) where
    gathered_lt : m < 2 ^ 64
    unfolding gathered
    gathered_lt = rw e (map_of_lt 64 (λ n. some_below k (keyed n)))

    gathered_bit : (n : ℕ) → n < 64 → is_live m n ≡ some_below k (keyed n)
    unfolding gathered
    gathered_bit n l = rw e (live_map_of 64 n (λ q. some_below k (keyed q)) l)

    module _ {b : Bool} (h : b ≡ test k) where
      -- the map with the number of place k, at each number
      grown : test k ≡ true → (n : ℕ) → n < 64 → is_live (with_bit m (key k)) n ≡ (some_below k (keyed n) || keyed n k)
      grown y n l =
          elim (either_way (eqb (key k) n)) [
            | inl q ↦ let z : key k ≡ n = eqb-true _ _ q in rw (y, q, z) (with_same m n l ∙ sym (or-true (some_below k (keyed n))))
            | inr q ↦ rw (y, q) (with_other m (key k) n (λ z. eqb-false _ _ q (sym z)) ∙ gathered_bit n l ∙ sym (or-false (some_below k (keyed n))))
          ]

      pub gather_more : {v : ℕ} → b ≡ true → v ≡ with_bit m (key k) → v ≡ gathered (k + 1)
      unfolding gathered some_below
      gather_more y d = d ∙ is_map_of 64 _ _ (with_lt m (key k) gathered_lt) (λ n l. rw add-one (grown (sym h ∙ y) n l))

      pub gather_same : {v : ℕ} → b ≡ false → v ≡ m → v ≡ gathered (k + 1)
      unfolding gathered some_below
      gather_same f d =
          let z : test k ≡ false = sym h ∙ f in
          d ∙ is_map_of 64 _ _ gathered_lt (λ n l. rw (add-one, z) (gathered_bit n l ∙ sym (or-false (some_below k (keyed n)))))

full_byte : (i : ℕ) → i < 8 → is_live 255 i ≡ true
unfolding all_below
full_byte i l = all_at 8 i (is_live 255) refl l

-- of a map its low byte, which has the places below 8
pub low_byte : (p : ℕ → Bool) → map_of 64 p % 256 ≡ map_of 8 p
low_byte p = is_map_of 8 (map_of 64 p % 256) p (mod-lt (map_of 64 p) (lit< tt)) low
  where
    low : (i : ℕ) → i < 8 → is_live (map_of 64 p % 256) i ≡ p i
    low i l =
        ap (λ (m : ℕ). is_live m i) (sym (and_mask (map_of 64 p) 8))
        ∙ live_and (map_of 64 p) 255 i ∙ rw (full_byte i l, live_map_of 64 i p (omega arith)) (and-true (p i))
