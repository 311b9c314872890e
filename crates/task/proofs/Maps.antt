-- Laws of the map of live records: a bit set or cleared, the lowest free place, what is live no more.
-- Assumes nothing.
use Prim.Native.Nat.{ℕ, ◌-◌, ◌^◌, ◌≤◌, ◌<◌}
use mathlib.Core.Path.{◌≡◌, refl, sym, ap, ◌∙◌}
use mathlib.Core.Bool.{Bool, true, false, not, ◌||◌, ◌&&◌, or-true, or-false, and-true, and-false}
use native.Mathlib.Omega.{arith}
use lib.Dec.{ltb, lit<}
use lib.Pow.{pow-lt}
use lib.Bits.{or_lt, and_le_l}
use borrow.Author.Tests.{lt-ltb, ltb-true, not-true}
use Rattle.task.specs.Map.{is_live, is_free, lowest_free, with_bit, without_bit, gone}
use Rattle.wire.proofs.Table.{cond_ind}
use Rattle.task.proofs.Places.{first_picks}
use Rattle.task.proofs.Bits.{dead_zero, live_and, live_or, live_not, live_pow_same, live_pow_other, live_map_of, is_map_of}

-- ---- a bit set

pub with_same : (live i : ℕ) → i < 64 → is_live (with_bit live i) i ≡ true
unfolding with_bit
with_same live i l = rw (lt-ltb i 64 l) (live_or live (2 ^ i) i ∙ ap (λ (b : Bool). is_live live i || b) (live_pow_same i) ∙ or-true (is_live live i))

pub with_other : (live i j : ℕ) → (j ≡ i → ⊥) → is_live (with_bit live i) j ≡ is_live live j
unfolding with_bit
with_other live i j n =
    cond_ind (λ (m : ℕ). is_live m j ≡ is_live live j) (ltb i 64)
    (λ _. live_or live (2 ^ i) j ∙ ap (λ (b : Bool). is_live live j || b) (live_pow_other i j n) ∙ or-false (is_live live j)) (λ _. refl)

pub with_lt : (live i : ℕ) → live < 2 ^ 64 → with_bit live i < 2 ^ 64
unfolding with_bit
with_lt live i h = cond_ind (λ (m : ℕ). m < 2 ^ 64) (ltb i 64) (λ l. or_lt 64 live (2 ^ i) h (pow-lt (ltb-true i 64 l))) (λ _. h)

-- ---- a bit cleared

-- the bit at j of what clears the bit at i
mask_at : (i j : ℕ) → i < 64 → j < 64 → is_live (2 ^ 64 - 1 - 2 ^ i) j ≡ not (is_live (2 ^ i) j)
mask_at i j l m = live_not 64 (2 ^ i) j (pow-lt l) m

pub without_same : (live i : ℕ) → i < 64 → is_live (without_bit live i) i ≡ false
unfolding without_bit
without_same live i l =
    rw (lt-ltb i 64 l)
    (live_and live (2 ^ 64 - 1 - 2 ^ i) i
    ∙ ap (λ (b : Bool). is_live live i && b) (mask_at i i l l ∙ ap not (live_pow_same i)) ∙ and-false (is_live live i))

pub without_other : (live i j : ℕ) → j < 64 → (j ≡ i → ⊥) → is_live (without_bit live i) j ≡ is_live live j
unfolding without_bit
without_other live i j l n =
    cond_ind (λ (m : ℕ). is_live m j ≡ is_live live j) (ltb i 64)
    (λ k.
    live_and live (2 ^ 64 - 1 - 2 ^ i) j
    ∙ ap (λ (b : Bool). is_live live j && b) (mask_at i j (ltb-true i 64 k) l ∙ ap not (live_pow_other i j n)) ∙ and-true (is_live live j))
    (λ _. refl)

pub without_le : (live i : ℕ) → without_bit live i ≤ live
unfolding without_bit
without_le live i = cond_ind (λ (m : ℕ). m ≤ live) (ltb i 64) (λ _. and_le_l live (2 ^ 64 - 1 - 2 ^ i)) (λ _. omega arith)

-- ---- the lowest free place

pub lowest_free_law : (live : ℕ) → lowest_free live < 64 → is_live live (lowest_free live) ≡ false
unfolding lowest_free
lowest_free_law live l = not-true _ (first_picks 64 (is_free live) l)

-- ---- what is live no more

pub gone_at : (before after i : ℕ) → i < 64 → is_live (gone before after) i ≡ (is_live before i && not (is_live after i))
unfolding gone
gone_at before after i l = live_map_of 64 i (λ j. is_live before j && is_free after j) l

-- where the map stays nothing is gone
pub gone_none : (live : ℕ) → gone live live ≡ 0
unfolding gone
gone_none live = sym (is_map_of 64 0 (λ i. is_live live i && is_free live i) (lit< tt) (λ i _. dead_zero i ∙ sym (not_both (is_live live i))))
  where
    not_both : (b : Bool) → (b && not b) ≡ false
    not_both true = refl
    not_both false = refl
