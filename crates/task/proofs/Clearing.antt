-- A pass over the places that clears the bits that a test picks: `clear_below k p live` is the map after k of them.
-- Assumes nothing.
use Prim.Native.Nat.{ℕ, zero, suc, ◌+◌, ◌^◌, ◌≤◌, ◌<◌}
use mathlib.Core.Path.{◌≡◌, refl, sym, ap, ◌∙◌}
use mathlib.Core.Bool.{Bool, true, false, cond, not, ◌&&◌, and-true, and-false}
use mathlib.Core.Logic.{⊎_elim}
use native.Mathlib.Nat.{le_trans, lt_of_le_of_lt}
use native.Mathlib.Numerals.{add-one}
use native.Mathlib.Omega.{arith}
use Rattle.task.specs.Index.{map_of}
use Rattle.task.specs.Map.{is_live, without_bit}
use Rattle.wire.proofs.Table.{cond_ind}
use Rattle.task.proofs.Places.{below_suc}
use Rattle.task.proofs.Bits.{is_map_of}
use Rattle.task.proofs.Maps.{without_same, without_other, without_le}

same : (b : Bool) (x k : ℕ) → k < 64 → is_live (cond b (without_bit x k) x) k ≡ (is_live x k && not b)
same true x k l = without_same x k l ∙ sym (and-false (is_live x k))
same false x k l = sym (and-true (is_live x k))

module _ (p : ℕ → Bool) (live : ℕ) where
  unfoldable pub clear_below : ℕ → ℕ
  clear_below zero = live
  clear_below (suc k) = cond (p k) (without_bit (clear_below k) k) (clear_below k)

  pub clear_zero : clear_below 0 ≡ live
  unfolding clear_below
  clear_zero = refl

  pub clear_step : (k : ℕ) → p k ≡ true → without_bit (clear_below k) k ≡ clear_below (k + 1)
  unfolding clear_below
  clear_step k e = rw (add-one, e)

  pub clear_skip : (k : ℕ) → p k ≡ false → clear_below k ≡ clear_below (k + 1)
  unfolding clear_below
  clear_skip k e = rw (add-one, e)

  pub clear_le : (k : ℕ) → clear_below k ≤ live
  unfolding clear_below
  clear_le zero = omega arith
  clear_le (suc k) =
      cond_ind (λ (m : ℕ). m ≤ live) (p k) (λ _. le_trans (without_le (clear_below k) k) (clear_le k)) (λ _. clear_le k)

  other : (k i : ℕ) → i < 64 → (i ≡ k → ⊥) → is_live (clear_below (suc k)) i ≡ is_live (clear_below k) i
  unfolding clear_below
  other k i m n =
      cond_ind (λ (x : ℕ). is_live x i ≡ is_live (clear_below k) i) (p k) (λ _. without_other (clear_below k) k i m n) (λ _. refl)

  -- a place that is not passed is as it was
  pub clear_ahead : (k i : ℕ) → k ≤ i → i < 64 → is_live (clear_below k) i ≡ is_live live i
  unfolding clear_below
  clear_ahead zero i l m = refl
  clear_ahead (suc k) i l m = other k i m (omega arith) ∙ clear_ahead k i (omega arith) m

  -- one that is passed is live where it was and is not picked
  pub clear_passed : (k i : ℕ) → i < k → i < 64 → is_live (clear_below k) i ≡ (is_live live i && not (p i))
  unfolding clear_below
  clear_passed zero i l m = absurd (omega arith)
  clear_passed (suc k) i l m =
      ⊎_elim
      (λ e. rw e (same (p k) (clear_below k) k (omega arith) ∙ ap (λ (b : Bool). b && not (p k)) (clear_ahead k k (omega arith) (omega arith))))
      (λ h. other k i m (omega arith) ∙ clear_passed k i h m) (below_suc l)

  pub clear_all : live < 2 ^ 64 → clear_below 64 ≡ map_of 64 (λ i. is_live live i && not (p i))
  clear_all h =
      is_map_of 64 (clear_below 64) (λ i. is_live live i && not (p i)) (lt_of_le_of_lt (clear_le 64) h) (λ i l. clear_passed 64 i l l)
