-- Laws of `map_at`, and of a loop that rewrites an array in place: `map_below k f l` is l with f through its first k
-- elements. Assumes nothing.
use Prim.Native.Nat.{ℕ, zero, suc, ◌+◌, ◌≤◌, ◌<◌}
use mathlib.Core.Path.{◌≡◌, refl, sym, ap, ◌∙◌}
use mathlib.Core.Bool.{cond}
use mathlib.Core.List.{List, [], ◌∷◌}
use mathlib.Core.Logic.{⊎_elim}
use native.Mathlib.Decide.{ℕ_discrete}
use native.Mathlib.Omega.{arith}
use lib.Dec.{ltb}
use lib.ListN.{length, get_or, set, length-set, get_or-eq_default}
use lib.Seq.{ext_get_or, get_or-set_same, get_or-set_other}
use borrow.Author.Tests.{lt-ltb, le-ltb}
use Rattle.task.specs.Index.{map_at}
use Rattle.task.proofs.Places.{lt_or_le}

module _ {A : Type 0} where
  pub length_map_at : (f : ℕ → A → A) (i : ℕ) (l : List A) → length (map_at f i l) ≡ length l
  unfolding map_at
  length_map_at f i [] = refl
  length_map_at f i (x ∷ l) = ap suc (length_map_at f (suc i) l)

  -- counted from i
  pub get_d_map_at_from : (f : ℕ → A → A) (i k : ℕ) (l : List A) (d : A) → k < length l → get_or (map_at f i l) k d ≡ f (i + k) (get_or l k d)
  unfolding map_at
  get_d_map_at_from f i k [] d h = absurd (omega arith)
  get_d_map_at_from f i zero (x ∷ l) d h = ap (λ (n : ℕ). f n x) (omega arith)
  get_d_map_at_from f i (suc k) (x ∷ l) d h =
      get_d_map_at_from f (suc i) k l d (omega arith) ∙ ap (λ (n : ℕ). f n (get_or l k d)) (omega arith)

  pub get_d_map_at : (f : ℕ → A → A) (k : ℕ) (l : List A) (d : A) → k < length l → get_or (map_at f 0 l) k d ≡ f k (get_or l k d)
  get_d_map_at f k l d h = get_d_map_at_from f 0 k l d h ∙ ap (λ (n : ℕ). f n (get_or l k d)) (omega arith)

  -- the list is told by its elements
  pub is_map_at : (f : ℕ → A → A) (l m : List A) (d : A) → length m ≡ length l → ((k : ℕ) → k < length l → get_or m k d ≡ f k (get_or l k d)) → m ≡ map_at f 0 l
  is_map_at f l m d e h =
      ext_get_or d m (map_at f 0 l) (e ∙ sym (length_map_at f 0 l))
      (λ k b. let b : k < length l = omega arith in h k b ∙ sym (get_d_map_at f k l d b))

  abbrev below : ℕ → (ℕ → A → A) → ℕ → A → A
  below k f i x = cond (ltb i k) (f i x) x

  unfoldable pub map_below : ℕ → (ℕ → A → A) → List A → List A
  map_below k f l = map_at (below k f) 0 l

  pub length_map_below : (k : ℕ) (f : ℕ → A → A) (l : List A) → length (map_below k f l) ≡ length l
  unfolding map_below
  length_map_below k f l = length_map_at (below k f) 0 l

-- ---- the loop: it starts with l, each turn rewrites element k or leaves it, and at the end it is the map over all

module _ {A : Type 0} (f : ℕ → A → A) (l : List A) (d : A) where
  -- an element that the loop has passed, and one that it has not
  pub map_below_passed : (k i : ℕ) → i < k → i < length l → get_or (map_below k f l) i d ≡ f i (get_or l i d)
  unfolding map_below
  map_below_passed k i h b = get_d_map_at (below k f) i l d b ∙ rw (lt-ltb i k h)

  pub map_below_ahead : (k i : ℕ) → k ≤ i → get_or (map_below k f l) i d ≡ get_or l i d
  unfolding map_below
  map_below_ahead k i h =
      ⊎_elim (λ b. get_d_map_at (below k f) i l d b ∙ rw (le-ltb i k h))
      (λ b. get_or-eq_default (map_below k f l) d (omega (arith, length_map_below k f l)) ∙ sym (get_or-eq_default l d b)) (lt_or_le i (length l))

  pub map_below_zero : map_below 0 f l ≡ l
  map_below_zero = ext_get_or d (map_below 0 f l) l (length_map_below 0 f l) (λ i _. map_below_ahead 0 i (omega arith))

  elsewhere : (k i : ℕ) → (i ≡ k → ⊥) → i < length l → get_or (map_below k f l) i d ≡ get_or (map_below (k + 1) f l) i d
  elsewhere k i n b =
      ⊎_elim (λ h. map_below_passed k i h b ∙ sym (map_below_passed (k + 1) i (omega arith) b))
      (λ h. map_below_ahead k i h ∙ sym (map_below_ahead (k + 1) i (omega arith))) (lt_or_le i k)

  -- a list that has f k at k, and is as before elsewhere
  next : (k : ℕ) (m : List A) → length m ≡ length l → (k < length l → get_or m k d ≡ f k (get_or l k d))
      → ((i : ℕ) → (i ≡ k → ⊥) → get_or m i d ≡ get_or (map_below k f l) i d) → m ≡ map_below (k + 1) f l
  next k m e h o =
      ext_get_or d m (map_below (k + 1) f l) (e ∙ sym (length_map_below (k + 1) f l))
      (λ i c.
      let b : i < length l = omega arith in
      elim (ℕ_discrete i k) [
        | yes q ↦ let g : k < length l = omega arith in rw q (h g ∙ sym (map_below_passed (k + 1) k (omega arith) g))
        | no n ↦ o i n ∙ elsewhere k i n b
      ])

  pub map_below_step : (k : ℕ) → k < length l → set (map_below k f l) k (f k (get_or l k d)) ≡ map_below (k + 1) f l
  map_below_step k h =
      next k (set (map_below k f l) k (f k (get_or l k d))) (length-set (map_below k f l) k (f k (get_or l k d)) ∙ length_map_below k f l)
      (λ b. get_or-set_same (map_below k f l) k (f k (get_or l k d)) d (omega (arith, length_map_below k f l)))
      (λ i n. get_or-set_other (map_below k f l) k i (f k (get_or l k d)) d n)

  -- what is written may be worked out from the element as the loop reads it
  pub map_below_put : {x : A} (k : ℕ) → k < length l → x ≡ f k (get_or (map_below k f l) k d) → set (map_below k f l) k x ≡ map_below (k + 1) f l
  map_below_put k h e =
      ap (set (map_below k f l) k) (e ∙ ap (f k) (map_below_ahead k k (omega arith))) ∙ map_below_step k h

  pub map_below_skip : (k : ℕ) → f k (get_or l k d) ≡ get_or l k d → map_below k f l ≡ map_below (k + 1) f l
  map_below_skip k e = next k (map_below k f l) (length_map_below k f l) (λ _. map_below_ahead k k (omega arith) ∙ sym e) (λ _ _. refl)

  pub map_below_all : (n : ℕ) → length l ≡ n → map_below n f l ≡ map_at f 0 l
  map_below_all n e = is_map_at f l (map_below n f l) d (length_map_below n f l) (λ k b. map_below_passed n k (omega arith) b)
