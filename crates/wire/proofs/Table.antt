-- A rule of a table, proved at all of its entries by one test that antt computes; and choices by a test, taken apart.
-- Assumes nothing.
use Prim.Native.Nat.{ℕ, zero, suc, ◌≤◌, zero-le, suc-le-suc}
use mathlib.Core.Path.{◌≡◌, refl}
use mathlib.Core.Bool.{Bool, true, false, cond, ◌&&◌, ◌||◌, and-eq-true_iff, true≢false}
use mathlib.Core.List.{List, [], ◌∷◌}
use lib.ListN.{length, get_or}

module _ {A : Type 0} where
  -- the test f passes at each entry of the list and its place
  abbrev pub every : (ℕ → A → Bool) → List A → Bool
  every f [] = true
  every f (x ∷ xs) = f 0 x && every (λ i. f (suc i)) xs

  -- then it passes at every place, if it does at those past the end, where d is read
  pub at : (d : A) (f : ℕ → A → Bool) (xs : List A) → every f xs ≡ true → (k : ℕ) → (length xs ≤ k → f k d ≡ true) → f k (get_or xs k d) ≡ true
  at d f [] t k past = past zero-le
  at d f (x ∷ xs) t zero past = ((and-eq-true_iff (f 0 x) (every (λ i. f (suc i)) xs)).0 t).0
  at d f (x ∷ xs) t (suc k) past =
      at d (λ i. f (suc i)) xs ((and-eq-true_iff (f 0 x) (every (λ i. f (suc i)) xs)).0 t).1 k (λ h. past (suc-le-suc h))

-- what is chosen by a test, in each of its two cases
pub cond_ind : {A : Type 0} (P : A → Type 0) (b : Bool) {x y : A} → (b ≡ true → P x) → (b ≡ false → P y) → P (cond b x y)
cond_ind P true f g = f refl
cond_ind P false f g = g refl

-- two choices by one test
pub cond_same : {A : Type 0} (b : Bool) {x y u v : A} → (b ≡ true → x ≡ u) → (b ≡ false → y ≡ v) → cond b x y ≡ cond b u v
cond_same true f g = f refl
cond_same false f g = g refl

pub neither : (a b : Bool) → (a || b) ≡ false → (a ≡ false) × (b ≡ false)
neither true b e = absurd (true≢false e)
neither false b e = (refl, e)
