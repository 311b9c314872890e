-- Places below a bound: the first that a test picks, whether it picks some, or all; how many; the map of them; sums
-- and lists by place.
use Rattle.std.specs.Prelude.{ℕ, zero, suc, ◌+◌, ◌*◌, Bool, true, false, cond, ◌||◌, ◌&&◌, List, [], ◌∷◌}

-- the least place below n that p picks, or n
unfoldable pub first : ℕ → (ℕ → Bool) → ℕ
first zero p = zero
first (suc n) p = cond (p zero) zero (suc (first n (λ i. p (suc i))))

-- whether p picks some place below n
unfoldable pub some_below : ℕ → (ℕ → Bool) → Bool
some_below zero p = false
some_below (suc n) p = some_below n p || p n

-- whether p picks every place below n
unfoldable pub all_below : ℕ → (ℕ → Bool) → Bool
all_below zero p = true
all_below (suc n) p = all_below n p && p n

-- the sum of f over the places below n
unfoldable pub sum : ℕ → (ℕ → ℕ) → ℕ
sum zero f = zero
sum (suc n) f = sum n f + f n

abbrev pub one : Bool → ℕ
one true = 1
one false = 0

-- how many places below n p picks
abbrev pub count : ℕ → (ℕ → Bool) → ℕ
count n p = sum n (λ i. one (p i))

-- the bit map of the places below n that p picks
unfoldable pub map_of : ℕ → (ℕ → Bool) → ℕ
map_of zero p = zero
map_of (suc n) p = one (p zero) + 2 * map_of n (λ i. p (suc i))

-- each element, with its place counted from i, through f
unfoldable pub map_at : {A : Type 0} → (ℕ → A → A) → ℕ → List A → List A
map_at f i [] = []
map_at f i (x ∷ xs) = f i x ∷ map_at f (suc i) xs
