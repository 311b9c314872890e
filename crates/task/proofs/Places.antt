-- Laws of places below a bound: `first`, `some`, `all`, `sum` and `map_of`, by what holds at each place. Assumes
-- nothing.
use Prim.Native.Nat.{ℕ, zero, suc, ◌+◌, ◌≤◌, ◌<◌, suc-le-suc}
use mathlib.Core.Path.{◌≡◌, refl, sym, ap, ap₂, ◌∙◌}
use mathlib.Core.Bool.{Bool, true, false, cond, ◌||◌, ◌&&◌, or-true, and-false}
use mathlib.Core.Logic.{◌⊎◌, inl, inr, ⊎_elim}
use native.Mathlib.Nat.{le_of_suc-le-suc, eq-or-lt_of_le}
use native.Mathlib.Omega.{arith}
use lib.Dec.{ltb}
use borrow.Author.Tests.{ltb-true, ltb-false}
use Rattle.task.specs.Index.{first, some_below, all_below, sum, one, map_of}
use Rattle.wire.proofs.Table.{cond_ind}
use Rattle.task.proofs.Ways.{either_way, never}

-- a place below n + 1 is n, or below n
pub below_suc : {i n : ℕ} → i < suc n → (i ≡ n) ⊎ (i < n)
below_suc h = eq-or-lt_of_le (le_of_suc-le-suc h)

pub lt_or_le : (i k : ℕ) → (i < k) ⊎ (k ≤ i)
lt_or_le i k = elim (either_way (ltb i k)) [ inl h ↦ inl (ltb-true i k h) | inr h ↦ inr (ltb-false i k h) ]

-- ---- first

before_step : (p : ℕ → Bool) (x i : ℕ) → p zero ≡ false → ((k : ℕ) → k < x → p (suc k) ≡ false) → i < suc x → p i ≡ false
before_step p x zero e r l = e
before_step p x (suc i) e r l = r i (le_of_suc-le-suc l)

-- nothing is picked before the first
pub first_before : (n i : ℕ) (p : ℕ → Bool) → i < first n p → p i ≡ false
unfolding first
first_before zero i p l = absurd (omega arith)
first_before (suc n) i p l =
    cond_ind (λ (x : ℕ). i < x → p i ≡ false) (p zero) (λ _ m. absurd (omega arith))
    (λ e. before_step p (first n (λ k. p (suc k))) i e (λ k m. first_before n k (λ k. p (suc k)) m)) l

-- the first is picked, where it is below the bound
pub first_picks : (n : ℕ) (p : ℕ → Bool) → first n p < n → p (first n p) ≡ true
unfolding first
first_picks zero p l = absurd (omega arith)
first_picks (suc n) p l =
    cond_ind (λ (x : ℕ). x < suc n → p x ≡ true) (p zero) (λ e _. e) (λ _ m. first_picks n (λ k. p (suc k)) (le_of_suc-le-suc m)) l

-- a place that is picked, with none before it, is the first
pub first_is : (n i : ℕ) (p : ℕ → Bool) → i < n → p i ≡ true → ((k : ℕ) → k < i → p k ≡ false) → first n p ≡ i
unfolding first
first_is zero i p l h b = absurd (omega arith)
first_is (suc n) zero p l h b = rw h
first_is (suc n) (suc i) p l h b =
    rw (b zero (omega arith)) (ap suc (first_is n i (λ k. p (suc k)) (le_of_suc-le-suc l) h (λ k m. b (suc k) (suc-le-suc m))))

-- it is the bound where none is picked, and only there
pub first_none : (n : ℕ) (p : ℕ → Bool) → ((k : ℕ) → k < n → p k ≡ false) → first n p ≡ n
unfolding first
first_none zero p b = refl
first_none (suc n) p b = rw (b zero (omega arith)) (ap suc (first_none n (λ k. p (suc k)) (λ k m. b (suc k) (suc-le-suc m))))

pub first_ext : (n : ℕ) (p q : ℕ → Bool) → ((i : ℕ) → i < n → p i ≡ q i) → first n p ≡ first n q
unfolding first
first_ext zero p q h = refl
first_ext (suc n) p q h =
    ap₂ (λ (b : Bool) (x : ℕ). cond b zero (suc x)) (h zero (omega arith)) (first_ext n (λ k. p (suc k)) (λ k. q (suc k)) (λ i l. h (suc i) (suc-le-suc l)))

-- ---- some

pub some_at : (n i : ℕ) (p : ℕ → Bool) → i < n → p i ≡ true → some_below n p ≡ true
unfolding some_below
some_at zero i p l e = absurd (omega arith)
some_at (suc n) i p l e =
    ⊎_elim (λ q. ap (λ (b : Bool). some_below n p || b) (ap p (sym q) ∙ e) ∙ or-true (some_below n p))
    (λ m. ap (λ (b : Bool). b || p n) (some_at n i p m e)) (below_suc l)

pub some_find : (n : ℕ) (p : ℕ → Bool) → some_below n p ≡ true → (i : ℕ) × (i < n) × (p i ≡ true)
unfolding some_below
some_find zero p e = absurd (never e refl)
some_find (suc n) p e = elim (either_way (p n)) [
  | inl h ↦ (n, omega arith, h)
  | inr h ↦ let r : (i : ℕ) × (i < n) × (p i ≡ true) = some_find n p (last (some_below n p) h e) in (r.0, omega (arith, r.1), r.2)
]
  where
    last : (b : Bool) {c : Bool} → c ≡ false → (b || c) ≡ true → b ≡ true
    last true h e = refl
    last false h e = sym h ∙ e

pub some_none : (n : ℕ) (p : ℕ → Bool) → ((i : ℕ) → i < n → p i ≡ false) → some_below n p ≡ false
unfolding some_below
some_none zero p h = refl
some_none (suc n) p h = ap₂ ◌||◌ (some_none n p (λ i l. h i (omega arith))) (h n (omega arith))

pub none_at : (n i : ℕ) (p : ℕ → Bool) → some_below n p ≡ false → i < n → p i ≡ false
none_at n i p e l = elim (either_way (p i)) [ inl h ↦ absurd (never (some_at n i p l h) e) | inr h ↦ h ]

pub some_ext : (n : ℕ) (p q : ℕ → Bool) → ((i : ℕ) → i < n → p i ≡ q i) → some_below n p ≡ some_below n q
unfolding some_below
some_ext zero p q h = refl
some_ext (suc n) p q h = ap₂ ◌||◌ (some_ext n p q (λ i l. h i (omega arith))) (h n (omega arith))

-- ---- all

pub all_of : (n : ℕ) (p : ℕ → Bool) → ((i : ℕ) → i < n → p i ≡ true) → all_below n p ≡ true
unfolding all_below
all_of zero p h = refl
all_of (suc n) p h = ap₂ ◌&&◌ (all_of n p (λ i l. h i (omega arith))) (h n (omega arith))

pub all_off : (n i : ℕ) (p : ℕ → Bool) → i < n → p i ≡ false → all_below n p ≡ false
unfolding all_below
all_off zero i p l e = absurd (omega arith)
all_off (suc n) i p l e =
    ⊎_elim (λ q. ap (λ (b : Bool). all_below n p && b) (ap p (sym q) ∙ e) ∙ and-false (all_below n p))
    (λ m. ap (λ (b : Bool). b && p n) (all_off n i p m e)) (below_suc l)

pub all_at : (n i : ℕ) (p : ℕ → Bool) → all_below n p ≡ true → i < n → p i ≡ true
all_at n i p e l = elim (either_way (p i)) [ inl h ↦ h | inr h ↦ absurd (never e (all_off n i p l h)) ]

-- ---- sum

pub sum_ext : (n : ℕ) (f g : ℕ → ℕ) → ((i : ℕ) → i < n → f i ≡ g i) → sum n f ≡ sum n g
unfolding sum
sum_ext zero f g h = refl
sum_ext (suc n) f g h = ap₂ ◌+◌ (sum_ext n f g (λ i l. h i (omega arith))) (h n (omega arith))

pub sum_zero : (n : ℕ) (f : ℕ → ℕ) → ((i : ℕ) → i < n → f i ≡ 0) → sum n f ≡ 0
unfolding sum
sum_zero zero f h = refl
sum_zero (suc n) f h = omega (arith, sum_zero n f (λ i l. h i (omega arith)), h n (omega arith))

-- no place weighs more than the sum, so a sum that is 0 is 0 at each place
pub sum_at : (n i : ℕ) (f : ℕ → ℕ) → i < n → f i ≤ sum n f
unfolding sum
sum_at zero i f l = absurd (omega arith)
sum_at (suc n) i f l = ⊎_elim (λ e. rw e (omega arith)) (λ m. omega (arith, sum_at n i f m)) (below_suc l)

-- f and g differ at k alone
pub sum_change : (n k : ℕ) (f g : ℕ → ℕ) → k < n → ((i : ℕ) → i < n → (i ≡ k → ⊥) → f i ≡ g i) → sum n f + g k ≡ sum n g + f k
unfolding sum
sum_change zero k f g l h = absurd (omega arith)
sum_change (suc n) k f g l h =
    ⊎_elim (λ e. rw e (omega (arith, sum_ext n f g (λ i m. h i (omega arith) (λ q. absurd (omega arith))))))
    (λ m. omega (arith, sum_change n k f g m (λ i r. h i (omega arith)), h n (omega arith) (λ q. absurd (omega arith)))) (below_suc l)

-- the sum from the lowest place up
pub sum_suc : (n : ℕ) (f : ℕ → ℕ) → sum (suc n) f ≡ f zero + sum n (λ i. f (suc i))
unfolding sum
sum_suc zero f = omega arith
sum_suc (suc n) f = ap (λ (x : ℕ). x + f (suc n)) (sum_suc n f) ∙ omega arith

-- ---- map_of

pub map_of_ext : (n : ℕ) (p q : ℕ → Bool) → ((i : ℕ) → i < n → p i ≡ q i) → map_of n p ≡ map_of n q
unfolding map_of
map_of_ext zero p q h = refl
map_of_ext (suc n) p q h =
    omega (arith, ap one (h zero (omega arith)), map_of_ext n (λ i. p (suc i)) (λ i. q (suc i)) (λ i l. h (suc i) (suc-le-suc l)))
