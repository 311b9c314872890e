-- Laws of totals over a list, and of the weight of a table's live tasks. Assumes nothing.
use Prim.Native.Nat.{ℕ, zero, suc, ◌+◌, ◌<◌, ◌≤◌}
use mathlib.Core.Path.{◌≡◌, refl, sym, ap}
use mathlib.Core.List.{List, [], ◌∷◌, ◌++◌, map}
use mathlib.Core.Logic.{inl, inr}
use mathlib.Core.Option.{Option, none, some, none-ne-some}
use native.Mathlib.Decide.{ℕ_discrete}
use native.Mathlib.Omega.{arith}
use Rattle.task.specs.Index.{sum}
use Rattle.task.specs.declared.Task.{Task}
use Rattle.task.proofs.Places.{lt_or_le, sum_at, sum_zero}
use Rattle.table.specs.Tables.{altered_at}
use Rattle.table.specs.View.{at, weight_at, weight}
use Rattle.sound.specs.Promises.{Good}
use Rattle.table.specs.declared.Table.{Table}
use Rattle.table.proofs.Views.{altered_at_law, altered_other}
use Rattle.table.proofs.Weights.{weight_ext}
use Rattle.history.specs.Trace.{nth}
use Rattle.history.specs.Ledger.{total}
use Rattle.history.proofs.Nth.{same_element}

-- ---- totals

module _ {A : Type 0} where
  pub total_ext : (f g : A → ℕ) → ((x : A) → f x ≡ g x) → (l : List A) → total f l ≡ total g l
  unfolding total
  total_ext f g h [] = refl
  total_ext f g h (x ∷ l) = omega (arith, h x, total_ext f g h l)

  pub total_le : (f g : A → ℕ) → ((x : A) → f x ≤ g x) → (l : List A) → total f l ≤ total g l
  unfolding total
  total_le f g h [] = omega arith
  total_le f g h (x ∷ l) = omega (arith, h x, total_le f g h l)

  pub total_add : (f g : A → ℕ) (l : List A) → total (λ x. f x + g x) l ≡ total f l + total g l
  unfolding total
  total_add f g [] = refl
  total_add f g (x ∷ l) = omega (arith, total_add f g l)

  pub total_append : (f : A → ℕ) (l m : List A) → total f (l ++ m) ≡ total f l + total f m
  unfolding total
  total_append f [] m = omega arith
  total_append f (x ∷ l) m = omega (arith, total_append f l m)

  pub total_map : (f : A → ℕ) (g : A → A) (l : List A) → total f (map g l) ≡ total (λ x. f (g x)) l
  unfolding total
  total_map f g [] = refl
  total_map f g (x ∷ l) = omega (arith, total_map f g l)

  -- an element, two elements, and an element that weighs something
  pub total_at : (f : A → ℕ) (l : List A) (k : ℕ) (x : A) → nth l k ≡ some x → f x ≤ total f l
  unfolding total nth
  total_at f [] k x e = absurd (none-ne-some x e)
  total_at f (y ∷ l) zero x e = omega (arith, ap f (same_element refl e))
  total_at f (y ∷ l) (suc k) x e = omega (arith, total_at f l k x e)

  pub total_two : (f : A → ℕ) (l : List A) (k j : ℕ) (x y : A) → k < j → nth l k ≡ some x → nth l j ≡ some y → f x + f y ≤ total f l
  unfolding total nth
  total_two f [] k j x y h e d = absurd (none-ne-some x e)
  total_two f (z ∷ l) k zero x y h e d = absurd (omega arith)
  total_two f (z ∷ l) zero (suc j) x y h e d = omega (arith, ap f (same_element refl e), total_at f l j y d)
  total_two f (z ∷ l) (suc k) (suc j) x y h e d = omega (arith, total_two f l k j x y (omega arith) e d)

  pub total_find : (f : A → ℕ) (l : List A) → 1 ≤ total f l → (k : ℕ) × (x : A) × (nth l k ≡ some x) × (1 ≤ f x)
  unfolding total nth
  total_find f [] h = absurd (omega arith)
  total_find f (x ∷ l) h = elim (lt_or_le 0 (f x)) [
    | inl p ↦ (0, x, refl, omega arith)
    | inr p ↦ let r = total_find f l (omega arith) in (suc r.0, r.1, r.2, r.3)
  ]

-- ---- weights

pub sum_add : (n : ℕ) (f g : ℕ → ℕ) → sum n (λ i. f i + g i) ≡ sum n f + sum n g
unfolding sum
sum_add zero f g = refl
sum_add (suc n) f g = omega (arith, sum_add n f g)

sum_find : (n : ℕ) (f : ℕ → ℕ) → 1 ≤ sum n f → (i : ℕ) × (i < n) × (1 ≤ f i)
unfolding sum
sum_find zero f h = absurd (omega arith)
sum_find (suc n) f h = elim (lt_or_le 0 (f n)) [
  | inl p ↦ (n, omega arith, omega arith)
  | inr p ↦ let r = sum_find n f (omega arith) in (r.0, omega (arith, r.1), r.2)
]

pub weight_at_law : (f : Task → ℕ) (t : Table) (i : ℕ) (a : Task) → i < 64 → at t i ≡ some a → f a ≤ weight f t
unfolding weight
weight_at_law f t i a l e = omega (arith, sum_at 64 i (λ i. weight_at f (at t i)) l, ap (weight_at f) e)

pub weight_find : (f : Task → ℕ) (t : Table) → 1 ≤ weight f t → (i : ℕ) × (a : Task) × (i < 64) × (at t i ≡ some a) × (1 ≤ f a)
unfolding weight
weight_find f t h = let r = sum_find 64 (λ i. weight_at f (at t i)) h in filled r.0 r.1 (at t r.0) refl r.2
  where
    filled : (i : ℕ) → i < 64 → (x : Option Task) → at t i ≡ x → 1 ≤ weight_at f x → (i : ℕ) × (a : Task) × (i < 64) × (at t i ≡ some a) × (1 ≤ f a)
    filled i l none e h = absurd (omega arith)
    filled i l (some a) e h = (i, a, l, e, h)

-- two weights that agree on every live task
pub weight_live : (f g : Task → ℕ) (t : Table) → ((i : ℕ) (a : Task) → i < 64 → at t i ≡ some a → f a ≡ g a) → weight f t ≡ weight g t
weight_live f g t h = weight_ext f g t t (λ i below. live i below (at t i) refl)
  where
    live : (i : ℕ) → i < 64 → (x : Option Task) → at t i ≡ x → weight_at f x ≡ weight_at g x
    live i below none e = refl
    live i below (some a) e = h i a below e

pub weight_zero : (f : Task → ℕ) (t : Table) → ((a : Task) → f a ≡ 0) → weight f t ≡ 0
unfolding weight
weight_zero f t h = sum_zero 64 (λ i. weight_at f (at t i)) (λ i _. nothing (at t i))
  where
    nothing : (x : Option Task) → weight_at f x ≡ 0
    nothing none = refl
    nothing (some a) = h a

-- a live record that changes: the new task's weight for its own number, and for any other number the weight as it was
pub altered_weighs : (f g : Task → ℕ) (t : Table) (k : ℕ) (a b : Task) → Good t → k < 64 → at t k ≡ some a → g a ≡ f b
    → ((c : Task) → (c.arrival ≡ a.arrival → ⊥) → g c ≡ f c) → weight f (altered_at t k b) ≡ weight g t
altered_weighs f g t k a b h l e new rest =
    weight_ext f g (altered_at t k b) t
    (λ i below. elim (ℕ_discrete i k) [
      | yes q ↦ rw (q, altered_at_law t k b h.shaped l e, e) (sym new)
      | no n ↦ rw (altered_other t k b i n) (others i below n (at t i) refl)
    ])
  where
    others : (i : ℕ) → i < 64 → (i ≡ k → ⊥) → (x : Option Task) → at t i ≡ x → weight_at f x ≡ weight_at g x
    others i below n none d = refl
    others i below n (some c) d = sym (rest c (λ same. n (h.sound.one_arrival i k c a below l d e same)))
