-- Places of a list: what stands at a place of a list that is mapped or goes on, and what holds of each element.
-- Assumes nothing.
use Prim.Native.Nat.{ℕ, zero, suc, ◌<◌}
use mathlib.Core.Path.{◌≡◌, refl, subst}
use mathlib.Core.List.{List, [], ◌∷◌, ◌++◌, map}
use mathlib.Core.Option.{Option, some, none-ne-some}
use native.Mathlib.Omega.{arith}
use lib.ListN.{length}
use Rattle.history.specs.Trace.{nth}

-- P holds of every element
abbrev pub Each : {A : Type 0} → (A → Type 0) → List A → Type 0
Each {A} P l = (k : ℕ) (x : A) → nth l k ≡ some x → P x

pub same_element : {A : Type 0} {o : Option A} {x y : A} → o ≡ some x → o ≡ some y → x ≡ y
same_element d e = cc

module _ {A : Type 0} where
  pub nth_below : (l : List A) (k : ℕ) {x : A} → nth l k ≡ some x → k < length l
  unfolding nth
  nth_below [] k {x} e = absurd (none-ne-some x e)
  nth_below (y ∷ l) zero e = omega arith
  nth_below (y ∷ l) (suc k) e = omega (arith, nth_below l k e)

  pub nth_append : (l m : List A) (k : ℕ) {x : A} → nth l k ≡ some x → nth (l ++ m) k ≡ some x
  unfolding nth
  nth_append [] m k {x} e = absurd (none-ne-some x e)
  nth_append (y ∷ l) m zero e = e
  nth_append (y ∷ l) m (suc k) e = nth_append l m k e

  pub nth_last : (l : List A) (x : A) → nth (l ++ (x ∷ [])) (length l) ≡ some x
  unfolding nth
  nth_last [] x = refl
  nth_last (y ∷ l) x = nth_last l x

  pub nth_map : {B : Type 0} (f : A → B) (l : List A) (k : ℕ) {x : A} → nth l k ≡ some x → nth (map f l) k ≡ some (f x)
  unfolding nth
  nth_map f [] k {x} e = absurd (none-ne-some x e)
  nth_map f (y ∷ l) zero e = cc
  nth_map f (y ∷ l) (suc k) e = nth_map f l k e

  module _ (P : A → Type 0) where
    pub each_none : Each P []
    unfolding nth
    each_none k x e = absurd (none-ne-some x e)

    pub each_one : (y : A) → P y → Each P (y ∷ [])
    unfolding nth
    each_one y p zero x e = subst P (same_element refl e) p
    each_one y p (suc k) x e = each_none k x e

    pub each_append : (l m : List A) → Each P l → Each P m → Each P (l ++ m)
    unfolding nth
    each_append [] m h w k x e = w k x e
    each_append (z ∷ l) m h w zero x e = h zero x e
    each_append (z ∷ l) m h w (suc k) x e = each_append l m (λ k. h (suc k)) w k x e

  pub each_map : {B : Type 0} (P : A → Type 0) (Q : B → Type 0) (f : A → B) → ((x : A) → P x → Q (f x)) → (l : List A) → Each P l → Each Q (map f l)
  unfolding nth
  each_map P Q f g [] h k y e = absurd (none-ne-some y e)
  each_map P Q f g (x ∷ l) h zero y e = subst Q (same_element refl e) (g x (h zero x refl))
  each_map P Q f g (x ∷ l) h (suc k) y e = each_map P Q f g l (λ k. h (suc k)) k y e
