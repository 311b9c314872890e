-- Lists of any type: the length of an array of records, what stands past an end, and a test of the first elements.
-- Assumes nothing.
use Prim.Native.Nat.{ℕ, zero, suc, ◌≤◌}
use mathlib.Core.Path.{◌≡◌, refl, sym, ap, ◌∙◌}
use mathlib.Core.Bool.{Bool, ◌||◌}
use mathlib.Core.List.{List, map}
use native.Mathlib.Omega.{arith}
use native.Mathlib.Numerals.{add-one}
use lib.ListN.{length, get_or, take, length-map, get_or-eq_default}
use Rattle.std.specs.List.{list_any}
use Rattle.std.proofs.lemmas.List.Folds.{list_any_more}
use Rattle.task.specs.Index.{some_below}

-- of an array of records it is known how long its list is with a function through it
pub unmapped : (X Y : Type 0) (f : X → Y) (l : List X) (n : ℕ) → length (map f l) ≡ n → length l ≡ n
unmapped X Y f l n e = sym (length-map l f) ∙ e

pub past_end : {A : Type 0} {r : A} (l : List A) (d : A) {i : ℕ} (n : ℕ) → length l ≡ n → n ≤ i → r ≡ d → r ≡ get_or l i d
past_end l d n e h k = k ∙ sym (get_or-eq_default l d (omega arith))

-- some of the first n elements passes a test
pub any_below : {A : Type 0} (p : A → Bool) (l : List A) (d : A) (n : ℕ) → n ≤ length l → list_any p (take n l) ≡ some_below n (λ k. p (get_or l k d))
unfolding some_below
any_below p l d zero h = refl
any_below p l d (suc n) h =
    rw (← add-one, list_any_more p l n d (omega arith)) (ap (λ (b : Bool). b || p (get_or l n d)) (any_below p l d n (omega arith)))
