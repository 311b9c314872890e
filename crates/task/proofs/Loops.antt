-- What a loop over the places asks of `some`, `all`, `first` and `map_of`: its start, a turn that goes on, a turn that
-- answers, its end. Assumes nothing.
--     some_loop, all_loop, first_loop      for `search`, where a turn's test is a call's answer b with b ≡ p i. The loop for `first` keeps the invariant of that for `some`
use Prim.Native.Nat.{ℕ, zero, suc, ◌+◌, ◌*◌, ◌^◌, ◌≤◌, ◌<◌}
use mathlib.Core.Path.{◌≡◌, refl, sym, ◌∙◌}
use mathlib.Core.Bool.{Bool, true, false, cond, not}
use native.Mathlib.Nat.{le_antisymm, pow-suc}
use native.Mathlib.Numerals.{add-one}
use native.Mathlib.Omega.{arith}
use borrow.Author.Tests.{not-true, not-false}
use Rattle.task.specs.Index.{first, some_below, all_below, one, map_of}
use Rattle.task.proofs.Places.{some_at, none_at, all_off, first_is, first_none}

module _ (p : ℕ → Bool) where
  pub some_start : some_below 0 p ≡ false
  unfolding some_below
  some_start = refl

  pub some_more : {b : Bool} (i : ℕ) → some_below i p ≡ false → b ≡ p i → b ≡ false → some_below (i + 1) p ≡ false
  unfolding some_below
  some_more i h e f = rw (add-one, h, ← e, f)

  pub all_start : all_below 0 p ≡ true
  unfolding all_below
  all_start = refl

  pub all_more : {b : Bool} (i : ℕ) → all_below i p ≡ true → b ≡ p i → b ≡ true → all_below (i + 1) p ≡ true
  unfolding all_below
  all_more i h e f = rw (add-one, h, ← e, f)

  pub all_more_not : {b : Bool} (i : ℕ) → all_below i p ≡ true → b ≡ p i → not b ≡ false → all_below (i + 1) p ≡ true
  all_more_not {b} i h e f = all_more i h e (not-false b f)

  module _ (n : ℕ) {i : ℕ} where
    pub some_hit : {b : Bool} → i < n → b ≡ p i → b ≡ true → true ≡ some_below n p
    some_hit l e h = sym (some_at n i p l (sym e ∙ h))

    pub some_end : i ≤ n → n ≤ i → some_below i p ≡ false → false ≡ some_below n p
    some_end l m h = rw (← le_antisymm l m) (sym h)

    pub all_miss : {b : Bool} → i < n → b ≡ p i → b ≡ false → false ≡ all_below n p
    all_miss l e h = sym (all_off n i p l (sym e ∙ h))

    pub all_miss_not : {b : Bool} → i < n → b ≡ p i → not b ≡ true → false ≡ all_below n p
    all_miss_not {b} l e h = all_miss l e (not-true b h)

    pub all_end : i ≤ n → n ≤ i → all_below i p ≡ true → true ≡ all_below n p
    all_end l m h = rw (← le_antisymm l m) (sym h)

    pub first_hit : {b : Bool} → i < n → some_below i p ≡ false → b ≡ p i → b ≡ true → i ≡ first n p
    first_hit l f e h = sym (first_is n i p l (sym e ∙ h) (λ k m. none_at i k p f m))

    pub first_end : i ≤ n → n ≤ i → some_below i p ≡ false → n ≡ first n p
    first_end l m f = sym (first_none n p (λ k r. none_at i k p f (omega arith)))

pub ruleset some_loop = (some_start, some_more, some_hit, some_end)

pub ruleset all_loop = (all_start, all_more, all_more_not, all_miss, all_miss_not, all_end)

pub ruleset first_loop = (some_start, some_more, first_hit, first_end)

-- ---- map_of, from the lowest place up

twice : (b : Bool) (n : ℕ) → cond b (2 ^ suc n) 0 ≡ 2 * cond b (2 ^ n) 0
twice true n = omega (arith, pow-suc 2 n)
twice false n = refl

one_cond : (b : Bool) → one b ≡ cond b 1 0
one_cond true = refl
one_cond false = refl

map_of_suc : (n : ℕ) (p : ℕ → Bool) → map_of (suc n) p ≡ map_of n p + cond (p n) (2 ^ n) 0
unfolding map_of
map_of_suc zero p = omega (arith, one_cond (p zero))
map_of_suc (suc n) p = omega (arith, map_of_suc n (λ i. p (suc i)), twice (p (suc n)) n)

pub map_of_start : (p : ℕ → Bool) → map_of 0 p ≡ 0
unfolding map_of
map_of_start p = refl

pub map_of_add : (n : ℕ) (p : ℕ → Bool) → p n ≡ true → map_of n p + 2 ^ n ≡ map_of (n + 1) p
map_of_add n p e = rw (add-one, map_of_suc, e)

pub map_of_skip : (n : ℕ) (p : ℕ → Bool) → p n ≡ false → map_of n p ≡ map_of (n + 1) p
map_of_skip n p e = rw (add-one, map_of_suc, e) (omega arith)
