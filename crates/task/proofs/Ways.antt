-- Tests: cases by a test's answer, and what a chain of early returns comes to, against `&&`, `||`, `not` and a
-- choice. Assumes nothing.
--     ways          for `search`, an answer by early returns: each test of the definition by the branch, or the call's answer, that told it
--     and_ways      the same where `&&` joins the answers of calls, and each `if` asks for the inverted one
use Prim.Native.Nat.{ℕ, ◌<◌, ◌≤◌}
use mathlib.Core.Path.{◌≡◌, refl, sym, ap, ◌∙◌}
use mathlib.Core.Bool.{Bool, true, false, cond, not, ◌&&◌, ◌||◌}
use mathlib.Core.Logic.{◌⊎◌, inl, inr}
use native.Mathlib.Omega.{arith}
use lib.Dec.{eqb, ltb}
use Rattle.std.specs.Prelude.{Option, Some, None}
use borrow.Author.Tests.{not-true, not-false, eq-eqb, ne_eqb, lt-ltb, le-ltb}

pub either_way : (b : Bool) → (b ≡ true) ⊎ (b ≡ false)
either_way true = inl refl
either_way false = inr refl

-- a fact about an option, by whether it has a value
pub option_ind : {A : Type 0} (P : Option A → Type 0) (o : Option A) → (o ≡ None → P None) → ((x : A) → o ≡ Some x → P (Some x)) → P o
option_ind P None n s = n refl
option_ind P (Some x) n s = s x refl

pub never : {b : Bool} → b ≡ true → b ≡ false → ⊥
never h l = let z : ◌≡◌ {A = ℕ} 0 1 = cc in omega arith

pub both : (b c : Bool) → (b && c) ≡ true → (b ≡ true) × (c ≡ true)
both true c h = (refl, h)
both false c h = absurd (never h refl)

pub either : (b c : Bool) → (b || c) ≡ true → (b ≡ true) ⊎ (c ≡ true)
either true c h = inl refl
either false c h = inr h

-- ---- a test's outcome, as a branch gives it of a call's answer b, which the call ensures to be x

module _ {b x : Bool} where
  pub answered_true : b ≡ x → b ≡ true → x ≡ true
  answered_true e h = cc

  pub answered_false : b ≡ x → b ≡ false → x ≡ false
  answered_false e h = cc

  pub inverted_true : b ≡ x → not b ≡ true → x ≡ false
  inverted_true e h = answered_false e (not-true b h)

  pub inverted_false : b ≡ x → not b ≡ false → x ≡ true
  inverted_false e h = answered_true e (not-false b h)

-- ---- a test that a branch told: by numbers, or by a call's answer b as it is or inverted

pub equal : {m n : ℕ} → m ≡ n → true ≡ eqb m n
equal {m} {n} h = sym (eq-eqb m n h)

pub unequal : {m n : ℕ} → (m ≡ n → ⊥) → false ≡ eqb m n
unequal {m} {n} h = sym (ne_eqb m n h)

pub below : {m n : ℕ} → m < n → true ≡ ltb m n
below {m} {n} h = sym (lt-ltb m n h)

pub past : {m n : ℕ} → n ≤ m → false ≡ ltb m n
past {m} {n} h = sym (le-ltb m n h)

-- a number that a call answered
module _ {k m n : ℕ} (e : k ≡ m) where
  pub answer_equal : k ≡ n → true ≡ eqb m n
  answer_equal h = equal (sym e ∙ h)

  pub answer_unequal : (k ≡ n → ⊥) → false ≡ eqb m n
  answer_unequal h = unequal (λ q. h (e ∙ q))

module _ {b x : Bool} (e : b ≡ x) where
  pub told_true : b ≡ true → true ≡ x
  told_true h = sym (answered_true e h)

  pub told_false : b ≡ false → false ≡ x
  told_false h = sym (answered_false e h)

  pub told_not_true : not b ≡ true → false ≡ x
  told_not_true h = sym (inverted_true e h)

  pub told_not_false : not b ≡ false → true ≡ x
  told_not_false h = sym (inverted_false e h)

  pub not_told : not b ≡ not x
  not_told = ap not e

-- ---- what the tests are joined by

module _ {x : Bool} where
  pub not_yes : false ≡ x → true ≡ not x
  not_yes h = ap not h

  pub not_no : true ≡ x → false ≡ not x
  not_no h = ap not h

  pub and_no : (y : Bool) → false ≡ x → false ≡ (x && y)
  and_no y h = rw (← h)

  pub and_yes : {y r : Bool} → true ≡ x → r ≡ y → r ≡ (x && y)
  and_yes h e = rw (← h) e

  pub or_yes : (y : Bool) → true ≡ x → true ≡ (x || y)
  or_yes y h = rw (← h)

  pub or_no : {y r : Bool} → false ≡ x → r ≡ y → r ≡ (x || y)
  or_no h e = rw (← h) e

  pub chosen : {A : Type 0} {y r : A} (z : A) → true ≡ x → r ≡ y → r ≡ cond x y z
  chosen z h e = rw (← h) e

  pub left_out : {A : Type 0} {z r : A} (y : A) → false ≡ x → r ≡ z → r ≡ cond x y z
  left_out y h e = rw (← h) e

pub ruleset and_ways = (told_not_true, told_not_false, not_told, and_no, and_yes)

pub ruleset ways = (and_ways, told_true, told_false, equal, unequal, below, past, not_yes, not_no, or_yes, or_no, chosen, left_out)

-- a choice by a bound
module _ {A : Type 0} {i n : ℕ} (x y : A) where
  pub cond_below : i < n → x ≡ cond (ltb i n) x y
  cond_below h = rw (lt-ltb i n h)

  pub cond_past : n ≤ i → y ≡ cond (ltb i n) x y
  cond_past h = rw (le-ltb i n h)
