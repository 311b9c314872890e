-- A number written in groups is read back, and the bytes that are read are the shortest form of their number.
-- Assumes nothing.
use Prim.Native.Nat.{ℕ, zero, suc, ◌+◌, ◌-◌, ◌*◌, ◌/◌, ◌%◌, ◌^◌, ◌≤◌, ◌<◌}
use mathlib.Core.Path.{◌≡◌, ◌∙◌}
use mathlib.Core.Bool.{◌||◌}
use mathlib.Core.List.{List, [], ◌∷◌, ◌++◌}
use lib.ListN.{length, get_or, take, drop, length-append}
use lib.Seq.{append_snoc, get_or-append_seam, drop-cons}
use lib.Dec.{ltb, leb, eqb}
use native.Mathlib.Nat.{pow-suc, div-lt_iff_lt-mul}
use native.Mathlib.Numerals.{add-one}
use native.Mathlib.Omega.{arith}
use borrow.Author.Tests.{ltb-true, ltb-false, eqb-false, ne_eqb, lt-ltb, le-ltb, lt-leb}
use Rattle.std.specs.Prelude.{Option, None, Some}
use Rattle.wire.proofs.Table.{cond_ind, neither}
use Rattle.input.specs.Numbers.{with_group, number_in, groups_in}
use Rattle.input.proofs.Moving.{Later, later}

module _ (left : ℕ) (before : List ℕ) (x : ℕ) (rest : List ℕ) where
  inside : length before < length (before ++ x ∷ rest)
  inside = simp length-append (omega arith)

  last_group : x < 128 → number_in (suc left) (before ++ x ∷ rest) (length before) ≡ Some (x, length before + 1)
  unfolding number_in
  last_group h = simp (lt-ltb _ _ inside, get_or-append_seam, lt-ltb _ _ h)

  first_group :
      {high next : ℕ} → 128 ≤ x → number_in left (before ++ x ∷ rest) (length before + 1) ≡ Some (high, next) → (high ≡ 0 → ⊥)
      → x - 128 + high * 128 < 2 ^ 64 → number_in (suc left) (before ++ x ∷ rest) (length before) ≡ Some (x - 128 + high * 128, next)
  unfolding number_in with_group
  first_group h e z u = simp (lt-ltb _ _ inside, get_or-append_seam, le-ltb _ _ h, e, ne_eqb _ _ z, lt-leb _ _ u)

-- a group in front of a number that is read back
next_group :
    (left : ℕ) (before rest g : List ℕ) (n : ℕ) → n < 2 ^ 64 → 128 ≤ n
    → number_in left ((before ++ ((128 + n % 128) ∷ [])) ++ (g ++ rest)) (length (before ++ ((128 + n % 128) ∷ []))) ≡ Some (n / 128, length (before ++ ((128 + n % 128) ∷ [])) + length g)
    → number_in (suc left) (before ++ (128 + n % 128) ∷ (g ++ rest)) (length before) ≡ Some (n, length before + suc (length g))
next_group left before rest g n u h ih =
    let whole : 128 + n % 128 - 128 + n / 128 * 128 ≡ n = omega arith in
    let room : length before + 1 + length g ≡ length before + suc (length g) = omega arith in
    let e : number_in left (before ++ (128 + n % 128) ∷ (g ++ rest)) (length before + 1) ≡ Some (n / 128, length before + 1 + length g) = simp (append_snoc, length-append) at ih in
    first_group left before (128 + n % 128) (g ++ rest) (omega arith) e (λ z. omega arith) (omega arith) ∙ rw (whole, room)

pub reads_back :
    (left : ℕ) (before rest : List ℕ) (n : ℕ) → n < 2 ^ 64 → n < 128 ^ suc left
    → number_in (suc left) (before ++ (groups_in (suc left) n ++ rest)) (length before) ≡ Some (n, length before + length (groups_in (suc left) n))
unfolding groups_in
reads_back zero before rest n u h = rw (lt-ltb n 128 h) (last_group zero before n rest h)
reads_back (suc left) before rest n u h =
    cond_ind (λ (g : List ℕ). number_in (suc (suc left)) (before ++ (g ++ rest)) (length before) ≡ Some (n, length before + length g)) (ltb n 128)
    (λ t. last_group (suc left) before n rest (ltb-true n 128 t))
    (λ t. next_group (suc left) before rest (groups_in (suc left) (n / 128)) n u (ltb-false n 128 t)
    (reads_back left (before ++ ((128 + n % 128) ∷ [])) rest (n / 128) (omega arith) ((div-lt_iff_lt-mul (omega arith)).1 (rw (pow-suc 128 (suc left)) at h))))

-- ---- what is read is the shortest form

-- a group in front of a form that is not 0's
longer : (left x high : ℕ) → 128 ≤ x → x < 256 → (high ≡ 0 → ⊥) → (x ∷ groups_in left high) ≡ groups_in (suc left) (x - 128 + high * 128)
unfolding groups_in
longer left x high h u z =
    let large : 128 ≤ x - 128 + high * 128 = omega arith in
    let low : 128 + (x - 128 + high * 128) % 128 ≡ x = omega arith in
    let rest : (x - 128 + high * 128) / 128 ≡ high = omega arith in
    rw (le-ltb (x - 128 + high * 128) 128 large, low, rest)

-- from a place up to a later one, the byte at it comes first
behind : (s : List ℕ) (at next : ℕ) → at < length s → at < next → take (next - at) (drop at s) ≡ get_or s at 0 ∷ take (next - (at + 1)) (drop (at + 1) s)
behind s at next h l =
    let e : next - at ≡ suc (next - suc at) = omega arith in
    rw (add-one at, drop-cons s at 0, e)

module _ (s : List ℕ) (bytes : (i : ℕ) → get_or s i 0 < 256) where
  -- the bytes of a number that was read at a place are its form
  abbrev pub Written : ℕ → ℕ → Option (ℕ × ℕ) → Type 0
  Written left at None = Unit {0}
  Written left at (Some (n, next)) = take (next - at) (drop at s) ≡ groups_in left n

  module _ (left at : ℕ) (l : at < length s) where
    ends : get_or s at 0 < 128 → Written (suc left) at (Some (get_or s at 0, at + 1))
    unfolding groups_in
    ends h =
        let e : at + 1 - (at + 1) ≡ 0 = omega arith in
        rw (behind s at (at + 1) l (omega arith), e, lt-ltb _ _ h)

    goes_on : (r : Option (ℕ × ℕ)) → 128 ≤ get_or s at 0 → Later (at + 1) r → Written left (at + 1) r → Written (suc left) at (with_group (get_or s at 0) r)
    unfolding with_group
    goes_on None h m ih = tt
    goes_on (Some (high, next)) h m ih =
        cond_ind (Written (suc left) at) (eqb high 0 || leb (2 ^ 64) (get_or s at 0 - 128 + high * 128)) (λ t. tt)
        (λ t. behind s at next l (omega arith) ∙ rw ih (longer left (get_or s at 0) high h (bytes at) (eqb-false high 0 (neither _ _ t).0)))

  pub written : (left at : ℕ) → Written left at (number_in left s at)
  unfolding number_in
  written zero at = tt
  written (suc left) at =
      cond_ind (Written (suc left) at) (ltb at (length s))
      (λ l. cond_ind (Written (suc left) at) (ltb (get_or s at 0) 128)
      (λ h. ends left at (ltb-true _ _ l) (ltb-true _ _ h))
      (λ h. goes_on left at (ltb-true _ _ l) (number_in left s (at + 1)) (ltb-false _ _ h) (later left s (at + 1)) (written left (at + 1))))
      (λ l. tt)
