-- Numbers in groups of seven bits: low group first, top bit set when another follows, ten groups at most, shortest
-- form only, below 2^64. A number is read with the place after it.
use Rattle.std.specs.Prelude.{ℕ, zero, suc, ◌+◌, ◌-◌, ◌*◌, ◌/◌, ◌%◌, ◌^◌, Option, None, Some, List, [], ◌∷◌, cond, ◌||◌, length, get_or, ltb, leb, eqb}

-- a group x with another after it, and the number that starts there: that number is not 0, since the form is the
-- shortest, and the whole is below 2^64
unfoldable pub with_group : ℕ → Option (ℕ × ℕ) → Option (ℕ × ℕ)
with_group x None = None
with_group x (Some (high, next)) = cond (eqb high 0 || leb (2 ^ 64) (x - 128 + high * 128)) None (Some (x - 128 + high * 128, next))

-- the number at a place of s, of at most so many groups
unfoldable pub number_in : ℕ → List ℕ → ℕ → Option (ℕ × ℕ)
number_in zero s at = None
number_in (suc left) s at =
    cond (ltb at (length s))
    (cond (ltb (get_or s at 0) 128) (Some (get_or s at 0, at + 1)) (with_group (get_or s at 0) (number_in left s (at + 1))))
    None

abbrev pub number_at : List ℕ → ℕ → Option (ℕ × ℕ)
number_at s at = number_in 10 s at

-- how a number is written: the shortest form, of at most so many groups
unfoldable pub groups_in : ℕ → ℕ → List ℕ
groups_in zero n = []
groups_in (suc left) n = cond (ltb n 128) (n ∷ []) ((128 + n % 128) ∷ groups_in left (n / 128))

abbrev pub groups_of : ℕ → List ℕ
groups_of n = groups_in 10 n

-- a number below a bound
unfoldable pub below : ℕ → Option (ℕ × ℕ) → Option (ℕ × ℕ)
below bound None = None
below bound (Some (v, next)) = cond (ltb v bound) (Some (v, next)) None

-- one that fits a byte, and one that fits 32 bits
abbrev pub byte_at : List ℕ → ℕ → Option (ℕ × ℕ)
byte_at s at = below 256 (number_at s at)

abbrev pub id_at : List ℕ → ℕ → Option (ℕ × ℕ)
id_at s at = below (2 ^ 32) (number_at s at)

-- where something was read, what follows from it and the place after it; `none` where nothing was
unfoldable pub given : {T A : Type 0} → A → Option (T × ℕ) → (T → ℕ → A) → A
given none None f = none
given none (Some (v, next)) f = f v next
