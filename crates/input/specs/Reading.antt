-- How a header is read, keeping nine ids. This follows the code: believe Header.antt, which says the same, as
-- Promises.antt says.
use Rattle.std.specs.Prelude.{ℕ, zero, suc, Option, None, Some, cond, List, [], ◌∷◌, ◌++◌, length, take, drop, replicate, ltb}
use Rattle.arrayvec.specs.ArrayVec.{ArrayVec}
use Rattle.input.specs.Numbers.{number_at, byte_at, id_at, given}
use Rattle.input.specs.declared.header.Header.{Header}

-- ids with one more behind them; past the ninth it is not kept
abbrev pub kept_with : List ℕ → ℕ → List ℕ
kept_with ids id = cond (ltb (length ids) 9) (ids ++ id ∷ []) ids

-- so many more ids from a place on, behind those that are kept
unfoldable pub ids_from : ℕ → List ℕ → ℕ → List ℕ → Option (ArrayVec ℕ × ℕ)
ids_from zero s at ids = Some (record { items = ids }, at)
ids_from (suc left) s at ids = given None (id_at s at) (λ id next. ids_from left s next (kept_with ids id))

-- ids at the front of nine places, and 0 in those behind them
abbrev pub padded : List ℕ → List ℕ
padded ids = take 9 ids ++ drop (length ids) (replicate 9 0)

-- the ids that a header has
abbrev pub listed : Header → List ℕ
listed h = take h.count h.ids

unfoldable pub header_of : List ℕ → Option Header
header_of s =
    given None (byte_at s 0) (λ count a.
    given None (ids_from count s a []) (λ ids b.
    given None (byte_at s b) (λ mask c.
    given None (number_at s c) (λ first next.
    Some (record { first = first; next = next; count = length ids.items; ids = padded ids.items; mask = mask })))))
