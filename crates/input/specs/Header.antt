-- The header of a transcript: path count (a byte), ids, mask, first arrival number. It is read whole; an id over 32
-- bits is malformed.
use Rattle.std.specs.Prelude.{ℕ, zero, suc, List, [], ◌∷◌}
use Rattle.input.specs.Numbers.{number_at, byte_at, id_at, given}

-- what the header says, and the place after it
pub data Heading : Type 0 where
  malformed : Heading
  heading : (ids : List ℕ) (mask first next : ℕ) → Heading

-- so many ids from a place on, after those in front
unfoldable pub ids_then : ℕ → List ℕ → ℕ → (List ℕ → ℕ → Heading) → Heading
ids_then zero s at f = f [] at
ids_then (suc n) s at f = given malformed (id_at s at) (λ id next. ids_then n s next (λ ids after. f (id ∷ ids) after))

unfoldable pub heading_of : List ℕ → Heading
heading_of s =
    given malformed (byte_at s 0) (λ count a.
    ids_then count s a (λ ids b.
    given malformed (byte_at s b) (λ mask c.
    given malformed (number_at s c) (λ first next. heading ids mask first next))))
