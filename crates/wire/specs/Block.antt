-- The command block of a command (003, table 5, byte 16 on), and what rules 2, 9 and 10 ask of it.
use Rattle.std.specs.Prelude.{ℕ, ◌+◌, ◌/◌, ◌%◌, List, [], ◌∷◌, Bool, false, cond, not, ◌||◌, length, get_or, take, drop, ltb, eqb}
use Rattle.wire.specs.Fields.{byte}

-- by bits 7 to 5 of byte 16 the lengths are 6, 10, 10, none, 16, 12, none, none; none is 0
abbrev pub block_lengths : List ℕ
block_lengths = 6 ∷ 10 ∷ 10 ∷ 0 ∷ 16 ∷ 12 ∷ 0 ∷ 0 ∷ []

abbrev pub opcode : List ℕ → ℕ
opcode m = byte m 16

abbrev pub block_length : List ℕ → ℕ
block_length m = get_or block_lengths (opcode m / 32) 0

-- rule 2: under 17 bytes, or under 16 plus the length of the block; where there is none, 17 bytes are enough
unfoldable pub cut_short : List ℕ → Bool
cut_short m = ltb (length m) 17 || ltb (length m) (16 + block_length m)

-- rule 9: there is no length for the block
unfoldable pub no_block : List ℕ → Bool
no_block m = eqb (block_length m) 0

-- rule 10: bit 0 or 1 (LINK, FLAG) of the last byte of the block; NACA, bit 2, is ignored
unfoldable pub linked : List ℕ → Bool
linked m = cond (no_block m) false (not (eqb (byte m (15 + block_length m) % 4) 0))

-- the block: the part of the message that holds it, and an empty part where the message does not
unfoldable pub block_of : List ℕ → List ℕ
block_of m = cond (cut_short m) [] (take (block_length m) (drop 16 m))
