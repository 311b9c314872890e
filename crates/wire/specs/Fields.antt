-- Fields of a message: a byte, and numbers of two and four bytes, the high byte first.
use Rattle.std.specs.Prelude.{ℕ, ◌+◌, ◌*◌, List, get_or}

-- the byte at a place; 0 past the end
abbrev pub byte : List ℕ → ℕ → ℕ
byte m at = get_or m at 0

-- two bytes, the high one first
abbrev pub joined : ℕ → ℕ → ℕ
joined high low = high * 256 + low

-- the number in two bytes from a place on, and in four
abbrev pub word : List ℕ → ℕ → ℕ
word m at = joined (byte m at) (byte m (at + 1))

abbrev pub long : List ℕ → ℕ → ℕ
long m at = word m at * 65536 + word m (at + 2)
