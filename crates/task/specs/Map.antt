-- The 64-bit map that says which records are live: a bit, the lowest free place, how many are live, a bit set and
-- cleared; what is live no more.
use Rattle.std.specs.Prelude.{ℕ, ◌-◌, ◌/◌, ◌%◌, ◌^◌, Bool, cond, not, ◌&&◌, eqb, ltb}
use Rattle.std.specs.Int.Bits.{bit_or, bit_and}
use Rattle.task.specs.Index.{first, count, map_of}

-- bit i is 1
abbrev pub is_live : ℕ → ℕ → Bool
is_live live i = eqb (live / 2 ^ i % 2) 1

abbrev pub is_free : ℕ → ℕ → Bool
is_free live i = not (is_live live i)

-- the lowest of the 64 places whose bit is 0, or 64
unfoldable pub lowest_free : ℕ → ℕ
lowest_free live = first 64 (is_free live)

-- how many of the 64 bits are 1
unfoldable pub live_count : ℕ → ℕ
live_count live = count 64 (is_live live)

unfoldable pub with_bit : ℕ → ℕ → ℕ
with_bit live i = cond (ltb i 64) (bit_or live (2 ^ i)) live

unfoldable pub without_bit : ℕ → ℕ → ℕ
without_bit live i = cond (ltb i 64) (bit_and live (2 ^ 64 - 1 - 2 ^ i)) live

-- the map of the places that are live before and not after
unfoldable pub gone : ℕ → ℕ → ℕ
gone before after = map_of 64 (λ i. is_live before i && is_free after i)
