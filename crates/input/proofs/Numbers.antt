-- What a number in groups needs, one group at a time.
-- Assumes nothing.
use Prim.Native.Nat.{ℕ, suc, ◌-◌}
use mathlib.Core.Path.{◌≡◌}
use native.Mathlib.Omega.{arith}

-- a count that is not 0 has one before it
pub one_less : (n : ℕ) → (n ≡ 0 → ⊥) → suc (n - 1) ≡ n
one_less n h = omega arith
