-- The command block of a message that holds it.
-- Assumes nothing.
use Prim.Native.Nat.{ℕ, ◌+◌, ◌-◌, ◌≤◌}
use mathlib.Core.Path.{◌≡◌}
use mathlib.Core.List.{List}
use lib.ListN.{length, take, drop}
use lib.Dec.{ltb, eqb}
use borrow.Author.Tests.{le-ltb}
use native.Mathlib.Nat.{add-sub_cancel_left}
use Rattle.wire.specs.Block.{block_length, cut_short, no_block, block_of}

module _ (m : List ℕ) {n : ℕ} (e : n ≡ block_length m) where
  pub bytes : 17 ≤ length m → ltb (length m) (16 + n) ≡ cut_short m
  unfolding cut_short
  bytes h = rw e (simp (le-ltb _ _ h))

  pub group : eqb n 0 ≡ no_block m
  unfolding no_block
  group = rw e

  pub part : 17 ≤ length m → 16 + n ≤ length m → take (16 + n - 16) (drop 16 m) ≡ block_of m
  unfolding block_of cut_short
  part h l = rw (add-sub_cancel_left 16 n, e) (simp (le-ltb _ _ h, le-ltb _ _ (rw e at l)))
