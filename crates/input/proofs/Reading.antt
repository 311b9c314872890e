-- Ids, one at a time.
-- Assumes nothing.
use Prim.Native.Nat.{ℕ, suc}
use mathlib.Core.Path.{◌≡◌}
use mathlib.Core.List.{List}
use Rattle.std.specs.Prelude.{Some}
use Rattle.input.specs.Numbers.{id_at, given}
use Rattle.input.specs.Reading.{kept_with, ids_from}

pub next_id :
    (s : List ℕ) (at : ℕ) (ids : List ℕ) {left rest id after : ℕ} {kept : List ℕ} → left ≡ suc rest → id_at s at ≡ Some (id, after)
    → kept ≡ kept_with ids id → ids_from left s at ids ≡ ids_from rest s after kept
unfolding given ids_from
next_id s at ids h e k = rw (h, e, k)
