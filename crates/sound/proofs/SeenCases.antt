-- The turns of the walk, with the map of what was seen. Assumes nothing.
use Prim.Native.Nat.{ℕ, ◌+◌}
use mathlib.Core.Path.{◌≡◌, sym, ◌∙◌}
use mathlib.Core.Bool.{Bool, true, false}
use mathlib.Core.List.{List}
use native.Mathlib.Numerals.{add-one}
use Rattle.task.specs.Map.{is_live}
use Rattle.task.proofs.Ways.{answered_true, answered_false}
use Rattle.table.specs.Tables.{task_at}
use Rattle.sound.specs.Seen.{may_clash, with_bits_of, seen_below}
use Rattle.table.specs.declared.Table.{Table}
use Rattle.sound.proofs.Checking.{clash_below}
use Rattle.sound.proofs.Seeing.{clear_below, dead_below}

-- ---- the turns of the walk: the map l as it stands at record i, and what was answered of the record

module _ (t : Table) (i : ℕ) {g : Bool} (v : g ≡ is_live t.live i) where
  pub dead_clashes : g ≡ false → false ≡ clash_below t i
  dead_clashes h = sym (dead_below t i (answered_false v h))

  module _ {l : List ℕ} (e : l ≡ seen_below t i) where
    pub dead_bits : g ≡ false → l ≡ seen_below t (i + 1)
    unfolding seen_below
    dead_bits h = e ∙ rw (add-one, answered_false v h)

    pub live_bits : {m : List ℕ} → g ≡ true → m ≡ with_bits_of l (task_at t i) → m ≡ seen_below t (i + 1)
    unfolding seen_below
    live_bits h n = n ∙ rw (add-one, answered_true v h, e)

module _ (t : Table) (i : ℕ) {l : List ℕ} (e : l ≡ seen_below t i) where
  pub clear_clashes : {b : Bool} → b ≡ may_clash l (task_at t i) → b ≡ false → false ≡ clash_below t i
  clear_clashes s h = sym (clear_below t i (rw e at (answered_false s h)))
