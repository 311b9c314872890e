-- Setup: the path list as a loop fills it, a bad list, the table. Assumes nothing.
--     list_loop, bad_ways, setup_ways      of `listed`, `bad_list` and `Table::new`
use Prim.Native.Nat.{ℕ, zero, suc, ◌+◌, ◌-◌, ◌≤◌, ◌<◌}
use mathlib.Core.Path.{◌≡◌, sym, ap, ◌∙◌}
use mathlib.Core.Bool.{Bool, true, false, or-true}
use mathlib.Core.List.{List, [], ◌∷◌, ◌++◌}
use mathlib.Core.Logic.{⊎_elim}
use native.Mathlib.Nat.{le_antisymm}
use native.Mathlib.Numerals.{add-one, unary_clauses}
use native.Mathlib.Omega.{arith}
use lib.Dec.{eqb}
use lib.ListN.{length, get_or, set, take, replicate}
use lib.Seq.{take-suc, take-length, length-take-le}
use borrow.Author.Tests.{le-ltb, lt-ltb, eq-eqb, ne_eqb, eqb-true}
use Rattle.task.proofs.Ways.{never}
use Rattle.task.proofs.Loops.{some_loop}
use Rattle.std.specs.List.{list_any}
use Rattle.task.specs.Index.{some_below}
use Rattle.task.proofs.Places.{lt_or_le, some_ext}
use Rattle.table.specs.Tables.{no_path, zero_table}
use Rattle.table.specs.Setup.{seen_before, bad_list, fresh_path, fresh_paths, paths_of, fresh_table, setup_table}
use Rattle.table.specs.declared.Path as path
use Rattle.table.specs.declared.Table.{Table}
use Rattle.table.proofs.Lists.{any_below}

-- ---- the path list

-- n places, of which the first are the ids'
unfoldable filled : ℕ → List ℕ → List path.Path
filled n ids = fresh_paths ids ++ replicate (n - length ids) no_path

-- one id more
fill_next : (n : ℕ) (ids : List ℕ) (id : ℕ) → length ids < n → set (filled n ids) (length ids) (fresh_path id) ≡ filled n (ids ++ (id ∷ []))
unfolding filled fresh_paths
fill_next zero ids id h = absurd (omega arith)
fill_next (suc n) [] id h = simp unary_clauses
fill_next (suc n) (x ∷ ids) id h = simp unary_clauses (ap (λ (l : List path.Path). fresh_path x ∷ l) (fill_next n ids id (omega arith)))

module _ (ids : List ℕ) where
  pub list_start : {a : path.Path} → a ≡ no_path → replicate 8 a ≡ paths_of (take 0 ids)
  unfolding paths_of fresh_paths
  list_start e = rw e

  module _ {l : List path.Path} (i : ℕ) (e : l ≡ paths_of (take i ids)) where
    pub list_turn : i < length ids → length ids ≤ 8 → set l i (fresh_path (get_or ids i 0)) ≡ paths_of (take (i + 1) ids)
    unfolding paths_of filled
    list_turn h m =
        let n : length (take i ids) ≡ i = length-take-le i ids (omega arith) in
        rw (e, add-one, take-suc ids i 0 h)
        (ap (λ (k : ℕ). set (paths_of (take i ids)) k (fresh_path (get_or ids i 0))) (sym n) ∙ fill_next 8 (take i ids) (get_or ids i 0) (omega arith))

    pub list_end : i ≤ length ids → length ids ≤ i → l ≡ paths_of ids
    list_end h m = e ∙ ap paths_of (rw (le_antisymm h m) (take-length ids))

pub ruleset list_loop = (list_start, list_turn, list_end)

-- ---- a bad list

eqb-swap : (m n : ℕ) → eqb m n ≡ eqb n m
eqb-swap m n = grind (arith, eqb-true, eq-eqb, ne_eqb)

module _ (ids : List ℕ) where
  -- an id is among those before it
  pub seen_law : {b : Bool} (i : ℕ) → b ≡ list_any (λ y. eqb y (get_or ids i 0)) (take i ids) → i < length ids → b ≡ seen_before ids i
  seen_law i e h =
      e ∙ any_below (λ y. eqb y (get_or ids i 0)) ids 0 i (omega arith)
      ∙ some_ext i _ _ (λ j _. eqb-swap (get_or ids j 0) (get_or ids i 0))

  pub many_ids : 8 < length ids → true ≡ bad_list ids
  unfolding bad_list
  many_ids h = rw (lt-ltb 8 (length ids) h, or-true (eqb (length ids) 0))

  pub few_ids : {b : Bool} → (length ids ≡ 0 → ⊥) → length ids ≤ 8 → b ≡ some_below (length ids) (seen_before ids) → b ≡ bad_list ids
  unfolding bad_list
  few_ids h l e = rw (ne_eqb (length ids) 0 h, le-ltb 8 (length ids) l) e

pub ruleset bad_ways = (some_loop, seen_law)

-- ---- the table that setup gives

module _ (ids : List ℕ) {b : Bool} (e : b ≡ bad_list ids) where
  pub not_over : b ≡ false → length ids ≤ 8
  not_over h = ⊎_elim (λ l. absurd (never (sym (many_ids ids l)) (sym e ∙ h))) (λ l. l) (lt_or_le 8 (length ids))

  module _ (attached first : ℕ) {t : Table} (z : t ≡ zero_table) where
    pub setup_refused : b ≡ true → t ≡ setup_table ids attached first
    unfolding setup_table
    setup_refused h = rw (← e, h) z

    pub setup_made : {l : List path.Path} → b ≡ false → l ≡ paths_of ids
        → record { live = t.live; next = first; count = length ids; attached = attached; paths = l; units = t.units; tasks = t.tasks } ≡ setup_table ids attached first
    unfolding setup_table fresh_table zero_table
    setup_made h k = rw (← e, h, z, k)

pub ruleset setup_ways = (not_over, setup_refused, setup_made)
