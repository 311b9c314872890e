-- The table that setup gives: no task, no mark, no ACA, reset attention on every path; and the all-zero table where
-- setup is refused.
use Rattle.std.specs.Prelude.{ℕ, ◌-◌, Bool, false, cond, ◌||◌, List, [], ◌∷◌, ◌++◌, length, get_or, replicate, eqb, ltb}
use Rattle.task.specs.Index.{some_below}
use Rattle.task.specs.Tasks.{no_task}
use Rattle.table.specs.Tables.{no_path, no_unit, zero_table}
use Rattle.table.specs.declared.Attention.TheVariants as attention
use Rattle.table.specs.declared.Path as path
use Rattle.table.specs.declared.Table.{Table}

-- id i stands among those before it
abbrev pub seen_before : List ℕ → ℕ → Bool
seen_before ids i = some_below i (λ j. eqb (get_or ids i 0) (get_or ids j 0))

-- 0 paths, over 8, or an id twice
unfoldable pub bad_list : List ℕ → Bool
bad_list ids = eqb (length ids) 0 || (ltb 8 (length ids) || some_below (length ids) (seen_before ids))

-- each id with no mark and reset attention
abbrev pub fresh_path : ℕ → path.Path
fresh_path id = record { id = id; full = false; attention = attention.Reset }

unfoldable pub fresh_paths : List ℕ → List path.Path
fresh_paths [] = []
fresh_paths (id ∷ ids) = fresh_path id ∷ fresh_paths ids

-- the path list: the fresh paths, and the rest of the 8 wiped
unfoldable pub paths_of : List ℕ → List path.Path
paths_of ids = fresh_paths ids ++ replicate (8 - length ids) no_path

unfoldable pub fresh_table : List ℕ → ℕ → ℕ → Table
fresh_table ids attached first = record {
  live = 0;
  next = first;
  count = length ids;
  attached = attached;
  paths = paths_of ids;
  units = replicate 8 no_unit;
  tasks = replicate 64 no_task;
}

unfoldable pub setup_table : List ℕ → ℕ → ℕ → Table
setup_table ids attached first = cond (bad_list ids) zero_table (fresh_table ids attached first)
