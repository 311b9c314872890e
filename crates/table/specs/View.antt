-- What a table means: its shape, the task that is live at a place, and sums over the live tasks.
use Rattle.std.specs.Prelude.{ℕ, ◌<◌, ◌^◌, ◌≡◌, cond, eqb, length}
use Rattle.std.proofs.Math.Option.{Option, none, some}
use Rattle.task.specs.Index.{sum, one}
use Rattle.task.specs.Map.{is_live}
use Rattle.task.specs.declared.Task.{Task}
use Rattle.table.specs.Tables.{task_at}
use Rattle.table.specs.declared.Table.{Table}

-- ---- what the machine's types give: 64 records, 8 paths, 8 units, a map of 64 bits

pub record Shaped (t : Table) : Type 0 where
  pub map : t.live < 2 ^ 64
  pub next : t.next < 2 ^ 64
  pub paths : length t.paths ≡ 8
  pub units : length t.units ≡ 8
  pub tasks : length t.tasks ≡ 64

-- ---- its tasks

-- the task that is live in record i
unfoldable pub at : Table → ℕ → Option Task
at t i = cond (is_live t.live i) (some (task_at t i)) none

-- what a record weighs, by a weight of tasks: nothing where it is dead
abbrev pub weight_at : (Task → ℕ) → Option Task → ℕ
weight_at f none = 0
weight_at f (some a) = f a

-- the weight of all live tasks: with the weight 1 for every task it counts them, with 1 for the tasks of a path and 0
-- for all others those of that path
unfoldable pub weight : (Task → ℕ) → Table → ℕ
weight f t = sum 64 (λ i. weight_at f (at t i))

-- how many live tasks a path has
abbrev pub live_of : ℕ → Table → ℕ
live_of path t = weight (λ a. one (eqb a.path path)) t
