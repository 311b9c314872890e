-- One step of the records: what a call does to them, said as one value; what a finish leaves, as a step; who has a
-- task of a selection, and on which units one of them runs.
use Rattle.std.specs.Prelude.{ℕ, Bool, cond, ◌&&◌, List, eqb, ltb, is_some, Option, Some, None}
use Rattle.task.specs.Index.{some_below, map_of}
use Rattle.task.specs.Map.{is_live}
use Rattle.task.specs.Tasks.{is_running, has_confirm, runs, awaits, restarts}
use Rattle.task.specs.Selections.{running_as}
use Rattle.task.specs.declared.Task.{Task}
use Rattle.task.specs.declared.select.Selection.{Selection}
use Rattle.table.specs.Tables.{task_at, picks_at, pick_of, accepted, ended_by, altered_at, claimed_in}
use Rattle.table.specs.declared.Unit as unit
use Rattle.table.specs.declared.Table.{Table}
use Rattle.table.specs.declared.steps.Alteration.{Alteration}
use Rattle.table.specs.declared.steps.Alteration.TheVariants.{Run, Restart, Await}
use Rattle.table.specs.declared.steps.Step.{Step}
use Rattle.table.specs.declared.steps.Step.TheVariants.{Stay, Accept, Alter, End}

-- a task runs; it waits again, to start at an offset; it waits to be confirmed, with the bytes transferred
abbrev pub altered_by : Alteration → Task → Task
altered_by Run a = runs a
altered_by (Restart offset) a = restarts offset a
altered_by (Await transferred) a = awaits transferred a

-- the table after a step
unfoldable pub stepped : Table → Step → Table
stepped t Stay = t
stepped t (Accept path tag unit kind sequel) = accepted t path tag unit kind sequel
stepped t (Alter place by) = altered_at t place (altered_by by (task_at t place))
stepped t (End s) = ended_by t s

-- ---- a finish of the task a in record i: what happens to the records, and to the units

-- record i is live and its task a runs: `Tables.runs_at` by its parts
abbrev pub runs_in : ℕ → ℕ → Task → Bool
runs_in live i a = ltb i 64 && (is_live live i && is_running a.phase)

-- with CONFIRM it stays live and waits to be confirmed, with the bytes transferred; else it ends. Where it does not run
-- there, nothing changes
unfoldable pub finish_step : ℕ → ℕ → Task → ℕ → Step
finish_step live i a transferred = cond (runs_in live i a) (cond (has_confirm a.sequel) (Alter i (Await transferred)) (End (running_as a.arrival))) Stay

-- where it failed, its unit gets ACA owned by its path, unless it has one
unfoldable pub finish_units : List unit.Unit → ℕ → ℕ → Task → Bool → List unit.Unit
finish_units units live i a failed = cond (runs_in live i a) (cond failed (claimed_in units a.unit a.path) units) units

-- ---- who has a live task that is picked: the map of the paths, by their places below 64, and none where there is no
-- such task, which is where the scan finds none

abbrev pub holds_one : Table → Selection → ℕ → Bool
holds_one t s p = some_below 64 (λ i. picks_at t s i && eqb (task_at t i).path p)

unfoldable pub holders_of : Table → Selection → Option ℕ
holders_of t s = cond (is_some (pick_of t s)) (Some (map_of 64 (holds_one t s))) None

-- ---- where a live task that is picked runs: the map of the units

-- the task in record i runs, and is live and picked
abbrev pub runs_picked : Table → Selection → ℕ → Bool
runs_picked t s i = is_running (task_at t i).phase && picks_at t s i

abbrev pub runs_one : Table → Selection → ℕ → Bool
runs_one t s unit = some_below 64 (λ i. runs_picked t s i && eqb (task_at t i).unit unit)

unfoldable pub running_among : Table → Selection → ℕ
running_among t s = map_of 8 (runs_one t s)
