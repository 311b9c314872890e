-- What is promised of the table beside the contracts: what each change does to the tasks. Each is proved in proofs/.
use Rattle.std.specs.Prelude.{ℕ, ◌+◌, ◌<◌, ◌≡◌, true, cond, List, is_some}
use Rattle.std.proofs.Math.Option.{some}
use Rattle.std.specs.Int.Count.{ones}
use Rattle.task.specs.Tasks.{runs}
use Rattle.task.specs.Selections.{picks}
use Rattle.wire.specs.declared.codes.Kind.{Kind}
use Rattle.task.specs.declared.Sequel.{Sequel}
use Rattle.task.specs.declared.Task.{Task}
use Rattle.task.specs.declared.select.Selection.{Selection}
use Rattle.table.specs.Tables.{any_live, pick_of, has_room, new_task, accepted, ended_by, altered_at, started, reset_of}
use Rattle.table.specs.Setup.{setup_table}
use Rattle.table.specs.View.{Shaped, at, weight}
use Rattle.table.specs.declared.Table.{Table}

-- ---- some live task is picked exactly where the scan finds one

abbrev pub AnyIsFound : Type 0
AnyIsFound = (t : Table) (s : Selection) → Shaped t → is_some (pick_of t s) ≡ any_live t s

-- ---- what a change does to the tasks: by their weight, for any weight of tasks

-- where there is room, a new task adds its own weight
abbrev pub AcceptWeighs : Type 0
AcceptWeighs = (f : Task → ℕ) (t : Table) (path tag unit : ℕ) (kind : Kind) (sequel : Sequel) → Shaped t → has_room t ≡ true
    → weight f (accepted t path tag unit kind sequel) ≡ weight f t + f (new_task t path tag unit kind sequel)

-- ending takes out what is picked, and nothing else
abbrev pub EndWeighs : Type 0
EndWeighs = (f : Task → ℕ) (t : Table) (s : Selection) → Shaped t → weight f (ended_by t s) ≡ weight (λ a. cond (picks s a) 0 (f a)) t

-- a record that changes has the new task's weight in place of the old one's
abbrev pub AlterWeighs : Type 0
AlterWeighs = (f : Task → ℕ) (t : Table) (i : ℕ) (a b : Task) → Shaped t → i < 64 → at t i ≡ some a → weight f (altered_at t i b) + f a ≡ weight f t + f b

-- a start changes no weight that does not look at the phase
abbrev pub StartWeighs : Type 0
StartWeighs = (f : Task → ℕ) (t : Table) (i : ℕ) → Shaped t → ((a : Task) → f (runs a) ≡ f a) → weight f (started t i) ≡ weight f t

-- setup and total reset leave no task
abbrev pub SetupWeighs : Type 0
SetupWeighs = (f : Task → ℕ) (ids : List ℕ) (attached next : ℕ) → weight f (setup_table ids attached next) ≡ 0

abbrev pub ResetWeighs : Type 0
ResetWeighs = (f : Task → ℕ) (t : Table) → weight f (reset_of t) ≡ 0

-- the ones of the live map are the live tasks
abbrev pub OnesAreLive : Type 0
OnesAreLive = (t : Table) → Shaped t → ones t.live ≡ weight (λ a. 1) t
