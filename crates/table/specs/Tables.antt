-- The task table: what it holds, what the rules ask of it, and how it changes. A bad index changes nothing.
use Rattle.std.specs.Prelude.{ℕ, ◌+◌, ◌-◌, ◌/◌, ◌%◌, ◌^◌, Bool, true, false, cond, not, ◌&&◌, List, get_or, set, replicate, eqb, ltb, leb, Option, Some, None}
use Rattle.task.specs.Index.{first, some_below, map_of, map_at}
use Rattle.task.specs.Tasks.{no_task, accepted_as, is_running, has_confirm, runs, awaits, restarts}
use Rattle.task.specs.Map.{is_live, lowest_free, with_bit}
use Rattle.task.specs.Selections.{picks, picks_live, from_on, running_as}
use Rattle.task.specs.Scan.{scan}
use Rattle.wire.specs.declared.codes.Kind.{Kind}
use Rattle.task.specs.declared.Sequel.{Sequel}
use Rattle.task.specs.declared.Task.{Task}
use Rattle.task.specs.declared.select.Selection.{Selection}
use Rattle.task.specs.declared.scan.Pick.{Pick}
use Rattle.table.specs.declared.Attention.{Attention}
use Rattle.table.specs.declared.Attention.TheVariants as attention
use Rattle.table.specs.declared.Path as path
use Rattle.table.specs.declared.Unit as unit
use Rattle.table.specs.declared.Table.{Table}

-- ---- what is wiped to zero

abbrev pub no_path : path.Path
no_path = record { id = 0; full = false; attention = attention.Nothing }

abbrev pub no_unit : unit.Unit
no_unit = record { aca = None }

unfoldable pub zero_table : Table
zero_table = record { live = 0; next = 0; count = 0; attached = 0; paths = replicate 8 no_path; units = replicate 8 no_unit; tasks = replicate 64 no_task }

-- ---- what a table holds

abbrev pub path_at : Table → ℕ → path.Path
path_at t p = get_or t.paths p no_path

abbrev pub unit_at : Table → ℕ → unit.Unit
unit_at t u = get_or t.units u no_unit

abbrev pub task_at : Table → ℕ → Task
task_at t i = get_or t.tasks i no_task

-- bit i of a byte; there is none past 7
abbrev pub bit_of : ℕ → ℕ → Bool
bit_of map i = eqb (map / 2 ^ i % 2) 1

abbrev pub is_attached : Table → ℕ → Bool
is_attached t unit = bit_of t.attached unit

-- the path at p is listed and has the id
abbrev pub has_id : ℕ → ℕ → ℕ → path.Path → Bool
has_id count id p a = ltb p count && eqb a.id id

-- the place of an id in the path list, or 8
unfoldable pub place_of : List path.Path → ℕ → ℕ → ℕ
place_of paths count id = first 8 (λ p. has_id count id p (get_or paths p no_path))

abbrev pub path_of : Table → ℕ → ℕ
path_of t id = place_of t.paths t.count id

-- such a place, and none where it is 8
abbrev pub if_listed : ℕ → Option ℕ
if_listed p = cond (ltb p 8) (Some p) None

abbrev pub is_nothing : Attention → Bool
is_nothing attention.Nothing = true
is_nothing attention.Reset = false
is_nothing attention.Cleared = false

abbrev pub is_reset : Attention → Bool
is_reset attention.Nothing = false
is_reset attention.Reset = true
is_reset attention.Cleared = false

abbrev pub is_cleared : Attention → Bool
is_cleared attention.Nothing = false
is_cleared attention.Reset = false
is_cleared attention.Cleared = true

-- there is an ACA; it is owned by the path
abbrev pub has_aca : Option ℕ → Bool
has_aca None = false
has_aca (Some p) = true

abbrev pub owned_by : Option ℕ → ℕ → Bool
owned_by None path = false
owned_by (Some p) path = eqb p path

-- the ACA of a unit, and none past the end
abbrev pub aca_at : List unit.Unit → ℕ → Option ℕ
aca_at units u = (get_or units u no_unit).aca

-- record i is live and its task is picked; some live task is picked; of those that are, the one that goes next
abbrev pub picks_at : Table → Selection → ℕ → Bool
picks_at t s i = picks_live t.live s i (task_at t i)

unfoldable pub any_live : Table → Selection → Bool
any_live t s = some_below 64 (picks_at t s)

unfoldable pub pick_of : Table → Selection → Option Pick
pick_of t s = scan t.live s t.tasks

-- the last arrival number that a command can take
abbrev pub last_arrival : ℕ
last_arrival = 2 ^ 64 - 2

-- there is room when a record is free and an arrival number is left
unfoldable pub has_room : Table → Bool
has_room t = ltb (lowest_free t.live) 64 && leb t.next last_arrival

-- ---- the table with something else in a part of it

abbrev pub with_tasks : Table → ℕ → List Task → Table
with_tasks t live l = record { live = live; next = t.next; count = t.count; attached = t.attached; paths = t.paths; units = t.units; tasks = l }

abbrev pub with_paths : Table → List path.Path → Table
with_paths t l = record { live = t.live; next = t.next; count = t.count; attached = t.attached; paths = l; units = t.units; tasks = t.tasks }

abbrev pub with_units : Table → List unit.Unit → Table
with_units t l = record { live = t.live; next = t.next; count = t.count; attached = t.attached; paths = t.paths; units = l; tasks = t.tasks }

-- ---- tasks

-- the table with a task in record i, which is live then, and the next arrival number taken
abbrev pub put_at : Table → ℕ → Task → Table
put_at t i a = record {
  live = with_bit t.live i;
  next = t.next + 1;
  count = t.count;
  attached = t.attached;
  paths = t.paths;
  units = t.units;
  tasks = set t.tasks i a;
}

-- a new task, waiting, under the next arrival number
abbrev pub new_task : Table → ℕ → ℕ → ℕ → Kind → Sequel → Task
new_task t path tag unit kind sequel = accepted_as t.next path tag unit kind sequel

-- a new task takes the lowest-numbered free record; with no room nothing changes
unfoldable pub accepted : Table → ℕ → ℕ → ℕ → Kind → Sequel → Table
accepted t path tag unit kind sequel = cond (has_room t) (put_at t (lowest_free t.live) (new_task t path tag unit kind sequel)) t

-- every live task that is picked ends: its record is wiped to zero, and its place is live no more
unfoldable pub ended_by : Table → Selection → Table
ended_by t s =
    with_tasks t (map_of 64 (λ i. is_live t.live i && not (picks s (task_at t i))))
    (map_at (λ i a. cond (picks_live t.live s i a) no_task a) 0 t.tasks)

-- the live task in record i changes; a dead record stays
unfoldable pub altered_at : Table → ℕ → Task → Table
altered_at t i a = cond (ltb i 64 && is_live t.live i) (with_tasks t t.live (set t.tasks i a)) t

-- it runs; it waits again, to start at an offset
abbrev pub started : Table → ℕ → Table
started t i = altered_at t i (runs (task_at t i))

abbrev pub restarted : Table → ℕ → ℕ → Table
restarted t i offset = altered_at t i (restarts offset (task_at t i))

-- ---- paths and units

abbrev pub marked_path : Bool → path.Path → path.Path
marked_path full a = record { id = a.id; full = full; attention = a.attention }

abbrev pub with_attention : Attention → path.Path → path.Path
with_attention pending a = record { id = a.id; full = a.full; attention = pending }

-- the mark of the path at p, set or cleared
unfoldable pub marked_in : List path.Path → ℕ → Bool → List path.Path
marked_in paths p full = cond (ltb p 8) (set paths p (marked_path full (get_or paths p no_path))) paths

-- the attention of the path at p becomes none
unfoldable pub attention_gone_in : List path.Path → ℕ → List path.Path
attention_gone_in paths p = cond (ltb p 8) (set paths p (with_attention attention.Nothing (get_or paths p no_path))) paths

-- reset attention on every listed path, and with `unmark` its mark gone
abbrev pub with_reset_attention : Bool → path.Path → path.Path
with_reset_attention unmark a = record { id = a.id; full = cond unmark false a.full; attention = attention.Reset }

unfoldable pub reset_attention_in : List path.Path → ℕ → Bool → List path.Path
reset_attention_in paths count unmark = map_at (λ p a. cond (ltb p count) (with_reset_attention unmark a) a) 0 paths

-- cleared attention on every path of a map, unless reset is pending
abbrev pub with_cleared_attention : path.Path → path.Path
with_cleared_attention a = cond (is_reset a.attention) a (with_attention attention.Cleared a)

unfoldable pub cleared_attention_in : List path.Path → ℕ → List path.Path
cleared_attention_in paths others = map_at (λ p a. cond (bit_of others p) (with_cleared_attention a) a) 0 paths

-- the path at p is a listed one, not the sender's, with a live task on the unit; and the map of those paths
abbrev pub is_other_on : Table → ℕ → ℕ → ℕ → Bool
is_other_on t unit sender p = ltb p t.count && (not (eqb p sender) && any_live t (from_on p unit))

unfoldable pub others_on : Table → ℕ → ℕ → ℕ
others_on t unit sender = map_of 8 (is_other_on t unit sender)

-- the unit gets ACA owned by the path, unless it has one
abbrev pub claimed_unit : ℕ → unit.Unit → unit.Unit
claimed_unit path a = record { aca = by_owner a.aca }
  where
    by_owner : Option ℕ → Option ℕ
    by_owner None = Some path
    by_owner (Some p) = Some p

unfoldable pub claimed_in : List unit.Unit → ℕ → ℕ → List unit.Unit
claimed_in units unit path = cond (ltb unit 8) (set units unit (claimed_unit path (get_or units unit no_unit))) units

-- the unit's ACA goes, Some unit, or that of every unit, None
unfoldable pub aca_cleared_in : List unit.Unit → Option ℕ → List unit.Unit
aca_cleared_in units None = replicate 8 no_unit
aca_cleared_in units (Some unit) = cond (ltb unit 8) (set units unit no_unit) units

-- ---- finish and total reset

-- where a task failed, its unit gets ACA owned by its path, unless it has one
abbrev pub claimed_by : Table → Task → Bool → Table
claimed_by t a failed = with_units t (cond failed (claimed_in t.units a.unit a.path) t.units)

-- a task with CONFIRM stays live and waits to be confirmed, with the bytes transferred; any other ends
abbrev pub left_by : Table → ℕ → Task → ℕ → Table
left_by t i a transferred = cond (has_confirm a.sequel) (altered_at t i (awaits transferred a)) (ended_by t (running_as a.arrival))

-- the task in record i is live and runs
abbrev pub runs_at : Table → ℕ → Bool
runs_at t i = ltb i 64 && (is_live t.live i && is_running (task_at t i).phase)

-- the device has finished the task that runs in record i; a dead record, or one whose task does not run, changes
-- nothing
unfoldable pub finished : Table → ℕ → Bool → ℕ → Table
finished t i failed transferred = cond (runs_at t i) (left_by (claimed_by t (task_at t i) failed) i (task_at t i) transferred) t

-- no task, no mark, no ACA, reset attention on every path; arrival numbers go on
unfoldable pub reset_of : Table → Table
reset_of t = record {
  live = 0;
  next = t.next;
  count = t.count;
  attached = t.attached;
  paths = reset_attention_in t.paths t.count true;
  units = replicate 8 no_unit;
  tasks = replicate 64 no_task;
}
