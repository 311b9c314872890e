-- What is promised beside the contracts: the check is exact, its map of what was seen misses no clash, setup gives a
-- sound table, and each change keeps a table sound under the condition that the engine has. Each is proved in proofs/.
use Rattle.std.specs.Prelude.{ℕ, ◌<◌, ◌^◌, ◌≡◌, Bool, true, false, List, length, get_or, Option, Some, None}
use Rattle.task.specs.Tasks.{is_aca, is_running}
use Rattle.task.specs.Map.{is_live}
use Rattle.task.specs.Selections.{every_task, named, aca_on, running_on}
use Rattle.wire.specs.declared.codes.Kind.{Kind}
use Rattle.task.specs.declared.Sequel.{Sequel}
use Rattle.task.specs.declared.Task.{Task}
use Rattle.task.specs.declared.select.Selection.{Selection}
use Rattle.table.specs.Tables.{path_at, unit_at, task_at, is_attached, any_live, with_paths, with_units}
use Rattle.table.specs.Tables.{marked_in, attention_gone_in, reset_attention_in, cleared_attention_in, others_on, claimed_in, aca_cleared_in}
use Rattle.table.specs.Tables.{accepted, ended_by, altered_at, started, restarted, finished, reset_of}
use Rattle.table.specs.Setup.{bad_list, setup_table}
use Rattle.table.specs.View.{Shaped}
use Rattle.sound.specs.Sound.{Sound, alike, sound_of}
use Rattle.sound.specs.Seen.{may_clash, seen_below}
use Rattle.table.specs.declared.Table.{Table}

-- ---- the check answers true exactly for sound tables

abbrev pub CheckIsExact : Type 0
CheckIsExact = (t : Table) → (sound_of t ≡ true → Sound t) × (Sound t → sound_of t ≡ true)

-- ---- the map of what was seen misses no clash

-- where none of a task's bits is set, no live record below shares its name, its arrival number or what a unit can
-- have once
abbrev pub ClearIsFree : Type 0
ClearIsFree = (t : Table) (i j : ℕ) (a : Task) → may_clash (seen_below t i) a ≡ false → j < i → is_live t.live j ≡ true
    → alike a (task_at t j) ≡ false

-- a sound table with records 0 and 1 live, where a bit of record 1 is set by record 0, or none is
pub record SoundPair (set : Bool) : Type 0 where
  pub table : Table
  pub sound : sound_of table ≡ true
  pub lower : is_live table.live 0 ≡ true
  pub upper : is_live table.live 1 ≡ true
  pub bits : may_clash (seen_below table 1) (task_at table 1) ≡ set

-- there are tables where none is, and the walk has nothing to do
abbrev pub SomeAreClear : Type 0
SomeAreClear = SoundPair false

-- and tables where one is: the bits alone do not say that two clash
abbrev pub SomeShareABit : Type 0
SomeShareABit = SoundPair true

-- ---- sound, and of the machine's shape

pub record Good (t : Table) : Type 0 where
  pub shaped : Shaped t
  pub sound : Sound t

abbrev pub FreshIsGood : Type 0
FreshIsGood = (ids : List ℕ) (attached next : ℕ) → next < 2 ^ 64 → bad_list ids ≡ false → Good (setup_table ids attached next)

-- a command's path and tag are free, its path is listed, its unit attached; kind ACA only for the owner of the unit's
-- ACA with no ACA task live
pub record MayCome (t : Table) (path tag unit : ℕ) (kind : Kind) : Type 0 where
  pub listed : path < t.count
  pub attached : is_attached t unit ≡ true
  pub free : any_live t (named path tag) ≡ false
  pub owner : is_aca kind ≡ true → (unit_at t unit).aca ≡ Some path
  pub alone : is_aca kind ≡ true → any_live t (aca_on unit) ≡ false

abbrev pub AcceptKeeps : Type 0
AcceptKeeps = (t : Table) (path tag unit : ℕ) (kind : Kind) (sequel : Sequel) → Good t → MayCome t path tag unit kind → Good (accepted t path tag unit kind sequel)

abbrev pub EndKeeps : Type 0
EndKeeps = (t : Table) (s : Selection) → Good t → Good (ended_by t s)

-- b has the number, tag, path, unit and kind of a
pub record SameTask (a b : Task) : Type 0 where
  pub arrival : b.arrival ≡ a.arrival
  pub tag : b.tag ≡ a.tag
  pub path : b.path ≡ a.path
  pub unit : b.unit ≡ a.unit
  pub kind : b.kind ≡ a.kind

-- a record may change so where its task does not run then, or nothing runs on its unit before: a start, a finish that
-- leaves the task unconfirmed, and a restart
abbrev pub AlterKeeps : Type 0
AlterKeeps = (t : Table) (i : ℕ) (b : Task) → Good t → SameTask (task_at t i) b → (is_running b.phase ≡ true → any_live t (running_on b.unit) ≡ false) → Good (altered_at t i b)

abbrev pub StartedKeeps : Type 0
StartedKeeps = (t : Table) (i : ℕ) → Good t → any_live t (running_on (task_at t i).unit) ≡ false → Good (started t i)

abbrev pub RestartedKeeps : Type 0
RestartedKeeps = (t : Table) (i offset : ℕ) → Good t → Good (restarted t i offset)

abbrev pub FinishedKeeps : Type 0
FinishedKeeps = (t : Table) (i : ℕ) (failed : Bool) (transferred : ℕ) → Good t → Good (finished t i failed transferred)

abbrev pub ClaimKeeps : Type 0
ClaimKeeps = (t : Table) (unit path : ℕ) → Good t → is_attached t unit ≡ true → path < t.count → Good (with_units t (claimed_in t.units unit path))

-- an ACA goes with its task: no ACA task may be left there, on the unit, Some unit, or on every unit, None
abbrev pub no_aca_left : Table → Option ℕ → Type 0
no_aca_left t None = (unit : ℕ) → any_live t (aca_on unit) ≡ false
no_aca_left t (Some unit) = any_live t (aca_on unit) ≡ false

abbrev pub ClearKeeps : Type 0
ClearKeeps = (t : Table) (place : Option ℕ) → Good t → no_aca_left t place → Good (with_units t (aca_cleared_in t.units place))

abbrev pub MarkKeeps : Type 0
MarkKeeps = (t : Table) (p : ℕ) (full : Bool) → Good t → p < t.count → Good (with_paths t (marked_in t.paths p full))

abbrev pub AttentionGoneKeeps : Type 0
AttentionGoneKeeps = (t : Table) (p : ℕ) → Good t → p < t.count → Good (with_paths t (attention_gone_in t.paths p))

abbrev pub ResetAttentionKeeps : Type 0
ResetAttentionKeeps = (t : Table) (unmark : Bool) → Good t → Good (with_paths t (reset_attention_in t.paths t.count unmark))

abbrev pub ClearedAttentionKeeps : Type 0
ClearedAttentionKeeps = (t : Table) (unit sender : ℕ) → Good t → Good (with_paths t (cleared_attention_in t.paths (others_on t unit sender)))

abbrev pub ResetOfKeeps : Type 0
ResetOfKeeps = (t : Table) → Good t → Good (reset_of t)

-- total reset gives the table that setup gives for the ids of the listed paths, but arrival numbers go on
abbrev pub ResetIsSetup : Type 0
ResetIsSetup = (t : Table) (ids : List ℕ) → Good t → length ids ≡ t.count → ((p : ℕ) → p < t.count → (path_at t p).id ≡ get_or ids p 0)
    → reset_of t ≡ setup_table ids t.attached t.next

-- and it is the pass that ends every task, with the marks and ACAs gone and reset attention on every listed path
abbrev pub ResetIsEnding : Type 0
ResetIsEnding = (t : Table) → Good t → ended_by (with_units (with_paths t (reset_attention_in t.paths t.count true)) (aca_cleared_in t.units None)) every_task ≡ reset_of t
