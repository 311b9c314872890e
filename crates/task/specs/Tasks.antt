-- A task's record: the numbers of kinds and phases, what follows its finish, what its position means, the wiped record,
-- a task as its command is accepted, and how it changes while it is live.
use Rattle.std.specs.Prelude.{ℕ, Bool, true, false}
pub use Rattle.wire.specs.Codes.{kind_number}
use Rattle.wire.specs.declared.codes.Kind.{Kind}
use Rattle.wire.specs.declared.codes.Kind.TheVariants as kind
use Rattle.task.specs.declared.Phase.{Phase}
use Rattle.task.specs.declared.Phase.TheVariants as phase
use Rattle.task.specs.declared.Sequel.{Sequel}
use Rattle.task.specs.declared.Sequel.TheVariants as sequel
use Rattle.task.specs.declared.Task.{Task}

abbrev pub is_aca : Kind → Bool
is_aca kind.Aca = true
is_aca kind.Head = false
is_aca kind.Ordered = false
is_aca kind.Simple = false

abbrev pub is_head : Kind → Bool
is_head kind.Aca = false
is_head kind.Head = true
is_head kind.Ordered = false
is_head kind.Simple = false

abbrev pub phase_number : Phase → ℕ
phase_number phase.Waiting = 0
phase_number phase.Running = 1
phase_number phase.Unconfirmed = 2

abbrev pub is_waiting : Phase → Bool
is_waiting phase.Waiting = true
is_waiting phase.Running = false
is_waiting phase.Unconfirmed = false

abbrev pub is_running : Phase → Bool
is_running phase.Waiting = false
is_running phase.Running = true
is_running phase.Unconfirmed = false

abbrev pub is_unconfirmed : Phase → Bool
is_unconfirmed phase.Waiting = false
is_unconfirmed phase.Running = false
is_unconfirmed phase.Unconfirmed = true

-- what follows a finish: the task ends; or, its command had CONFIRM, it waits to be confirmed
abbrev pub is_end : Sequel → Bool
is_end sequel.End = true
is_end sequel.Confirm = false

abbrev pub has_confirm : Sequel → Bool
has_confirm sequel.End = false
has_confirm sequel.Confirm = true

-- ---- the position: how many bytes into the command's data. Both names are the field itself, and the phase says which
-- is meant

-- while the task waits or runs it is the offset that it starts at: that of its last restart, or 0
abbrev pub offset_of : Task → ℕ
offset_of a = a.position

-- while it waits to be confirmed it is how many bytes the finish said were transferred
abbrev pub transferred_of : Task → ℕ
transferred_of a = a.position

-- ---- a record as it begins

-- a record wiped to zero
abbrev pub no_task : Task
no_task = record {
  arrival = 0;
  position = 0;
  tag = 0;
  path = 0;
  unit = 0;
  kind = kind.Aca;
  phase = phase.Waiting;
  sequel = sequel.End;
}

-- a task as it is when its command is accepted
abbrev pub accepted_as : ℕ → ℕ → ℕ → ℕ → Kind → Sequel → Task
accepted_as arrival path tag unit kind sequel = record {
  arrival = arrival;
  position = 0;
  tag = tag;
  path = path;
  unit = unit;
  kind = kind;
  phase = phase.Waiting;
  sequel = sequel;
}

-- ---- a record that changes while its task is live; the fields not named stay

abbrev pub in_phase : Phase → ℕ → Task → Task
in_phase phase position a = record {
  arrival = a.arrival;
  position = position;
  tag = a.tag;
  path = a.path;
  unit = a.unit;
  kind = a.kind;
  phase = phase;
  sequel = a.sequel;
}

-- it runs; its position stays, which for a task that waits is its offset
abbrev pub runs : Task → Task
runs a = in_phase phase.Running (offset_of a) a

-- the device has finished after so many bytes, and it waits to be confirmed
abbrev pub awaits : ℕ → Task → Task
awaits transferred a = in_phase phase.Unconfirmed transferred a

-- it waits again, to start at an offset
abbrev pub restarts : ℕ → Task → Task
restarts offset a = in_phase phase.Waiting offset a
