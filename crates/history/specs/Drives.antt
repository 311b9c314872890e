-- Drives: the engine's own calls; seven that differ from it in one thing and break demand 3 on a short trace; those
-- that work at the first call and afterwards only echo; and one that refuses every call, which demand 3 alone does
-- not refuse.
use Rattle.std.specs.Prelude.{Result, Ok, Err, ℕ, zero, suc, ◌-◌, ◌<◌, ◌^◌, ◌≡◌, cond, List, [], ◌∷◌, ◌++◌, length, set, eqb, Some, None}
use Rattle.wire.specs.Codes
use Rattle.wire.specs.Fields.{byte}
use Rattle.wire.specs.Messages.{read_of}
use Rattle.wire.specs.declared.codes.Refusal.{Refusal}
use Rattle.reply.specs.declared.Reply.TheVariants as reply
use Rattle.task.specs.Selections.{select, every_task, named}
use Rattle.task.specs.declared.select.Whose.TheVariants.{Anyone}
use Rattle.task.specs.declared.select.Selection.{Selection}
use Rattle.table.specs.Tables.{ended_by}
use Rattle.table.specs.declared.Table.{Table}
use Rattle.plan.specs.Plans.{asked_in}
use Rattle.engine.specs.Calls.{message_of, start_of, finish_of, total_reset_of, setup_of, replied, out}
use Rattle.rules.specs.declared.manage.Order.{Order}
use Rattle.rules.specs.declared.manage.Order.TheVariants.{AbortTask, AbortTaskSet, ClearTaskSet, ClearAca, UnitReset, TargetReset}
use Rattle.plan.specs.declared.Request.{Request}
use Rattle.plan.specs.declared.Request.TheVariants.{Command, Manage, Confirm}
use Rattle.plan.specs.declared.Asked.{Asked}
use Rattle.plan.specs.declared.Answer.{Answer}
use Rattle.plan.specs.declared.Answer.TheVariants as answer
use Rattle.engine.specs.declared.Outcome.{Outcome}
use Rattle.history.specs.Trace.{Event, Message, Start, Finish, TotalReset, Told}
use Rattle.history.specs.Ledger.{is_open, ledger, count_of}
use Rattle.history.specs.Demand.{Call, told, Contract, Engine, Chained, last_table, Agrees, Demand3}

-- a drive: what it hands back for an event and the table handed in
abbrev pub Drive : Type 0
Drive = Event → Table → Outcome

-- the reply buffer as it is left after an event that was answered so; a start and a total reset have none
unfoldable pub left_after : Event → Result Answer Refusal → List ℕ
left_after (Message m buf) a = replied a buf
left_after (Start unit) a = []
left_after (Finish arrival status sense transferred buf) a = replied a buf
left_after TotalReset a = []

-- the calls of a drive, one for each event, each given the table that the last one handed back
unfoldable pub calls_of : Drive → Table → List Event → List Call
calls_of drive t [] = []
calls_of drive t (ev ∷ evs) = record { event = ev; outcome = drive ev t; left = left_after ev (drive ev t).answer } ∷ calls_of drive (drive ev t).table evs

abbrev pub ByDrive : Drive → Contract
ByDrive drive ev t o left = o ≡ drive ev t

-- the engine as a drive
unfoldable pub engine : Drive
engine (Message m buf) t = message_of t m (length buf)
engine (Start unit) t = start_of t unit
engine (Finish arrival status sense transferred buf) t = finish_of t arrival status sense transferred (length buf)
engine TotalReset t = total_reset_of t

-- from any table and over any events its calls meet the contracts; so after any setup ledger and table agree
abbrev pub EngineChains : Type 0
EngineChains = (t : Table) (evs : List Event) → Chained Engine t (calls_of engine t evs)

abbrev pub EngineAgrees : Type 0
EngineAgrees = (ids : List ℕ) (attached first : ℕ) (evs : List Event) → first < 2 ^ 64
    → let t = (setup_of ids attached first).table in Agrees ids (told (calls_of engine t evs)) (last_table t (calls_of engine t evs))

-- ---- the engine's outcome, with one thing wrong

abbrev pub with_table : Outcome → Table → Outcome
with_table o t = record { table = t; answer = o.answer; ended = o.ended; to = o.to; stops = o.stops }

-- the task with a tag of every path below p is ended
unfoldable pub ended_by_tag : ℕ → Table → ℕ → Table
ended_by_tag zero t tag = t
ended_by_tag (suc p) t tag = ended_by (ended_by_tag p t tag) (named p tag)

-- ABORT TASK ends by the tag without the path
abbrev pub aborts_by_tag : Outcome → Order → Outcome
aborts_by_tag o (AbortTask tag2) = with_table o (ended_by_tag 8 o.table tag2)
aborts_by_tag o (AbortTaskSet lun) = o
aborts_by_tag o (ClearTaskSet lun) = o
aborts_by_tag o (ClearAca lun) = o
aborts_by_tag o (UnitReset lun) = o
aborts_by_tag o TargetReset = o

abbrev pub requests_by_tag : Outcome → Request → Outcome
requests_by_tag o (Command lun flags) = o
requests_by_tag o (Manage order) = aborts_by_tag o order
requests_by_tag o (Confirm offset complete) = o

abbrev pub asks_by_tag : Outcome → Result Asked Refusal → Outcome
asks_by_tag o (Err n) = o
asks_by_tag o (Ok a) = requests_by_tag o a.request

unfoldable pub goes_by_tag : Drive
goes_by_tag (Message m buf) t = asks_by_tag (message_of t m (length buf)) (asked_in (read_of m))
goes_by_tag (Start unit) t = engine (Start unit) t
goes_by_tag (Finish arrival status sense transferred buf) t = engine (Finish arrival status sense transferred buf) t
goes_by_tag TotalReset t = engine TotalReset t

-- total reset starts the arrival numbers anew, at 1
abbrev pub from_one : Table → Table
from_one t = record { live = t.live; next = 1; count = t.count; attached = t.attached; paths = t.paths; units = t.units; tasks = t.tasks }

unfoldable pub numbers_anew : Drive
numbers_anew (Message m buf) t = engine (Message m buf) t
numbers_anew (Start unit) t = engine (Start unit) t
numbers_anew (Finish arrival status sense transferred buf) t = engine (Finish arrival status sense transferred buf) t
numbers_anew TotalReset t = with_table (total_reset_of t) (from_one (total_reset_of t).table)

-- every finish is answered by a STATUS
unfoldable pub finishes_all : Drive
finishes_all (Message m buf) t = engine (Message m buf) t
finishes_all (Start unit) t = engine (Start unit) t
finishes_all (Finish arrival status sense transferred buf) t = out (finish_of t arrival status sense transferred (length buf)).table (Ok (answer.Reply (reply.Status 0 status sense))) 0
finishes_all TotalReset t = engine TotalReset t

-- a start loses the tasks
unfoldable pub loses_tasks : Drive
loses_tasks (Message m buf) t = engine (Message m buf) t
loses_tasks (Start unit) t = with_table (start_of t unit) (ended_by (start_of t unit).table every_task)
loses_tasks (Finish arrival status sense transferred buf) t = engine (Finish arrival status sense transferred buf) t
loses_tasks TotalReset t = engine TotalReset t

-- a task with CONFIRM is ended at its finish, as any other
abbrev pub numbered : ℕ → Selection
numbered arrival = select (Some arrival) Anyone None None None

unfoldable pub ends_at_finish : Drive
ends_at_finish (Message m buf) t = engine (Message m buf) t
ends_at_finish (Start unit) t = engine (Start unit) t
ends_at_finish (Finish arrival status sense transferred buf) t =
    with_table (finish_of t arrival status sense transferred (length buf)) (ended_by (finish_of t arrival status sense transferred (length buf)).table (numbered arrival))
ends_at_finish TotalReset t = engine TotalReset t

-- every CONFIRM STATUS is answered as if COMPLETE were set
abbrev pub completed : List ℕ → List ℕ
completed m = cond (eqb (byte m 1) Codes.confirm_status) (set m 16 0x80) m

unfoldable pub completes_all : Drive
completes_all (Message m buf) t = engine (Message (completed m) buf) t
completes_all (Start unit) t = engine (Start unit) t
completes_all (Finish arrival status sense transferred buf) t = engine (Finish arrival status sense transferred buf) t
completes_all TotalReset t = engine TotalReset t

-- every record is said to be live
abbrev pub all_live : Table → Table
all_live t = record { live = 2 ^ 64 - 1; next = t.next; count = t.count; attached = t.attached; paths = t.paths; units = t.units; tasks = t.tasks }

unfoldable pub invents_live : Drive
invents_live ev t = with_table (engine ev t) (all_live (engine ev t).table)

-- none of them meets demand 3
pub record WrongDrives : Type 0 where
  pub not_by_tag : Demand3 (ByDrive goes_by_tag) → ⊥
  pub not_numbers_anew : Demand3 (ByDrive numbers_anew) → ⊥
  pub not_finishes_all : Demand3 (ByDrive finishes_all) → ⊥
  pub not_loses : Demand3 (ByDrive loses_tasks) → ⊥
  pub not_at_finish : Demand3 (ByDrive ends_at_finish) → ⊥
  pub not_completes_all : Demand3 (ByDrive completes_all) → ⊥
  pub not_invents : Demand3 (ByDrive invents_live) → ⊥

-- ---- drives that work at the first call and afterwards only echo

-- a drive that remembers: what it hands back for what was told so far, an event and the table handed in
abbrev pub Remembering : Type 0
Remembering = List Told → Event → Table → Outcome

unfoldable pub calls_by : Remembering → List Told → Table → List Event → List Call
calls_by d h t [] = []
calls_by d h t (ev ∷ evs) =
    record { event = ev; outcome = d h ev t; left = left_after ev (d h ev t).answer }
    ∷ calls_by d (h ++ (record { event = ev; answer = (d h ev t).answer } ∷ [])) (d h ev t).table evs

-- what demand 3 says of its calls after every setup
abbrev pub Meets : Remembering → Type 0
Meets d = (ids : List ℕ) (attached first : ℕ) (evs : List Event) → first < 2 ^ 64
    → let t = (setup_of ids attached first).table in Agrees ids (told (calls_by d [] t evs)) (last_table t (calls_by d [] t evs))

-- its first call is the engine's; every later one hands back the table handed in
pub record Echoes (d : Remembering) : Type 0 where
  pub works : (ev : Event) (t : Table) → d [] ev t ≡ engine ev t
  pub echo : (x : Told) (h : List Told) (ev : Event) (t : Table) → (d (x ∷ h) ev t).table ≡ t

-- how many commands are open in the ledger of its calls
abbrev pub open_after : Remembering → List ℕ → Table → List Event → ℕ
open_after d ids t evs = count_of is_open (ledger ids (told (calls_by d [] t evs)))

-- those that go on answering as demand 2 has it for the table handed in break demand 3; and so does every one by whose
-- answers the number of open commands changes after the first call, since the number of live records does not. Those
-- that refuse every later call meet it
pub record Echoing : Type 0 where
  pub breaks : (d : Remembering) → Echoes d → ((x : Told) (h : List Told) (ev : Event) (t : Table) → (d (x ∷ h) ev t).answer ≡ (engine ev t).answer) → Meets d → ⊥
  pub miscounts : (d : Remembering) → Echoes d → (ids : List ℕ) (attached first : ℕ) (ev : Event) (rest more : List Event) → first < 2 ^ 64
      → (open_after d ids (setup_of ids attached first).table (ev ∷ rest) ≡ open_after d ids (setup_of ids attached first).table (ev ∷ more) → ⊥) → Meets d → ⊥
  pub meets : (d : Remembering) → Echoes d
      → ((x : Told) (h : List Told) (ev : Event) (t : Table) → (n : Refusal) × ((d (x ∷ h) ev t).answer ≡ Err n)) → Meets d

-- ---- what demand 3 alone does not refuse: a drive that refuses every call. Demand 2 does, at example c.

unfoldable pub refuses_all : Drive
refuses_all ev t = out t (Err Codes.not_handled) 0

abbrev pub RefusingMeets : Type 0
RefusingMeets = Demand3 (ByDrive refuses_all)
