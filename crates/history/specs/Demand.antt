-- Demand 3. Take any calls after one setup, each given the table that the last one handed back; work out the ledger
-- from calls and answers alone; then ledger and table agree.
use Rattle.std.specs.Prelude.{Ok, Err}
use Rattle.std.specs.Prelude.{ℕ, ◌+◌, ◌<◌, ◌≤◌, ◌^◌, ◌≡◌, Bool, true, false, List, [], ◌∷◌, map}
use Rattle.std.proofs.Math.Option.{some}
use Rattle.std.specs.Int.Count.{ones}
use Rattle.wire.specs.Codes
use Rattle.wire.specs.Messages.{read_of}
use Rattle.wire.specs.declared.codes.Refusal.{Refusal}
use Rattle.task.specs.Tasks.{accepted_as}
use Rattle.task.specs.declared.Task.{Task}
use Rattle.table.specs.Tables.{path_of, zero_table}
use Rattle.table.specs.View.{at, live_of}
use Rattle.sound.specs.Promises.{Good}
use Rattle.table.specs.declared.Table.{Table}
use Rattle.plan.specs.Plans.{asking, asked_in}
use Rattle.engine.specs.Calls.{SetupContract, MessageContract, StartContract, FinishContract, TotalResetContract}
use Rattle.rules.specs.declared.manage.Order.{Order}
use Rattle.rules.specs.declared.manage.Order.TheVariants.{AbortTask, AbortTaskSet, ClearTaskSet, ClearAca, UnitReset, TargetReset}
use Rattle.plan.specs.declared.Request.{Request}
use Rattle.plan.specs.declared.Request.TheVariants.{Command, Manage, Confirm}
use Rattle.engine.specs.declared.Outcome.{Outcome}
use Rattle.history.specs.Trace.{Event, Message, Start, Finish, TotalReset, Told, nth, event_numbered, counts_as_status, counts_as_management, counts_as_reset, Accepts, ended, fate_of, place_in, effect_told}
use Rattle.history.specs.Ledger.{Ending, Entry, is_open, times_ended, ledger, count_of, Has, accepted_from, ended_from}

-- ---- calls

-- a call: the event, what was handed back, and the reply buffer as it was left
pub record Call : Type 0 where
  pub event : Event
  pub outcome : Outcome
  pub left : List ℕ

-- what the ledger is told of the calls
abbrev pub told : List Call → List Told
told cs = map (λ (c : Call). record { event = c.event; answer = c.outcome.answer }) cs

-- what a call promises for an event and the table handed in: a condition on what it hands back and leaves in the
-- buffer
abbrev pub Contract : Type 1
Contract = Event → Table → Outcome → List ℕ → Type 0

-- the contracts of the engine's calls, those that its code ensures
abbrev pub Engine : Contract
Engine (Message m buf) t o left = MessageContract t m buf o left
Engine (Start unit) t o left = StartContract t unit o
Engine (Finish arrival status sense transferred buf) t o left = FinishContract t arrival status sense transferred buf o left
Engine TotalReset t o left = TotalResetContract t o

-- each call meets the contract, given the table that the last one handed back
abbrev pub Chained : Contract → Table → List Call → Type 0
Chained C t [] = Unit {0}
Chained C t (c ∷ cs) = C c.event t c.outcome c.left × Chained C c.outcome.table cs

-- the table that the last call handed back
unfoldable pub last_table : Table → List Call → Table
last_table t [] = t
last_table t (c ∷ cs) = last_table c.outcome.table cs

-- ---- ledger and table

-- entry k of the ledger of a trace
abbrev pub EntryAt : List ℕ → List Told → ℕ → Entry → Type 0
EntryAt ids h k e = nth (ledger ids h) k ≡ some e

-- a task as it is when its command is accepted
abbrev pub waiting : Task → Task
waiting a = accepted_as a.arrival a.path a.tag a.unit a.kind a.sequel

-- an entry's command was accepted by an event of the trace, the one whose number stands in the entry
pub record Came (ids : List ℕ) (h : List Told) (e : Entry) : Type 0 where
  pub cause : Told
  pub there : event_numbered h e.accepted ≡ some cause
  pub effect : effect_told ids cause ≡ Accepts (waiting e.task)

-- an ending's event is one of the trace, comes after the acceptance, and by its message or event and its answer it
-- ends the command
pub record Caused (ids : List ℕ) (h : List Told) (e : Entry) (x : Ending) : Type 0 where
  pub after : e.accepted < x.event
  pub cause : Told
  pub there : event_numbered h x.event ≡ some cause
  pub effect : fate_of (effect_told ids cause) e.task ≡ ended x.how

-- ended by status + ended by management + ended by reset + live records, for the path at p
abbrev pub accounted_for : ℕ → List Entry → Table → ℕ
accounted_for p l t = ended_from counts_as_status p l + ended_from counts_as_management p l + ended_from counts_as_reset p l + live_of p t

pub record Agrees (ids : List ℕ) (h : List Told) (t : Table) : Type 0 where
  -- 1. one live record for each open entry, with its path, tag, unit, kind and arrival number and all else, and no
  -- other live record
  pub held : (k : ℕ) (e : Entry) → EntryAt ids h k e → is_open e ≡ true → (i : ℕ) × (i < 64) × (at t i ≡ some e.task)
  pub no_other : (i : ℕ) (a : Task) → i < 64 → at t i ≡ some a → (k : ℕ) × (e : Entry) × EntryAt ids h k e × (is_open e ≡ true) × (e.task ≡ a)
  --    an arrival number names one live record and one accepted command, open or ended
  pub one_record : (i j : ℕ) (a b : Task) → i < 64 → j < 64 → at t i ≡ some a → at t j ≡ some b → a.arrival ≡ b.arrival → i ≡ j
  pub one_entry : (k l : ℕ) (e f : Entry) → EntryAt ids h k e → EntryAt ids h l f → e.task.arrival ≡ f.task.arrival → k ≡ l
  --    the ones of the live map are the open entries
  pub live_count : ones t.live ≡ count_of is_open (ledger ids h)
  -- 2. no command is ended twice; each entry and each ending has its event in the trace, and each command that the
  -- trace accepts has its entry
  pub once : (k : ℕ) (e : Entry) → EntryAt ids h k e → times_ended e ≤ 1
  pub came : (k : ℕ) (e : Entry) → EntryAt ids h k e → Came ids h e
  pub caused : (k : ℕ) (e : Entry) (x : Ending) → EntryAt ids h k e → Has x e.endings → Caused ids h e x
  pub entered : (n : ℕ) (x : Told) (a : Task) → event_numbered h n ≡ some x → effect_told ids x ≡ Accepts a
      → (k : ℕ) × (e : Entry) × EntryAt ids h k e × (e.accepted ≡ n) × (waiting e.task ≡ a)
  -- 3. for the path at each place of the list: accepted = ended by status + ended by management + ended by reset +
  -- live records
  pub balance : (p : ℕ) → accepted_from ids p h ≡ accounted_for p (ledger ids h) t

-- ---- the demand on the contracts of the four calls after setup: every setup of the engine, and whatever the calls then handed back, given only their contracts

abbrev pub Demand3 : Contract → Type 0
Demand3 C = (ids : List ℕ) (attached first : ℕ) (o : Outcome) (cs : List Call) → first < 2 ^ 64 → SetupContract ids attached first o → Chained C o.table cs
    → Agrees ids (told cs) (last_table o.table cs)

-- after a refused setup each call is refused by 13, the table stays all zero, and the ledger is empty
pub record Refusing (ids : List ℕ) (t : Table) (cs : List Call) : Type 0 where
  pub refused : (k : ℕ) (c : Call) → nth cs k ≡ some c → c.outcome.answer ≡ Err Codes.not_sound
  pub table : last_table t cs ≡ zero_table
  pub empty : ledger ids (told cs) ≡ []

abbrev pub AfterRefusedSetup : Type 0
AfterRefusedSetup = (ids : List ℕ) (attached first : ℕ) (o : Outcome) (n : Refusal) (cs : List Call) → SetupContract ids attached first o → o.answer ≡ Err n → Chained Engine o.table cs
    → Refusing ids o.table cs

-- ---- for the customer: whose commands a message ends

-- only CLEAR TASK SET, LOGICAL UNIT RESET and TARGET RESET end commands of other paths
abbrev pub reaches_others : Order → Bool
reaches_others (AbortTask tag2) = false
reaches_others (AbortTaskSet lun) = false
reaches_others (ClearTaskSet lun) = true
reaches_others (ClearAca lun) = false
reaches_others (UnitReset lun) = true
reaches_others TargetReset = true

abbrev pub may_reach_others : Request → Bool
may_reach_others (Command lun flags) = false
may_reach_others (Manage o) = reaches_others o
may_reach_others (Confirm offset complete) = false

-- in the ledger of any trace, whatever the tags: a command that is ended by another order was the sender's own
abbrev pub EndsItsOwn : Type 0
EndsItsOwn = (ids : List ℕ) (h : List Told) (k : ℕ) (e : Entry) (x : Ending) (m buf : List ℕ) (path tag : ℕ) (w : Request)
    → EntryAt ids h k e → Has x e.endings → (y : Told) → event_numbered h x.event ≡ some y → y.event ≡ Message m buf → asked_in (read_of m) ≡ Ok (asking path tag w)
    → may_reach_others w ≡ false → e.task.path ≡ place_in ids path

-- in the table: such a message leaves every live record of another path where it is and as it is
abbrev pub OthersStay : Type 0
OthersStay = (t : Table) (m buf : List ℕ) (o : Outcome) (left : List ℕ) (path tag : ℕ) (w : Request)
    → Good t → MessageContract t m buf o left → asked_in (read_of m) ≡ Ok (asking path tag w) → may_reach_others w ≡ false
    → (i : ℕ) (a : Task) → i < 64 → at t i ≡ some a → (a.path ≡ path_of t path → ⊥) → at o.table i ≡ some a
