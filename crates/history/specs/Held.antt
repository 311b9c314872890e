-- M-103, over any calls: while a unit has ACA, no start there takes anything but the ACA task, so that what waits behind
-- a bad command is not executed. Proved in proofs/Held.antt; on the trace alone in proofs/HeldTrace.antt.
use Rattle.std.specs.Prelude.{Result, Ok, Err, ℕ, zero, suc, ◌<◌, ◌^◌, ◌≡◌, Bool, true, false, ◌&&◌, List, [], ◌∷◌, ◌++◌, map, take, eqb, Some, None}
use Rattle.std.proofs.Math.Option.{Option, none, some}
use Rattle.wire.specs.declared.codes.Refusal.{Refusal}
use Rattle.wire.specs.Codes
use Rattle.wire.specs.Messages.{read_of}
use Rattle.wire.specs.declared.codes.Kind.TheVariants as kind
use Rattle.wire.specs.declared.message.Flags.{Flags}
use Rattle.reply.specs.declared.Reply.{Reply}
use Rattle.reply.specs.declared.Reply.TheVariants as reply
use Rattle.task.specs.Tasks.{is_aca, is_running}
use Rattle.task.specs.declared.Task.{Task}
use Rattle.table.specs.Tables.{path_of, bit_of, aca_at}
use Rattle.table.specs.View.{at}
use Rattle.table.specs.declared.Table.{Table}
use Rattle.sound.specs.Promises.{Good}
use Rattle.rules.specs.declared.manage.Order.{Order}
use Rattle.rules.specs.declared.manage.Order.TheVariants.{AbortTask, AbortTaskSet, ClearTaskSet, ClearAca, UnitReset, TargetReset}
use Rattle.plan.specs.Plans.{asking, asked_in, reply_of}
use Rattle.plan.specs.declared.Request.{Request}
use Rattle.plan.specs.declared.Request.TheVariants.{Command, Manage, Confirm}
use Rattle.plan.specs.declared.Asked.{Asked}
use Rattle.plan.specs.declared.Answer.{Answer}
use Rattle.plan.specs.declared.Answer.TheVariants as answer
use Rattle.engine.specs.Calls.{SetupContract}
use Rattle.engine.specs.Holding.{CommandCall, rule_for, says02, held_by}
use Rattle.engine.specs.declared.Outcome.{Outcome}
use Rattle.history.specs.Trace.{Event, Message, Start, Finish, TotalReset, Told, nth, event_numbered, Accepts, place_in, effect_told}
use Rattle.history.specs.Demand.{Call, told, Contract, Engine, Chained, last_table}
use Rattle.history.specs.Ended.{Lists, Made}
use Rattle.history.specs.Drives.{left_after, engine, calls_of}
use Rattle.history.specs.TwoHosts.{hosts, fresh, buffer, sends, command, write, clear_aca, both_learn}

-- ---- what takes the ACA of a unit away from its owner, the path at p

-- answered 00h: CLEAR ACA of the unit from the owner, LOGICAL UNIT RESET of it, TARGET RESET
abbrev pub order_releases : ℕ → ℕ → ℕ → Order → Bool
order_releases p unit sender (AbortTask tag2) = false
order_releases p unit sender (AbortTaskSet lun) = false
order_releases p unit sender (ClearTaskSet lun) = false
order_releases p unit sender (ClearAca lun) = eqb lun unit && eqb sender p
order_releases p unit sender (UnitReset lun) = eqb lun unit
order_releases p unit sender TargetReset = true

abbrev pub request_releases : ℕ → ℕ → ℕ → Request → Bool
request_releases p unit sender (Command lun flags) = false
request_releases p unit sender (Manage o) = order_releases p unit sender o
request_releases p unit sender (Confirm offset complete) = false

abbrev pub ask_releases : List ℕ → ℕ → ℕ → Result Asked Refusal → Bool
ask_releases ids p unit (Err n) = false
ask_releases ids p unit (Ok a) = request_releases p unit (place_in ids a.path) a.request

abbrev pub is_done : Option Reply → Bool
is_done none = false
is_done (some (reply.Response tag code)) = eqb code.0 (Codes.done).0
is_done (some (reply.Status tag status sense)) = false
is_done (some (reply.Invalid tag)) = false

-- and a total reset that is answered by `reset`
abbrev pub says_reset : Result Answer Refusal → Bool
says_reset (Ok answer.Ready) = false
says_reset (Ok (answer.Accepted n)) = false
says_reset (Ok (answer.Reply r)) = false
says_reset (Ok (answer.Started offset n)) = false
says_reset (Ok (answer.Confirmed n)) = false
says_reset (Ok (answer.Restarted n)) = false
says_reset (Ok answer.Reset) = true
says_reset (Err n) = false

-- ids are those that setup was given. Where the event is none of these four, it is false whatever the answer
abbrev pub releases : List ℕ → ℕ → ℕ → Event → Result Answer Refusal → Bool
releases ids p unit (Message m buf) a = ask_releases ids p unit (asked_in (read_of m)) && is_done (reply_of a)
releases ids p unit (Start u) a = false
releases ids p unit (Finish arrival status sense transferred buf) a = false
releases ids p unit TotalReset a = says_reset a

-- the calls hold no such event
abbrev pub NoneReleases : List ℕ → ℕ → ℕ → List Call → Type 0
NoneReleases ids p unit cs = (k : ℕ) (c : Call) → nth cs k ≡ some c → releases ids p unit c.event c.outcome.answer ≡ false

-- such an event does take the ACA away: the unit has none after it
abbrev pub ReleasesIt : Contract → Type 0
ReleasesIt C = (ids : List ℕ) (ev : Event) (t : Table) (o : Outcome) (left : List ℕ) (p unit : ℕ) → Lists ids t → Made C ev t o left
    → releases ids p unit ev o.answer ≡ true → aca_at o.table.units unit ≡ None

-- ---- until then: the unit has ACA, owned by the path at p, when the calls begin, and none of them takes it away

-- the table that call k was given, counted from 0
unfoldable pub given : Table → List Call → ℕ → Table
given t [] k = t
given t (c ∷ cs) zero = t
given t (c ∷ cs) (suc k) = given c.outcome.table cs k

-- the task a, live in record i, is the ACA task of the unit, and of the path at p
pub record AcaTask (t : Table) (p unit i : ℕ) (a : Task) : Type 0 where
  pub below : i < 64
  pub here : at t i ≡ some a
  pub kind : is_aca a.kind ≡ true
  pub there : a.unit ≡ unit
  pub owner : a.path ≡ p

pub record StaysHeld (t : Table) (cs : List Call) (p unit : ℕ) : Type 0 where
  -- the unit has that ACA still, whatever failed there meanwhile
  pub held : aca_at (last_table t cs).units unit ≡ Some p
  -- each start there that was not refused took the ACA task, the owner's
  pub starts : (k : ℕ) (c : Call) (offset arrival : ℕ) → nth cs k ≡ some c → c.event ≡ Start unit → c.outcome.answer ≡ Ok (answer.Started offset arrival)
      → (i : ℕ) × (a : Task) × AcaTask (given t cs k) p unit i a × (a.arrival ≡ arrival)
  -- what runs there after the calls, and is not the ACA task, ran there when they began: what waited then, and what came
  -- since, is not executed. The calls may be any, so this holds after each of them
  pub not_executed : (i : ℕ) (a : Task) → i < 64 → at (last_table t cs) i ≡ some a → a.unit ≡ unit → is_running a.phase ≡ true → is_aca a.kind ≡ false
      → at t i ≡ some a

abbrev pub QueueIsHeld : Contract → Type 0
QueueIsHeld C = (ids : List ℕ) (t : Table) (cs : List Call) (p unit : ℕ) → Good t → Lists ids t → Chained C t cs
    → aca_at t.units unit ≡ Some p → NoneReleases ids p unit cs → StaysHeld t cs p unit

-- ---- so behind a command that is answered STATUS 02h by rules 7 to 10

-- its unit is held for the sender, until one of those events
pub record HeldBehind (ids : List ℕ) (o : Outcome) (p lun : ℕ) : Type 0 where
  pub owned : aca_at o.table.units lun ≡ Some p
  pub behind : (cs : List Call) → Chained Engine o.table cs → NoneReleases ids p lun cs → StaysHeld o.table cs p lun

abbrev pub BadCommandHolds : Type 0
BadCommandHolds = (ids : List ℕ) (t : Table) (m buf : List ℕ) (o : Outcome) (left : List ℕ) (path tag lun : ℕ) (flags : Flags)
    → Lists ids t → CommandCall t m buf o left path tag lun flags → held_by (rule_for t m path tag lun flags) o.answer ≡ true → HeldBehind ids o (path_of t path) lun

-- ---- the same on the trace alone, with no table looked at

-- call c is a command of the path at p that is answered STATUS 02h, on a unit of setup's map of attached units
pub record BadOnTrace (ids : List ℕ) (attached : ℕ) (c : Call) (p lun : ℕ) : Type 0 where
  pub m : List ℕ
  pub buf : List ℕ
  pub path : ℕ
  pub tag : ℕ
  pub flags : Flags
  pub event : c.event ≡ Message m buf
  pub asks : asked_in (read_of m) ≡ Ok (asking path tag (Command lun flags))
  pub sender : place_in ids path ≡ p
  pub says : says02 c.outcome.answer ≡ true
  pub there : bit_of attached lun ≡ true

-- the number was given to a command of the kind ACA from the path at p for the unit, by an event of the trace
pub record GivenToAca (ids : List ℕ) (h : List Told) (n p unit : ℕ) : Type 0 where
  pub event : ℕ
  pub cause : Told
  pub task : Task
  pub there : event_numbered h event ≡ some cause
  pub effect : effect_told ids cause ≡ Accepts task
  pub number : task.arrival ≡ n
  pub kind : is_aca task.kind ≡ true
  pub whose : task.path ≡ p
  pub where_to : task.unit ≡ unit

-- after a setup come any calls, such a command, and calls that do not take its sender's ACA away: each number that a
-- start of the unit then answers was given so, by an event before it
abbrev pub HeldOnTrace : Type 0
HeldOnTrace = (ids : List ℕ) (attached first : ℕ) (o : Outcome) (cs : List Call) (c : Call) (ds : List Call) (p lun : ℕ) → first < 2 ^ 64 → attached < 2 ^ 8
    → SetupContract ids attached first o → Chained Engine o.table (cs ++ (c ∷ ds)) → BadOnTrace ids attached c p lun → NoneReleases ids p lun ds
    → (k : ℕ) (d : Call) (offset n : ℕ) → nth ds k ≡ some d → d.event ≡ Start lun → d.outcome.answer ≡ Ok (answer.Started offset n)
    → GivenToAca ids (told (cs ++ (c ∷ take k ds))) n p lun

-- ---- the premises can be met

-- two hosts and unit 0, as in examples/held: host 1's write waits, and its next one is bad, since LINK is set
abbrev pub write_at : ℕ → List ℕ
write_at block = 0x0a ∷ 0 ∷ 0 ∷ block ∷ 1 ∷ 0 ∷ []

abbrev pub bad_bytes : List ℕ
bad_bytes = 0x83 ∷ 0x10 ∷ 0 ∷ 2 ∷ 0 ∷ 0 ∷ 1 ∷ 1 ∷ 0 ∷ 0 ∷ 3 ∷ 0 ∷ 0 ∷ 0 ∷ 0 ∷ 0 ∷ 0x0a ∷ 0 ∷ 0 ∷ 0x11 ∷ 1 ∷ 1 ∷ []

unfoldable pub in_front : List Event
in_front = both_learn (command 1 1 write ∷ [])

abbrev pub waiting_table : Table
waiting_table = last_table fresh (calls_of engine fresh in_front)

abbrev pub bad_outcome : Outcome
bad_outcome = engine (Message bad_bytes buffer) waiting_table

abbrev pub simple : Flags
simple = record { ddrm = false; oot = false; resume = false; confirm = false; queue = kind.Simple }

-- behind it host 1's next write, host 2's, a start, and CLEAR ACA from host 2, which does not own the ACA; then what the
-- example has not: an ACA command of host 1, a start, and its finish with 02h
unfoldable pub events_behind : List Event
events_behind =
    command 1 3 (write_at 0x12) ∷ command 2 1 (write_at 0x20) ∷ Start 0 ∷ clear_aca 2 5 ∷ sends 0x00 1 6 (write_at 0x13) ∷ Start 0
    ∷ Finish 2 Codes.check_condition Codes.no_sense 0 buffer ∷ []

abbrev pub calls_behind : List Call
calls_behind = calls_of engine bad_outcome.table events_behind

-- the answers to some events
abbrev pub answers_of : Table → List Event → List (Result Answer Refusal)
answers_of t evs = map (λ (c : Call). c.outcome.answer) (calls_of engine t evs)

pub record SomeAreHeld : Type 0 where
  -- rule 10 answers, and holds the queue
  pub call : CommandCall waiting_table bad_bytes buffer bad_outcome (left_after (Message bad_bytes buffer) bad_outcome.answer) 0x101 2 0 simple
  pub bad : held_by (rule_for waiting_table bad_bytes 0x101 2 0 simple) bad_outcome.answer ≡ true
  -- none of the calls behind it takes the ACA away, and one start takes the ACA task
  pub free : NoneReleases hosts 0 0 calls_behind
  pub stays : StaysHeld bad_outcome.table calls_behind 0 0
  pub answers : answers_of bad_outcome.table events_behind
      ≡ (Ok (answer.Reply (reply.Status 3 Codes.aca_active Codes.no_sense))) ∷ (Ok (answer.Reply (reply.Status 1 Codes.aca_active Codes.no_sense))) ∷ (Err Codes.nothing_to_start)
      ∷ (Ok (answer.Reply (reply.Response 5 Codes.no_aca))) ∷ (Ok (answer.Accepted 2)) ∷ (Ok (answer.Started 0 2)) ∷ (Ok (answer.Reply (reply.Status 6 Codes.check_condition Codes.no_sense))) ∷ []
  -- host 1's CLEAR ACA then has its first write started
  pub cleared : answers_of (last_table bad_outcome.table calls_behind) (clear_aca 1 5 ∷ Start 0 ∷ []) ≡ (Ok (answer.Reply (reply.Response 5 Codes.done))) ∷ (Ok (answer.Started 0 1)) ∷ []
