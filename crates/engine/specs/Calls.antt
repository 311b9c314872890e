-- What each call answers, what table it hands back, what it ended, and what it leaves in the reply buffer: the refusals
-- in their order, then the rest.
use Rattle.std.specs.Prelude.{ℕ, Result, Ok, Err, ◌≡◌, Bool, true, false, cond, not, ◌&&◌, ◌||◌, List, [], length, eqb, ltb, leb, is_some}
use Rattle.std.specs.declared.option.Option as option
use Rattle.std.proofs.Math.Option.{Option, none, some}
use Rattle.wire.specs.Codes
use Rattle.wire.specs.Messages.{read_of}
use Rattle.wire.specs.Block.{block_of}
use Rattle.wire.specs.declared.codes.Refusal.{Refusal}
use Rattle.wire.specs.declared.codes.StatusByte.{StatusByte}
use Rattle.wire.specs.declared.codes.Sense.{Sense}
use Rattle.reply.specs.Calls.{left_of}
use Rattle.reply.specs.declared.Reply.{Reply}
use Rattle.reply.specs.declared.Reply.TheVariants as reply
use Rattle.task.specs.Map.{gone}
use Rattle.std.specs.Option.{ok_or}
use Rattle.task.specs.Tasks.{offset_of}
use Rattle.task.specs.Selections.{every_task, running_on, waiting_on, aca_waiting_on, running_as}
use Rattle.task.specs.declared.scan.Pick.{Pick}
use Rattle.task.specs.declared.select.Selection.{Selection}
use Rattle.table.specs.Tables.{path_of, path_at, unit_at, is_attached, has_aca, pick_of, others_on, accepted, ended_by, started, restarted, finished, reset_of}
use Rattle.table.specs.Steps.{running_among}
use Rattle.table.specs.Setup.{bad_list, setup_table}
use Rattle.sound.specs.Sound.{sound_of}
use Rattle.table.specs.declared.Table.{Table}
use Rattle.rules.specs.Facts.{lookup_of}
use Rattle.rules.specs.declared.facts.Lookup.{Lookup}
use Rattle.rules.specs.declared.change.Change.{Change}
use Rattle.plan.specs.Plans.{asked_in, tag_asked, unit_asked, reply_of, refusing, plan_of, paths_after, units_after}
use Rattle.plan.specs.declared.Request.{Request}
use Rattle.plan.specs.declared.Asked.{Asked}
use Rattle.plan.specs.declared.RecordChange.{RecordChange}
use Rattle.plan.specs.declared.RecordChange.TheVariants as records
use Rattle.plan.specs.declared.Plan.{Plan}
use Rattle.plan.specs.declared.Answer.{Answer}
use Rattle.plan.specs.declared.Answer.TheVariants as answer
use Rattle.engine.specs.declared.Outcome.{Outcome}

-- ---- an outcome: the table, the answer, the map of the records whose commands this call ended, the id of the path that the reply goes to, 0 with no reply, and
-- the map of the units whose device has to stop

-- nothing was ended
abbrev pub out : Table → Result Answer Refusal → ℕ → Outcome
out t a to = record { table = t; answer = a; ended = 0; to = to; stops = 0 }

-- t is the table that was handed in, u the next one: what was live and is no more was ended
abbrev pub ending : Table → Table → Result Answer Refusal → ℕ → ℕ → Outcome
ending t u a to stops = record { table = u; answer = a; ended = gone t.live u.live; to = to; stops = stops }

abbrev pub refused : Table → Refusal → Outcome
refused t n = out t (Err n) 0

-- ---- a message: 13, 5, then 1, 2, 1 by the reader, 3, then by the rules and orders

-- what is heard, with a reply buffer of so many bytes
unfoldable pub heard_of : Bool → ℕ → List ℕ → Result Asked Refusal
heard_of sound room m =
    cond (not sound) (Err Codes.not_sound) (cond (ltb room Codes.reply_room) (Err Codes.small_buffer) (asked_in (read_of m)))

-- the id of the path that is heard; 0 where nothing is
abbrev pub sender_of : Result Asked Refusal → ℕ
sender_of (Err n) = 0
sender_of (Ok a) = a.path

-- what is looked up in the table for what the path at p asks, and the plan for it
abbrev pub lookup_for : Table → ℕ → ℕ → Request → Lookup
lookup_for t p tag w = lookup_of t p (tag_asked tag w) (unit_asked w) (others_on t (unit_asked w) p)

unfoldable pub plan_at : Table → List ℕ → ℕ → ℕ → Request → Plan
plan_at t m p tag w = plan_of (lookup_for t p tag w) t.next p tag m w

-- the plan for what the path with an id asks: 3 where it is not listed
unfoldable pub plan_for : Table → List ℕ → ℕ → ℕ → Request → Plan
plan_for t m path tag w = cond (ltb (path_of t path) 8) (plan_at t m (path_of t path) tag w) (refusing Codes.unknown_path)

-- a plan carried out: paths and units, then the records
abbrev pub with_parts : Table → Change → Table
with_parts t c = record {
  live = t.live;
  next = t.next;
  count = t.count;
  attached = t.attached;
  paths = paths_after t.paths t.count c;
  units = units_after t.units c;
  tasks = t.tasks;
}

unfoldable pub with_records : Table → RecordChange → Table
with_records t records.Nothing = t
with_records t (records.Accept path tag lun kind confirm) = accepted t path tag lun kind confirm
with_records t (records.End s) = ended_by t s
with_records t (records.Complete s) = ended_by t s
with_records t (records.Restart place offset) = restarted t place offset

unfoldable pub carried_out : Table → Plan → Table
carried_out t pl = with_records (with_parts t pl.change) pl.records

-- the path that a reply goes to, and 0 where the answer is none
abbrev pub path_for : ℕ → Option Reply → ℕ
path_for path none = 0
path_for path (some r) = path

abbrev pub reply_path : Result Answer Refusal → ℕ → ℕ
reply_path a path = path_for path (reply_of a)

-- the units that have to stop: those on which a task runs that an order ends. What a confirmation ends does not run
abbrev pub stops_for : Table → RecordChange → ℕ
stops_for t records.Nothing = 0
stops_for t (records.Accept path tag lun kind sequel) = 0
stops_for t (records.End s) = running_among t s
stops_for t (records.Complete s) = 0
stops_for t (records.Restart place offset) = 0

abbrev pub carried : Table → ℕ → Plan → Outcome
carried t path pl = ending t (carried_out t pl) pl.answer (reply_path pl.answer path) (stops_for t pl.records)

unfoldable pub answered_to : Table → List ℕ → Result Asked Refusal → Outcome
answered_to t m (Err n) = refused t n
answered_to t m (Ok a) = carried t a.path (plan_for t m a.path a.tag a.request)

-- n is the length of the reply buffer
unfoldable pub message_of : Table → List ℕ → ℕ → Outcome
message_of t m n = answered_to t m (heard_of (sound_of t) n m)

-- ---- a call of the device: it is refused, or the one record of a task changes

-- start, for a unit with nothing running: 13, 6, 7, 8. Under ACA only the ACA task may go
abbrev pub may_go : option.Option ℕ → ℕ → Selection
may_go aca unit = cond (has_aca aca) (aca_waiting_on unit) (waiting_on unit)

unfoldable pub choice_on : Table → ℕ → option.Option Pick
choice_on t unit = pick_of t (may_go (unit_at t unit).aca unit)

unfoldable pub start_choice : Table → ℕ → Result Pick Refusal
start_choice t unit =
    cond (not (sound_of t)) (Err Codes.not_sound)
    (cond (not (is_attached t unit)) (Err Codes.not_attached)
    (cond (is_some (pick_of t (running_on unit))) (Err Codes.unit_busy) (ok_or (choice_on t unit) Codes.nothing_to_start)))

-- the task runs. The arrival number is answered, and the offset to start at: the one named by the last restart, 0 for a
-- task never restarted. A start ends nothing
abbrev pub goes : Table → Result Pick Refusal → Outcome
goes t (Err n) = refused t n
goes t (Ok p) = out (started t p.at) (Ok (answer.Started (offset_of p.task) p.task.arrival)) 0

unfoldable pub start_of : Table → ℕ → Outcome
start_of t unit = goes t (start_choice t unit)

-- finish: 13, 5, 10, 9. Status 00h, 02h, 04h or 18h, sense key up to 15
abbrev pub may_finish : StatusByte → Sense → Bool
may_finish status s =
    leb s.key 15
    && (eqb status.0 (Codes.good).0 || (eqb status.0 (Codes.check_condition).0 || (eqb status.0 (Codes.condition_met).0 || eqb status.0 (Codes.reservation_conflict).0)))

-- sense is sent with 02h; with another status it is zero, whatever the device passed
abbrev pub sent_sense : StatusByte → Sense → Sense
sent_sense status s = cond (eqb status.0 (Codes.check_condition).0) s Codes.no_sense

abbrev pub failed : StatusByte → Bool
failed status = eqb status.0 (Codes.check_condition).0

-- the running task of the arrival number; n is the length of the reply buffer
unfoldable pub finish_choice : Table → ℕ → StatusByte → Sense → ℕ → Result Pick Refusal
finish_choice t arrival status s n =
    cond (not (sound_of t)) (Err Codes.not_sound)
    (cond (ltb n Codes.reply_room) (Err Codes.small_buffer)
    (cond (not (may_finish status s)) (Err Codes.bad_status) (ok_or (pick_of t (running_as arrival)) Codes.not_running)))

-- the task ends, or with CONFIRM waits to be confirmed, with the bytes transferred: STATUS to its path. What a finish
-- ends has finished, and nothing has to stop
abbrev pub finishes : Table → StatusByte → Sense → ℕ → Result Pick Refusal → Outcome
finishes t status s transferred (Err n) = refused t n
finishes t status s transferred (Ok p) =
    ending t (finished t p.at (failed status) transferred) (Ok (answer.Reply (reply.Status p.task.tag status (sent_sense status s))))
    (path_at t p.task.path).id 0

unfoldable pub finish_of : Table → ℕ → StatusByte → Sense → ℕ → ℕ → Outcome
finish_of t arrival status s transferred n = finishes t status s transferred (finish_choice t arrival status s n)

-- total reset: 13 only. Every unit on which a task runs has to stop
unfoldable pub total_reset_of : Table → Outcome
total_reset_of t = cond (not (sound_of t)) (refused t Codes.not_sound) (ending t (reset_of t) (Ok answer.Reset) 0 (running_among t every_task))

-- setup: 11, with the all-zero table
unfoldable pub setup_of : List ℕ → ℕ → ℕ → Outcome
setup_of ids attached first = out (setup_table ids attached first) (cond (bad_list ids) (Err Codes.bad_paths) (Ok answer.Ready)) 0

-- ---- the reply buffer

-- the reply that an answer is at the front of the buffer; with no reply the buffer stays
abbrev pub left_with : List ℕ → Option Reply → List ℕ
left_with buf none = buf
left_with buf (some r) = left_of r buf

unfoldable pub replied : Result Answer Refusal → List ℕ → List ℕ
replied a buf = left_with buf (reply_of a)

-- the contract of a call with a reply buffer: the outcome o is the one defined, and the buffer is left as its answer
-- asks
pub record Answers (defined : Outcome) (buf : List ℕ) (o : Outcome) (left : List ℕ) : Type 0 where
  pub outcome : o ≡ defined
  pub buffer : left ≡ replied defined.answer buf

-- ---- the command block handed over: the part of the message with an accepted command, an empty part with any other answer

abbrev pub is_accepted : {E : Type 0} → Result Answer E → Bool
is_accepted (Ok answer.Ready) = false
is_accepted (Ok (answer.Accepted n)) = true
is_accepted (Ok (answer.Reply r)) = false
is_accepted (Ok (answer.Started offset arrival)) = false
is_accepted (Ok (answer.Confirmed n)) = false
is_accepted (Ok (answer.Restarted n)) = false
is_accepted (Ok answer.Reset) = false
is_accepted (Err n) = false

unfoldable pub handed_over : {E : Type 0} → List ℕ → Result Answer E → List ℕ
handed_over m a = cond (is_accepted a) (block_of m) []

-- ---- the contracts of the calls: o is what a call hands back, left the reply buffer as it is left

abbrev pub SetupContract : List ℕ → ℕ → ℕ → Outcome → Type 0
SetupContract ids attached first o = o ≡ setup_of ids attached first

abbrev pub MessageContract : Table → List ℕ → List ℕ → Outcome → List ℕ → Type 0
MessageContract t m buf o left = Answers (message_of t m (length buf)) buf o left

abbrev pub StartContract : Table → ℕ → Outcome → Type 0
StartContract t unit o = o ≡ start_of t unit

abbrev pub FinishContract : Table → ℕ → StatusByte → Sense → ℕ → List ℕ → Outcome → List ℕ → Type 0
FinishContract t arrival status s transferred buf o left = Answers (finish_of t arrival status s transferred (length buf)) buf o left

abbrev pub TotalResetContract : Table → Outcome → Type 0
TotalResetContract t o = o ≡ total_reset_of t

-- the part that is handed over with an answer
abbrev pub CommandBlockContract : {E : Type 0} → List ℕ → Result Answer E → List ℕ → Type 0
CommandBlockContract m a part = part ≡ handed_over m a
