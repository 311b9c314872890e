-- What a trace shows: the events in their order, each with what was asked and what was answered, and what an event so
-- answered does to the commands. No table is looked at.
use Rattle.std.specs.Prelude.{Result, Ok, Err}
use Rattle.std.specs.Prelude.{ℕ, zero, suc, Bool, true, false, cond, List, [], ◌∷◌, length, get_or, eqb}
use Rattle.std.proofs.Math.Option.{Option, none, some}
use Rattle.wire.specs.declared.codes.Refusal.{Refusal}
use Rattle.wire.specs.Codes
use Rattle.wire.specs.Messages.{read_of}
use Rattle.wire.specs.declared.codes.StatusByte.{StatusByte}
use Rattle.wire.specs.declared.codes.Sense.{Sense}
use Rattle.reply.specs.declared.Reply.{Reply}
use Rattle.reply.specs.declared.Reply.TheVariants as reply
use Rattle.task.specs.Index.{first}
use Rattle.task.specs.Tasks.{has_confirm, accepted_as, runs, awaits, restarts}
use Rattle.task.specs.Selections.{picks, every_task, numbered_as}
use Rattle.wire.specs.declared.codes.Kind.{Kind}
use Rattle.task.specs.declared.Sequel.{Sequel}
use Rattle.task.specs.declared.Task.{Task}
use Rattle.task.specs.declared.select.Selection.{Selection}
use Rattle.rules.specs.Management.{ends_of}
use Rattle.plan.specs.Plans.{asked_in, sequel_of, reply_of}
use Rattle.rules.specs.declared.manage.Order.{Order}
use Rattle.rules.specs.declared.manage.Order.TheVariants.{AbortTask, AbortTaskSet, ClearTaskSet, ClearAca, UnitReset, TargetReset}
use Rattle.plan.specs.declared.Request.{Request}
use Rattle.plan.specs.declared.Request.TheVariants.{Command, Manage, Confirm}
use Rattle.plan.specs.declared.Asked.{Asked}
use Rattle.plan.specs.declared.Answer.{Answer}
use Rattle.plan.specs.declared.Answer.TheVariants as answer

-- ---- events

-- a message with the reply buffer lent for it, a start, a finish with the reply buffer lent for it, a total reset
pub data Event : Type 0 where
  Message : (m buf : List ℕ) → Event
  Start : (unit : ℕ) → Event
  Finish : (arrival : ℕ) (status : StatusByte) (sense : Sense) (transferred : ℕ) (buf : List ℕ) → Event
  TotalReset : Event

-- an event and what was answered
pub record Told : Type 0 where
  pub event : Event
  pub answer : Result Answer Refusal

module _ {A : Type 0} where
  -- the element at a place of a list, counted from 0
  unfoldable pub nth : List A → ℕ → Option A
  nth [] k = none
  nth (x ∷ l) zero = some x
  nth (x ∷ l) (suc k) = nth l k

-- the event with a number: the first after setup is 1, as in a transcript's lines
unfoldable pub event_numbered : List Told → ℕ → Option Told
event_numbered h zero = none
event_numbered h (suc k) = nth h k

-- ---- how a command is ended: by status (the STATUS of its finish, or with CONFIRM the confirmation of it), by the order of a message, or by the drive's total reset

pub data Label : Type 0 where
  by_status byTotalReset : Label
  by_order : Order → Label

abbrev pub counts_as_status : Label → Bool
counts_as_status by_status = true
counts_as_status byTotalReset = false
counts_as_status (by_order o) = false

-- LOGICAL UNIT RESET and TARGET RESET are resets, the other four orders are management
abbrev pub resets : Order → Bool
resets (AbortTask tag2) = false
resets (AbortTaskSet lun) = false
resets (ClearTaskSet lun) = false
resets (ClearAca lun) = false
resets (UnitReset lun) = true
resets TargetReset = true

abbrev pub counts_as_management : Label → Bool
counts_as_management by_status = false
counts_as_management byTotalReset = false
counts_as_management (by_order o) = cond (resets o) false true

abbrev pub counts_as_reset : Label → Bool
counts_as_reset by_status = false
counts_as_reset byTotalReset = true
counts_as_reset (by_order o) = resets o

-- ---- what an event so answered does: nothing to the commands; it accepts one; it starts, or finishes after so many bytes, the one with an arrival number;
-- it has what a selection picks wait again, to start at an offset; it ends what a selection picks

pub data Effect : Type 0 where
  Nothing : Effect
  Accepts : Task → Effect
  Starts : (arrival : ℕ) → Effect
  Finishes : (arrival transferred : ℕ) → Effect
  Restarts : Selection → (offset : ℕ) → Effect
  Ends : Selection → Label → Effect

-- what that comes to for one command: it stays as it is, goes on in another way, or is ended
pub data Fate : Type 0 where
  stays : Fate
  becomes : Task → Fate
  ended : Label → Fate

-- a finish leaves a command with CONFIRM waiting to be confirmed and ends any other: which it is, its command said
abbrev pub finish_fate : ℕ → Task → Fate
finish_fate transferred a = cond (has_confirm a.sequel) (becomes (awaits transferred a)) (ended by_status)

unfoldable pub fate_of : Effect → Task → Fate
fate_of Nothing a = stays
fate_of (Accepts b) a = stays
fate_of (Starts n) a = cond (eqb a.arrival n) (becomes (runs a)) stays
fate_of (Finishes n transferred) a = cond (eqb a.arrival n) (finish_fate transferred a) stays
fate_of (Restarts s offset) a = cond (picks s a) (becomes (restarts offset a)) stays
fate_of (Ends s how) a = cond (picks s a) (ended how) stays

-- the place of an id in setup's list, counted from 0; past the list where it is not there
unfoldable pub place_in : List ℕ → ℕ → ℕ
place_in ids id = first (length ids) (λ p. eqb (get_or ids p 0) id)

-- a command from the path at p is accepted where the answer says so, under the number that the answer names
abbrev pub command_effect : ℕ → ℕ → ℕ → Kind → Sequel → Result Answer Refusal → Effect
command_effect p tag lun kind sequel (Ok answer.Ready) = Nothing
command_effect p tag lun kind sequel (Ok (answer.Accepted n)) = Accepts (accepted_as n p tag lun kind sequel)
command_effect p tag lun kind sequel (Ok (answer.Reply r)) = Nothing
command_effect p tag lun kind sequel (Ok (answer.Started offset n)) = Nothing
command_effect p tag lun kind sequel (Ok (answer.Confirmed n)) = Nothing
command_effect p tag lun kind sequel (Ok (answer.Restarted n)) = Nothing
command_effect p tag lun kind sequel (Ok answer.Reset) = Nothing
command_effect p tag lun kind sequel (Err n) = Nothing

-- an order ends what it selects where it is answered by RESPONSE 00h
abbrev pub order_replied : ℕ → Order → Option Reply → Effect
order_replied p o none = Nothing
order_replied p o (some (reply.Response t code)) = cond (eqb code.0 (Codes.done).0) (Ends (ends_of p o) (by_order o)) Nothing
order_replied p o (some (reply.Status t status sense)) = Nothing
order_replied p o (some (reply.Invalid t)) = Nothing

abbrev pub order_effect : ℕ → Order → Result Answer Refusal → Effect
order_effect p o a = order_replied p o (reply_of a)

-- CONFIRM STATUS from the path at p names its command by the tag and the number in the answer: with COMPLETE set
-- `confirmed` ends it, with COMPLETE clear `restarted` has it wait again at the offset
abbrev pub confirm_effect : ℕ → ℕ → ℕ → Bool → Result Answer Refusal → Effect
confirm_effect p tag offset complete (Ok answer.Ready) = Nothing
confirm_effect p tag offset complete (Ok (answer.Accepted n)) = Nothing
confirm_effect p tag offset complete (Ok (answer.Reply r)) = Nothing
confirm_effect p tag offset complete (Ok (answer.Started o n)) = Nothing
confirm_effect p tag offset complete (Ok (answer.Confirmed n)) = cond complete (Ends (numbered_as n p tag) by_status) Nothing
confirm_effect p tag offset complete (Ok (answer.Restarted n)) = cond complete Nothing (Restarts (numbered_as n p tag) offset)
confirm_effect p tag offset complete (Ok answer.Reset) = Nothing
confirm_effect p tag offset complete (Err n) = Nothing

-- what the path at p asks with a tag
abbrev pub request_effect : ℕ → ℕ → Request → Result Answer Refusal → Effect
request_effect p tag (Command lun flags) a = command_effect p tag lun flags.queue (sequel_of flags.confirm) a
request_effect p tag (Manage o) a = order_effect p o a
request_effect p tag (Confirm offset complete) a = confirm_effect p tag offset complete a

abbrev pub message_effect : List ℕ → Result Asked Refusal → Result Answer Refusal → Effect
message_effect ids (Err n) a = Nothing
message_effect ids (Ok b) a = request_effect (place_in ids b.path) b.tag b.request a

-- a start starts the command whose number the answer names
abbrev pub start_effect : Result Answer Refusal → Effect
start_effect (Ok answer.Ready) = Nothing
start_effect (Ok (answer.Accepted n)) = Nothing
start_effect (Ok (answer.Reply r)) = Nothing
start_effect (Ok (answer.Started offset n)) = Starts n
start_effect (Ok (answer.Confirmed n)) = Nothing
start_effect (Ok (answer.Restarted n)) = Nothing
start_effect (Ok answer.Reset) = Nothing
start_effect (Err n) = Nothing

-- a finish that is answered by a STATUS finishes the command with the number that it names. The engine answers so
-- where that command runs; the trace takes the STATUS at its word
abbrev pub finish_replied : ℕ → ℕ → Option Reply → Effect
finish_replied arrival transferred none = Nothing
finish_replied arrival transferred (some (reply.Response t code)) = Nothing
finish_replied arrival transferred (some (reply.Status t status sense)) = Finishes arrival transferred
finish_replied arrival transferred (some (reply.Invalid t)) = Nothing

abbrev pub finish_effect : ℕ → ℕ → Result Answer Refusal → Effect
finish_effect arrival transferred a = finish_replied arrival transferred (reply_of a)

-- a total reset that is answered by `reset` ends every command
abbrev pub reset_effect : Result Answer Refusal → Effect
reset_effect (Ok answer.Ready) = Nothing
reset_effect (Ok (answer.Accepted n)) = Nothing
reset_effect (Ok (answer.Reply r)) = Nothing
reset_effect (Ok (answer.Started offset n)) = Nothing
reset_effect (Ok (answer.Confirmed n)) = Nothing
reset_effect (Ok (answer.Restarted n)) = Nothing
reset_effect (Ok answer.Reset) = Ends every_task byTotalReset
reset_effect (Err n) = Nothing

-- ids are those that setup was given
abbrev pub effect_of : List ℕ → Event → Result Answer Refusal → Effect
effect_of ids (Message m buf) a = message_effect ids (asked_in (read_of m)) a
effect_of ids (Start unit) a = start_effect a
effect_of ids (Finish arrival status sense transferred buf) a = finish_effect arrival transferred a
effect_of ids TotalReset a = reset_effect a

-- what an event of a trace did
abbrev pub effect_told : List ℕ → Told → Effect
effect_told ids x = effect_of ids x.event x.answer
