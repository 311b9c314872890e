-- The plan of an answer: what a message asks, what is answered, and what that does to paths and units (the change)
-- and to the records.
use Rattle.std.specs.Prelude.{ℕ, Result, Ok, Err, Bool, true, false, cond, List, eqb, ltb, Some, None}
use Rattle.std.specs.declared.option.Option as option
use Rattle.std.proofs.Math.Option.{Option, none, some}
use Rattle.wire.specs.Codes
use Rattle.wire.specs.Messages.{reserved_set}
use Rattle.wire.specs.declared.codes.Refusal.{Refusal}
use Rattle.wire.specs.declared.message.Flags.{Flags}
use Rattle.wire.specs.declared.message.Message.{Message}
use Rattle.wire.specs.declared.message.Message.TheVariants as message
use Rattle.reply.specs.declared.Reply.{Reply}
use Rattle.reply.specs.declared.Reply.TheVariants as reply
use Rattle.task.specs.Tasks.{is_unconfirmed, transferred_of}
use Rattle.task.specs.Selections.{numbered_as}
use Rattle.task.specs.declared.scan.Pick.{Pick}
use Rattle.task.specs.declared.Sequel.{Sequel}
use Rattle.task.specs.declared.Sequel.TheVariants as sequel
use Rattle.table.specs.Tables.{marked_in, attention_gone_in, cleared_attention_in, reset_attention_in, claimed_in, aca_cleared_in}
use Rattle.table.specs.declared.Path as path
use Rattle.table.specs.declared.Unit as unit
use Rattle.rules.specs.Rules.{deciding}
use Rattle.rules.specs.Management.{ends_of, tag_of, unit_of, is_clear_set, by_unit, order_code, order_change}
use Rattle.rules.specs.declared.change.Change.{Change}
use Rattle.rules.specs.declared.change.Change.TheVariants as change
use Rattle.rules.specs.declared.facts.Facts.{Facts}
use Rattle.rules.specs.declared.facts.Lookup.{Lookup}
use Rattle.rules.specs.declared.change.SenderChange.{SenderChange}
use Rattle.rules.specs.declared.change.SenderChange.TheVariants.{Stays, SetMark, ClearMark, ClearMarkAndAttention}
use Rattle.rules.specs.declared.change.QueueChange.{QueueChange}
use Rattle.rules.specs.declared.change.QueueChange.TheVariants.{Leaves, Holds}
use Rattle.rules.specs.declared.command.Ruling.{Ruling}
use Rattle.rules.specs.declared.command.Ruling.TheVariants.{Refuse, Respond, Report, Invalid, Accept}
use Rattle.rules.specs.declared.manage.Order.{Order}
use Rattle.rules.specs.declared.manage.Order.TheVariants as order
use Rattle.plan.specs.declared.Request.{Request}
use Rattle.plan.specs.declared.Request.TheVariants.{Command, Manage, Confirm}
use Rattle.plan.specs.declared.Asked.{Asked}
use Rattle.plan.specs.declared.RecordChange.{RecordChange}
use Rattle.plan.specs.declared.RecordChange.TheVariants as records
use Rattle.plan.specs.declared.Plan.{Plan}
use Rattle.plan.specs.declared.Answer.{Answer}
use Rattle.plan.specs.declared.Answer.TheVariants as answer

-- ---- what a message asks: its RETURN PATH ID (OLD RETURN PATH ID of CONFIRM STATUS), its TAG, and a command, an order or a confirmation; or the reader's refusal.
-- NEW RETURN PATH ID is not looked at

abbrev pub asking : ℕ → ℕ → Request → Asked
asking path tag w = record { path = path; tag = tag; request = w }

abbrev pub asked_of : Message → Asked
asked_of (message.Command tag path lun flags) = asking path tag (Command lun flags)
asked_of (message.ConfirmStatus tag path newPath offset complete) = asking path tag (Confirm offset complete)
asked_of (message.AbortTask tag path tag2) = asking path tag (Manage (order.AbortTask tag2))
asked_of (message.AbortTaskSet tag path lun) = asking path tag (Manage (order.AbortTaskSet lun))
asked_of (message.ClearTaskSet tag path lun) = asking path tag (Manage (order.ClearTaskSet lun))
asked_of (message.TargetReset tag path) = asking path tag (Manage order.TargetReset)
asked_of (message.ClearAca tag path lun) = asking path tag (Manage (order.ClearAca lun))
asked_of (message.UnitReset tag path lun) = asking path tag (Manage (order.UnitReset lun))

abbrev pub asked_in : Result Message Refusal → Result Asked Refusal
asked_in (Ok g) = Ok (asked_of g)
asked_in (Err n) = Err n

-- the tag and the unit that are asked about: the message's own, or those that an order names; 0 where there is no
-- unit
abbrev pub tag_asked : ℕ → Request → ℕ
tag_asked tag (Command lun flags) = tag
tag_asked tag (Manage o) = tag_of o
tag_asked tag (Confirm offset complete) = tag

abbrev pub unit_asked : Request → ℕ
unit_asked (Command lun flags) = lun
unit_asked (Manage o) = unit_of o
unit_asked (Confirm offset complete) = 0

abbrev pub clears_set : Request → Bool
clears_set (Command lun flags) = false
clears_set (Manage o) = is_clear_set o
clears_set (Confirm offset complete) = false

-- an order that goes by its unit alone, so that no task of the sender's is looked for
abbrev pub goes_by_unit : Request → Bool
goes_by_unit (Command lun flags) = false
goes_by_unit (Manage o) = by_unit o
goes_by_unit (Confirm offset complete) = false

-- what follows the finish of a command: with CONFIRM it waits to be confirmed
abbrev pub sequel_of : Bool → Sequel
sequel_of confirm = cond confirm sequel.Confirm sequel.End

-- ---- the reply that an answer is

abbrev pub reply_of : Result Answer Refusal → Option Reply
reply_of (Ok answer.Ready) = none
reply_of (Ok (answer.Accepted n)) = none
reply_of (Ok (answer.Reply r)) = some r
reply_of (Ok (answer.Started offset arrival)) = none
reply_of (Ok (answer.Confirmed n)) = none
reply_of (Ok (answer.Restarted n)) = none
reply_of (Ok answer.Reset) = none
reply_of (Err n) = none

-- ---- the plan

abbrev pub planned : Result Answer Refusal → Change → RecordChange → Plan
planned a c d = record { answer = a; change = c; records = d }

-- a refusal changes nothing
abbrev pub refusing : Refusal → Plan
refusing n = planned (Err n) change.Nothing records.Nothing

-- a STATUS to a command of the path at p: what it does to its sender and, where the rule holds the queue, to its unit
abbrev pub report_change : ℕ → ℕ → SenderChange → QueueChange → Change
report_change p lun sender Leaves = change.OfSender p sender
report_change p lun sender Holds = change.Holding p sender lun

-- a ruling on a command of the path at p with a TAG, a LUN and flags, under the next arrival number
abbrev pub ruled : ℕ → ℕ → ℕ → ℕ → Flags → Ruling → Plan
ruled next p tag lun flags (Refuse n) = refusing n
ruled next p tag lun flags (Respond code sender) = planned (Ok (answer.Reply (reply.Response tag code))) (change.OfSender p sender) records.Nothing
ruled next p tag lun flags (Report status sense sender queue) = planned (Ok (answer.Reply (reply.Status tag status sense))) (report_change p lun sender queue) records.Nothing
ruled next p tag lun flags (Invalid sender) = planned (Ok (answer.Reply (reply.Invalid tag))) (change.OfSender p sender) records.Nothing
ruled next p tag lun flags Accept = planned (Ok (answer.Accepted next)) (change.OfSender p ClearMark) (records.Accept p tag lun flags.queue (sequel_of flags.confirm))

-- an order of the path at p changes the table only where it is answered 00h
unfoldable pub order_plan : Facts → ℕ → ℕ → ℕ → List ℕ → Order → Plan
order_plan f others p tag m o =
    cond (eqb (order_code f m o).0 (Codes.done).0)
    (planned (Ok (answer.Reply (reply.Response tag (order_code f m o)))) (order_change others o) (records.End (ends_of p o)))
    (planned (Ok (answer.Reply (reply.Response tag (order_code f m o)))) change.Nothing records.Nothing)

-- the sender's task with the tag, where it waits to be confirmed: a waiting or running one does not
abbrev pub awaited : option.Option Pick → option.Option Pick
awaited None = None
awaited (Some own) = cond (is_unconfirmed own.task.phase) (Some own) None

-- CONFIRM STATUS, by the task that waits to be confirmed: where there is none, 15. COMPLETE set: the task is ended, BYTE
-- OFFSET is not looked at. COMPLETE clear: an offset past the bytes transferred gives FFh; else the task waits again, to
-- start there. Neither the mark nor the attention of the sender is looked at
abbrev pub confirmed : option.Option Pick → ℕ → ℕ → ℕ → Bool → Plan
confirmed None p tag offset complete = refusing Codes.nothing_to_confirm
confirmed (Some own) p tag offset complete =
    cond complete (planned (Ok (answer.Confirmed own.task.arrival)) change.Nothing (records.Complete (numbered_as own.task.arrival p tag)))
    (cond (ltb (transferred_of own.task) offset) (planned (Ok (answer.Reply (reply.Response tag Codes.invalid_field))) change.Nothing records.Nothing)
    (planned (Ok (answer.Restarted own.task.arrival)) change.Nothing (records.Restart own.at offset)))

-- and before that, a reserved bit set gives FFh
unfoldable pub confirm_plan : option.Option Pick → ℕ → ℕ → List ℕ → ℕ → Bool → Plan
confirm_plan own p tag m offset complete =
    cond (reserved_set m) (planned (Ok (answer.Reply (reply.Response tag Codes.invalid_field))) change.Nothing records.Nothing)
    (confirmed (awaited own) p tag offset complete)

abbrev pub plan_of : Lookup → ℕ → ℕ → ℕ → List ℕ → Request → Plan
plan_of s next p tag m (Command lun flags) = ruled next p tag lun flags (deciding s.facts flags m).gives
plan_of s next p tag m (Manage o) = order_plan s.facts s.others p tag m o
plan_of s next p tag m (Confirm offset complete) = confirm_plan s.own p tag m offset complete

-- ---- what a change does to paths and units

-- a command's answer and the sender's mark and attention: the mark is cleared once rule 2 is passed; attention that
-- was reported becomes none
abbrev pub sender_after : List path.Path → ℕ → SenderChange → List path.Path
sender_after paths p Stays = paths
sender_after paths p SetMark = marked_in paths p true
sender_after paths p ClearMark = marked_in paths p false
sender_after paths p ClearMarkAndAttention = attention_gone_in (marked_in paths p false) p

-- the paths, of which the first `count` are listed
abbrev pub paths_after : List path.Path → ℕ → Change → List path.Path
paths_after paths count change.Nothing = paths
paths_after paths count (change.OfSender p sender) = sender_after paths p sender
paths_after paths count (change.Holding p sender unit) = sender_after paths p sender
paths_after paths count (change.ClearedAttention others) = cleared_attention_in paths others
paths_after paths count (change.AcaGoes unit) = paths
paths_after paths count (change.Resets place) = reset_attention_in paths count false

-- the units: where the queue is held, the unit gets ACA for the sender, unless it has one, as with a finish that failed
abbrev pub units_after : List unit.Unit → Change → List unit.Unit
units_after units change.Nothing = units
units_after units (change.OfSender p sender) = units
units_after units (change.Holding p sender unit) = claimed_in units unit p
units_after units (change.ClearedAttention others) = units
units_after units (change.AcaGoes unit) = aca_cleared_in units (Some unit)
units_after units (change.Resets place) = aca_cleared_in units place
