-- How the calls come to what Calls.antt says, each with one table: the step that carries a plan out, and which task a
-- start or a finish is about, by what was asked of the table. That each is what Calls.antt says is proved with the calls.
use Rattle.std.specs.Prelude.{ℕ, Result, Err, Bool, cond, not, ltb, Option}
use Rattle.std.specs.Option.{ok_or}
use Rattle.wire.specs.Codes
use Rattle.wire.specs.declared.codes.Refusal.{Refusal}
use Rattle.wire.specs.declared.codes.StatusByte.{StatusByte}
use Rattle.wire.specs.declared.codes.Sense.{Sense}
use Rattle.task.specs.declared.scan.Pick.{Pick}
use Rattle.table.specs.declared.steps.Alteration.TheVariants.{Restart}
use Rattle.table.specs.declared.steps.Step.{Step}
use Rattle.table.specs.declared.steps.Step.TheVariants as step
use Rattle.plan.specs.declared.RecordChange.{RecordChange}
use Rattle.plan.specs.declared.RecordChange.TheVariants as records
use Rattle.engine.specs.Calls.{may_finish}

-- the step of the records that a plan asks for
abbrev pub step_of : RecordChange → Step
step_of records.Nothing = step.Stay
step_of (records.Accept path tag lun kind sequel) = step.Accept path tag lun kind sequel
step_of (records.End s) = step.End s
step_of (records.Complete s) = step.End s
step_of (records.Restart place offset) = step.Alter place (Restart offset)

-- start: 13, 6, 7, 8, by whether the table is sound, the unit attached and busy, and the task that may go next
unfoldable pub chosen_by : Bool → Bool → Bool → Option Pick → Result Pick Refusal
chosen_by sound attached busy p =
    cond (not sound) (Err Codes.not_sound)
    (cond (not attached) (Err Codes.not_attached) (cond busy (Err Codes.unit_busy) (ok_or p Codes.nothing_to_start)))

-- finish: 13, 5, 10, 9, by whether the table is sound, the length of the reply buffer, and the running task of the
-- arrival number
unfoldable pub judged_by : Bool → ℕ → StatusByte → Sense → Option Pick → Result Pick Refusal
judged_by sound n status s p =
    cond (not sound) (Err Codes.not_sound)
    (cond (ltb n Codes.reply_room) (Err Codes.small_buffer)
    (cond (not (may_finish status s)) (Err Codes.bad_status) (ok_or p Codes.not_running)))
