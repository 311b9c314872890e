-- The numbers of page 01 and 003 under their names: page 01's refusals, the codes of 003's tables 4, 6, 9, 10 and 21,
-- and those of SCSI-3 that page 01 names. They stand here for every crate above; places, lengths and masks stand with
-- the layouts (Messages.antt, Block.antt).
use Rattle.std.specs.Prelude.{ℕ, cond, eqb}
use Rattle.wire.specs.declared.codes.Refusal.{Refusal}
use Rattle.wire.specs.declared.codes.Refusal.TheVariants as refusal
use Rattle.wire.specs.declared.codes.ReturnCode.{ReturnCode}
use Rattle.wire.specs.declared.codes.StatusByte.{StatusByte}
use Rattle.wire.specs.declared.codes.Sense.{Sense}
use Rattle.wire.specs.declared.codes.Kind.{Kind}
use Rattle.wire.specs.declared.codes.Kind.TheVariants as kind

-- ---- page 01, numbered refusals

abbrev pub refusal_number : Refusal → ℕ
refusal_number refusal.TooShort = 1
refusal_number refusal.NotHandled = 2
refusal_number refusal.UnknownPath = 3
refusal_number refusal.Discarded = 4
refusal_number refusal.SmallBuffer = 5
refusal_number refusal.NotAttached = 6
refusal_number refusal.UnitBusy = 7
refusal_number refusal.NothingToStart = 8
refusal_number refusal.NotRunning = 9
refusal_number refusal.BadStatus = 10
refusal_number refusal.BadPaths = 11
refusal_number refusal.Malformed = 12
refusal_number refusal.NotSound = 13
refusal_number refusal.NotWritable = 14
refusal_number refusal.NothingToConfirm = 15

-- message shorter than its specified length
abbrev pub too_short : Refusal
too_short = refusal.TooShort

-- SMS CODE not 83h, or S3P CODE not one handled
abbrev pub not_handled : Refusal
not_handled = refusal.NotHandled

-- RETURN PATH ID not in the path list
abbrev pub unknown_path : Refusal
unknown_path = refusal.UnknownPath

-- command discarded in buffer-full condition
abbrev pub discarded : Refusal
discarded = refusal.Discarded

-- reply buffer under 64 bytes
abbrev pub small_buffer : Refusal
small_buffer = refusal.SmallBuffer

-- start: unit above 7 or not attached
abbrev pub not_attached : Refusal
not_attached = refusal.NotAttached

-- start: a task runs on the unit
abbrev pub unit_busy : Refusal
unit_busy = refusal.UnitBusy

-- start: no waiting task may run
abbrev pub nothing_to_start : Refusal
nothing_to_start = refusal.NothingToStart

-- finish: no running task has this arrival number
abbrev pub not_running : Refusal
not_running = refusal.NotRunning

-- finish: status not 00h, 02h, 04h, 18h, or sense key above 15
abbrev pub bad_status : Refusal
bad_status = refusal.BadStatus

-- setup: 0 paths, over 8, or an id twice
abbrev pub bad_paths : Refusal
bad_paths = refusal.BadPaths

-- transcript malformed
abbrev pub malformed : Refusal
malformed = refusal.Malformed

-- the table handed in isn't sound
abbrev pub not_sound : Refusal
not_sound = refusal.NotSound

-- reply reader or writer: not a reply that the engine can write
abbrev pub not_writable : Refusal
not_writable = refusal.NotWritable

-- page 02, M-100. CONFIRM STATUS: no task of that path and tag waits to be confirmed
abbrev pub nothing_to_confirm : Refusal
nothing_to_confirm = refusal.NothingToConfirm

-- the reply buffer that every call with a reply asks for
abbrev pub reply_room : ℕ
reply_room = 64

-- ---- 003, table 4: SMS CODE, and S3P CODE of each message

abbrev pub sms_code : ℕ
sms_code = 0x83

abbrev pub scsi_response : ℕ
scsi_response = 0x03

abbrev pub scsi_command : ℕ
scsi_command = 0x10

abbrev pub scsi_status : ℕ
scsi_status = 0x11

abbrev pub confirm_status : ℕ
confirm_status = 0x12

abbrev pub abort_task : ℕ
abort_task = 0x30

abbrev pub abort_task_set : ℕ
abort_task_set = 0x31

abbrev pub clear_task_set : ℕ
clear_task_set = 0x32

abbrev pub target_reset : ℕ
target_reset = 0x33

abbrev pub clear_aca : ℕ
clear_aca = 0x34

abbrev pub logical_unit_reset : ℕ
logical_unit_reset = 0x35

-- ---- SCSI-3: the operation codes that go past an attention (page 01, rule 8)

abbrev pub inquiry : ℕ
inquiry = 0x12

abbrev pub request_sense : ℕ
request_sense = 0x03

-- ---- 003, table 21: RETURN CODE of a SCSI RESPONSE; table 9 has the first and the last for a SCSI STATUS

abbrev pub return_code : ℕ → ReturnCode
return_code b = record { 0 = b }

abbrev pub done : ReturnCode
done = return_code 0x00

abbrev pub task_not_found : ReturnCode
task_not_found = return_code 0x01

abbrev pub overlapped : ReturnCode
overlapped = return_code 0x04

abbrev pub no_aca : ReturnCode
no_aca = return_code 0x20

abbrev pub invalid_field : ReturnCode
invalid_field = return_code 0xff

-- ---- SCSI-3: STATUS of a SCSI STATUS

abbrev pub status_byte : ℕ → StatusByte
status_byte b = record { 0 = b }

abbrev pub good : StatusByte
good = status_byte 0x00

abbrev pub check_condition : StatusByte
check_condition = status_byte 0x02

abbrev pub condition_met : StatusByte
condition_met = status_byte 0x04

abbrev pub reservation_conflict : StatusByte
reservation_conflict = status_byte 0x18

abbrev pub task_set_full : StatusByte
task_set_full = status_byte 0x28

abbrev pub aca_active : StatusByte
aca_active = status_byte 0x30

-- ---- 003, table 10: SENSE KEY, ADDITIONAL SENSE CODE and its qualifier, as page 01's rules send them

abbrev pub sense : ℕ → ℕ → ℕ → Sense
sense key code qualifier = record { key = key; code = code; qualifier = qualifier }

abbrev pub no_sense : Sense
no_sense = sense 0x00 0x00 0x00

abbrev pub no_such_unit : Sense
no_such_unit = sense 0x05 0x25 0x00

abbrev pub no_aca_there : Sense
no_aca_there = sense 0x05 0x49 0x00

abbrev pub reset_occurred : Sense
reset_occurred = sense 0x06 0x29 0x00

abbrev pub cleared_by_another : Sense
cleared_by_another = sense 0x06 0x2f 0x00

abbrev pub unknown_command : Sense
unknown_command = sense 0x05 0x20 0x00

abbrev pub invalid_in_block : Sense
invalid_in_block = sense 0x05 0x24 0x00

-- table 10, byte 8 with VALID clear: the ERROR CODE of a current error
abbrev pub current_error : ℕ
current_error = 0x70

-- table 10, byte 15: the bytes of sense behind it, of 18
abbrev pub additional_sense_length : ℕ
additional_sense_length = 0x0a

-- ---- 003, table 6: QUEUE CNTL, and the kind that its number says

abbrev pub kind_number : Kind → ℕ
kind_number kind.Aca = 0
kind_number kind.Head = 1
kind_number kind.Ordered = 2
kind_number kind.Simple = 3

abbrev pub kind_of : ℕ → Kind
kind_of n = cond (eqb n 0) kind.Aca (cond (eqb n 1) kind.Head (cond (eqb n 2) kind.Ordered kind.Simple))
