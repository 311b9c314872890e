-- What is promised of `wire` beside its contracts: what is read bears its S3P CODE, and bytes past the specified
-- length are not read. Each is proved in proofs/Promises.antt and proofs/Past.antt.
use Rattle.std.specs.Prelude.{ℕ, ◌≡◌, false, ◌⊎◌, List, ◌++◌, Ok, Err}
use Rattle.wire.specs.Codes.{too_short, not_handled}
use Rattle.wire.specs.Codes.{scsi_command, confirm_status, abort_task, abort_task_set, clear_task_set, target_reset, clear_aca, logical_unit_reset}
use Rattle.wire.specs.Fields.{byte}
use Rattle.wire.specs.Messages.{read_of, reserved_set}
use Rattle.wire.specs.Block.{opcode, cut_short, no_block, linked, block_of}
use Rattle.wire.specs.declared.codes.Refusal.{Refusal}
use Rattle.wire.specs.declared.message.Message.{Message}
use Rattle.wire.specs.declared.message.Message.TheVariants.{Command, ConfirmStatus, AbortTask, AbortTaskSet, ClearTaskSet, TargetReset, ClearAca, UnitReset}

-- ---- what is read

-- the S3P CODE of each kind of message
unfoldable pub s3p_code : Message → ℕ
s3p_code (Command tag path lun flags) = scsi_command
s3p_code (ConfirmStatus tag path newPath offset complete) = confirm_status
s3p_code (AbortTask tag path tag2) = abort_task
s3p_code (AbortTaskSet tag path lun) = abort_task_set
s3p_code (ClearTaskSet tag path lun) = clear_task_set
s3p_code (TargetReset tag path) = target_reset
s3p_code (ClearAca tag path lun) = clear_aca
s3p_code (UnitReset tag path lun) = logical_unit_reset

-- a message that is read is of the kind that its byte 1 names
abbrev pub ReadByCode : Type 0
ReadByCode = (m : List ℕ) (r : Message) → read_of m ≡ Ok r → s3p_code r ≡ byte m 1

-- a refusal is 1 or 2
abbrev pub ReadRefusals : Type 0
ReadRefusals = (m : List ℕ) (n : Refusal) → read_of m ≡ Err n → (n ≡ too_short) ⊎ (n ≡ not_handled)

-- ---- bytes past the specified length are not read

-- m is a message with its specified length: it is not refused, and a command holds its block whole
pub record Whole (m : List ℕ) : Type 0 where
  pub fields : (n : Refusal) → read_of m ≡ Err n → ⊥
  pub block : byte m 1 ≡ scsi_command → cut_short m ≡ false

-- bytes after it change no answer; what `read` answers wants no whole block, and what is asked of the block wants no
-- more than the block
pub record PastIsNotRead : Type 0 where
  pub read : (m rest : List ℕ) → (read_of m ≡ Err too_short → ⊥) → read_of (m ++ rest) ≡ read_of m
  pub reserved_set_past : (m rest : List ℕ) → Whole m → reserved_set (m ++ rest) ≡ reserved_set m
  pub cut_short_past : (m rest : List ℕ) → cut_short m ≡ false → cut_short (m ++ rest) ≡ false
  pub first_byte : (m rest : List ℕ) → cut_short m ≡ false → opcode (m ++ rest) ≡ opcode m
  pub no_length : (m rest : List ℕ) → cut_short m ≡ false → no_block (m ++ rest) ≡ no_block m
  pub is_linked : (m rest : List ℕ) → cut_short m ≡ false → linked (m ++ rest) ≡ linked m
  pub command_block : (m rest : List ℕ) → cut_short m ≡ false → block_of (m ++ rest) ≡ block_of m
