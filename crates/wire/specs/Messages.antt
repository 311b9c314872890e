-- The messages that are received (003, tables 4, 5, 11 and 14 to 19): the table of them, the fields of each, and
-- which bytes are none.
use Rattle.std.specs.Prelude.{ℕ, ◌/◌, ◌%◌, List, [], ◌∷◌, Bool, false, cond, not, ◌||◌, Option, Result, Ok, Err, position, bit_and, length, get_or, ltb, eqb}
use Rattle.std.specs.List.{position_or_len, list_any, zip}
use Rattle.wire.specs.Codes.{too_short, not_handled, kind_of, sms_code}
use Rattle.wire.specs.Codes.{scsi_command, confirm_status, abort_task, abort_task_set, clear_task_set, target_reset, clear_aca, logical_unit_reset}
use Rattle.wire.specs.Fields.{byte, word, long}
use Rattle.wire.specs.declared.codes.Refusal.{Refusal}
use Rattle.wire.specs.declared.message.Flags.{Flags}
use Rattle.wire.specs.declared.message.Message.{Message}
use Rattle.wire.specs.declared.message.Message.TheVariants.{Command, ConfirmStatus, AbortTask, AbortTaskSet, ClearTaskSet, TargetReset, ClearAca, UnitReset}

-- ---- the table of messages: a row for each kind, in the order of table 4

-- the S3P CODE of each row
abbrev pub codes : List ℕ
codes = scsi_command ∷ confirm_status ∷ abort_task ∷ abort_task_set ∷ clear_task_set ∷ target_reset ∷ clear_aca ∷ logical_unit_reset ∷ []

-- the length needed: 11 bytes for a command, the whole table length for the others
abbrev pub lengths : List ℕ
lengths = 11 ∷ 17 ∷ 10 ∷ 9 ∷ 9 ∷ 8 ∷ 9 ∷ 9 ∷ []

-- how many rows there are
abbrev pub rows : ℕ
rows = 8

-- the row of a code: the first that has it, and 8 where none has
abbrev pub row_of : ℕ → ℕ
row_of code = position_or_len (λ c. eqb c code) codes

-- the same where there is one
abbrev pub row_found : ℕ → Option ℕ
row_found code = position (λ c. eqb c code) codes

abbrev pub length_of : ℕ → ℕ
length_of row = get_or lengths row 0

-- ---- the fields

-- byte 10 of a command: DDRM, OOT, RESUME, CONFIRM are bits 7 to 4, QUEUE CNTL bits 1 and 0
abbrev pub flags_of : ℕ → Flags
flags_of b = record {
  ddrm = eqb (b / 128) 1;
  oot = eqb (b / 64 % 2) 1;
  resume = eqb (b / 32 % 2) 1;
  confirm = eqb (b / 16 % 2) 1;
  queue = kind_of (b % 4);
}

-- table 11: NEW RETURN PATH ID at 8, BYTE OFFSET at 12, COMPLETE is bit 7 of byte 16; the path is OLD RETURN PATH ID
abbrev pub confirm_of : ℕ → ℕ → List ℕ → Message
confirm_of tag path m = ConfirmStatus tag path (long m 8) (long m 12) (eqb (byte m 16 / 128) 1)

-- the message of a row: TAG at 2, RETURN PATH ID at 4, then LUN or TAG 2 at 8, and a command's flags at 10
unfoldable pub fields_of : ℕ → List ℕ → Message
fields_of row m =
    cond (eqb row 0) (Command (word m 2) (long m 4) (byte m 8) (flags_of (byte m 10)))
    (cond (eqb row 1) (confirm_of (word m 2) (long m 4) m)
    (cond (eqb row 2) (AbortTask (word m 2) (long m 4) (word m 8))
    (cond (eqb row 3) (AbortTaskSet (word m 2) (long m 4) (byte m 8))
    (cond (eqb row 4) (ClearTaskSet (word m 2) (long m 4) (byte m 8))
    (cond (eqb row 5) (TargetReset (word m 2) (long m 4))
    (cond (eqb row 6) (ClearAca (word m 2) (long m 4) (byte m 8))
    (UnitReset (word m 2) (long m 4) (byte m 8))))))))

-- 1 if under 2 bytes, 2, then 1 if under the length needed; bytes past it are not read
unfoldable pub read_of : List ℕ → Result Message Refusal
read_of m =
    cond (ltb (length m) 2) (Err too_short)
    (cond (not (eqb (byte m 0) sms_code)) (Err not_handled)
    (cond (eqb (row_of (byte m 1)) rows) (Err not_handled)
    (cond (ltb (length m) (length_of (row_of (byte m 1)))) (Err too_short)
    (Ok (fields_of (row_of (byte m 1)) m)))))

-- ---- the reserved fields

-- table 5: byte 9, bits 3 and 2 of byte 10, bytes 11, 14 and 15
unfoldable pub command_reserved : List ℕ → Bool
command_reserved m =
    not (eqb (byte m 9) 0) || not (eqb (byte m 10 / 4 % 4) 0) || not (eqb (byte m 11) 0) || not (eqb (byte m 14) 0) || not (eqb (byte m 15) 0)

-- table 11: bits 6 to 0 of byte 16
unfoldable pub confirm_reserved : List ℕ → Bool
confirm_reserved m = not (eqb (byte m 16 % 128) 0)

-- a reserved field is not zero: tables 14 to 19 have none
unfoldable pub reserved_set : List ℕ → Bool
reserved_set m = cond (eqb (byte m 1) scsi_command) (command_reserved m) (cond (eqb (byte m 1) confirm_status) (confirm_reserved m) false)

-- one of the bytes has a bit of the mask beside it
abbrev pub any_masked : List ℕ → List ℕ → Bool
any_masked m masks = list_any (λ p. not (eqb (bit_and p.0 p.1) 0)) (zip m masks)
