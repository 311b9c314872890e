-- A command, step by step: page 01's list of eleven rules, line by line, with rule 4 as M-100 of page 02 has it, and
-- which rules hold the queue as M-103 has it. Rule 1 has a line for each of its answers; where none of them applies,
-- the list goes on.
use Rattle.std.specs.Prelude.{ℕ, ◌+◌, ◌/◌, ◌%◌, Bool, true, cond, not, ◌&&◌, ◌||◌, List, [], ◌∷◌, ◌++◌, length, eqb}
use Rattle.wire.specs.Codes
use Rattle.wire.specs.Fields.{byte, word}
use Rattle.wire.specs.Messages.{reserved_set}
use Rattle.wire.specs.Block.{opcode, block_length, cut_short, no_block, linked}
use Rattle.wire.specs.declared.message.Flags.{Flags}
use Rattle.task.specs.Tasks.{is_aca}
use Rattle.table.specs.Tables.{is_reset, is_cleared}
use Rattle.rules.specs.First.{Rule, rule, first_that}
use Rattle.rules.specs.declared.facts.Facts.{Facts}
use Rattle.rules.specs.declared.change.SenderChange.TheVariants.{Stays, SetMark, ClearMark, ClearMarkAndAttention}
use Rattle.rules.specs.declared.change.QueueChange.TheVariants.{Leaves, Holds}
use Rattle.rules.specs.declared.command.Ruling.{Ruling}
use Rattle.rules.specs.declared.command.Ruling.TheVariants.{Refuse, Respond, Report, Invalid, Accept}
use Rattle.rules.specs.declared.command.Decision.{Decision}

-- ---- when a rule applies: f is what was asked of the table, g are the flags of byte 10, m is the message

-- QUEUE CNTL says ACA
abbrev pub asks_aca : Flags → Bool
asks_aca g = is_aca g.queue

-- RESUME set, path not marked
unfoldable pub resumes_unmarked : Facts → Flags → Bool
resumes_unmarked f g = g.resume && not f.marked

-- RESUME clear, marked
unfoldable pub misses_resume : Facts → Flags → Bool
misses_resume f g = not g.resume && f.marked

-- OOT and CONFIRM both set
unfoldable pub contradicts : Flags → Bool
contradicts g = g.oot && g.confirm

-- unit has ACA: pass only if the sender owns it, the kind is ACA and no ACA task is live on the unit
unfoldable pub kept_out_by_aca : Facts → Flags → Bool
kept_out_by_aca f g = f.aca && not (f.owned && (asks_aca g && not f.busy))

-- no ACA and kind ACA
unfoldable pub aca_kind_without_aca : Facts → Flags → Bool
aca_kind_without_aca f g = not f.aca && asks_aca g

-- first CDB byte 12h (INQUIRY) or 03h (REQUEST SENSE)
unfoldable pub passes_attention : List ℕ → Bool
passes_attention m = eqb (opcode m) Codes.inquiry || eqb (opcode m) Codes.request_sense

unfoldable pub reset_to_report : Facts → List ℕ → Bool
reset_to_report f m = is_reset f.attention && not (passes_attention m)

unfoldable pub cleared_to_report : Facts → List ℕ → Bool
cleared_to_report f m = is_cleared f.attention && not (passes_attention m)

-- the first of some fields that is not zero, 0 where all are
abbrev pub first_set : List ℕ → ℕ
first_set [] = 0
first_set (x ∷ xs) = cond (eqb x 0) (first_set xs) x

-- the first reserved field that is not zero: byte 9, bits 3 and 2 of byte 10, bytes 11, 14 and 15
abbrev pub reserved_field : List ℕ → ℕ
reserved_field m = first_set (byte m 9 ∷ byte m 10 / 4 % 4 ∷ byte m 11 ∷ byte m 14 ∷ byte m 15 ∷ [])

-- ---- the list: number, when, the field value behind it, the answer

-- beside the answer stands what it does to the sender's mark and attention, and beside a STATUS whether it holds the
-- queue of the unit. A RESPONSE, an `invalid` and a refusal have no such column: they never do

-- 1. room, and 2. the length
unfoldable pub room_rules : Facts → Flags → List ℕ → List Rule
room_rules f g m =
    rule 1 (resumes_unmarked f g) (byte m 10) (Respond Codes.invalid_field Stays)
    ∷ rule 1 (misses_resume f g) (byte m 10) (Refuse Codes.discarded)
    ∷ rule 1 (not f.room) (byte m 10) (Report Codes.task_set_full Codes.no_sense SetMark Leaves)
    ∷ rule 2 (cut_short m) (length m) (Refuse Codes.too_short)
    ∷ []

-- 3. to 5.: the fields, OOT with CONFIRM, the tag. From here on the mark is cleared
unfoldable pub field_rules : Facts → Flags → List ℕ → List Rule
field_rules f g m =
    rule 3 (reserved_set m) (reserved_field m) (Respond Codes.invalid_field ClearMark)
    ∷ rule 4 (contradicts g) (byte m 10) (Invalid ClearMark)
    ∷ rule 5 f.taken (word m 2) (Respond Codes.overlapped ClearMark)
    ∷ []

-- 6. to 8.: the unit, its ACA, the sender's attention
unfoldable pub unit_rules : Facts → Flags → List ℕ → List Rule
unit_rules f g m =
    rule 6 (not f.attached) (byte m 8) (Report Codes.check_condition Codes.no_such_unit ClearMark Leaves)
    ∷ rule 7 (kept_out_by_aca f g) (byte m 10) (Report Codes.aca_active Codes.no_sense ClearMark Leaves)
    ∷ rule 7 (aca_kind_without_aca f g) (byte m 10) (Report Codes.check_condition Codes.no_aca_there ClearMark Holds)
    ∷ rule 8 (reset_to_report f m) (opcode m) (Report Codes.check_condition Codes.reset_occurred ClearMarkAndAttention Holds)
    ∷ rule 8 (cleared_to_report f m) (opcode m) (Report Codes.check_condition Codes.cleared_by_another ClearMarkAndAttention Holds)
    ∷ []

-- 9. and 10.: the command block
unfoldable pub block_rules : List ℕ → List Rule
block_rules m =
    rule 9 (no_block m) (opcode m) (Report Codes.check_condition Codes.unknown_command ClearMark Holds)
    ∷ rule 10 (linked m) (byte m (15 + block_length m)) (Report Codes.check_condition Codes.invalid_in_block ClearMark Holds)
    ∷ []

-- 11. accepted
abbrev pub accepts : List ℕ → Rule
accepts m = rule 11 true (opcode m) Accept

unfoldable pub command_rules : Facts → Flags → List ℕ → List Rule
command_rules f g m = room_rules f g m ++ (field_rules f g m ++ (unit_rules f g m ++ block_rules m))

-- the rule that decided
abbrev pub deciding : Facts → Flags → List ℕ → Rule
deciding f g m = first_that (command_rules f g m) (accepts m)

-- its number and its answer
abbrev pub decided : ℕ → Ruling → Decision
decided number ruling = record { rule = number; ruling = ruling }

abbrev pub decision : Rule → Decision
decision r = decided r.number r.gives
