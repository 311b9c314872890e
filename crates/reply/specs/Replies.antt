-- The replies: which can be written, and the bytes of each (003, tables 20, 7 and 10).
use Rattle.std.specs.Prelude.{ℕ, ◌/◌, ◌%◌, List, [], ◌∷◌, Bool, true, false, cond, ◌&&◌, ◌||◌, replicate, leb, eqb}
use Rattle.wire.specs.Codes.{sms_code, scsi_response, scsi_status, current_error, additional_sense_length}
use Rattle.wire.specs.Codes.{done, task_not_found, overlapped, no_aca, invalid_field}
use Rattle.wire.specs.Codes.{good, check_condition, condition_met, reservation_conflict, task_set_full, aca_active}
use Rattle.wire.specs.declared.codes.Sense.{Sense}
use Rattle.reply.specs.declared.Reply.{Reply}
use Rattle.reply.specs.declared.Reply.TheVariants.{Response, Status, Invalid}

-- ---- writable

-- x is one of the list
abbrev pub one_of : ℕ → List ℕ → Bool
one_of x [] = false
one_of x (y ∷ ys) = eqb x y || one_of x ys

-- the codes of a RESPONSE, and the statuses that go without sense
abbrev pub response_codes : List ℕ
response_codes = done.0 ∷ task_not_found.0 ∷ overlapped.0 ∷ no_aca.0 ∷ invalid_field.0 ∷ []

abbrev pub plain_statuses : List ℕ
plain_statuses = good.0 ∷ condition_met.0 ∷ reservation_conflict.0 ∷ task_set_full.0 ∷ aca_active.0 ∷ []

abbrev pub is_none : Sense → Bool
is_none s = eqb s.key 0 && (eqb s.code 0 && eqb s.qualifier 0)

-- RESPONSE with one of the five codes; STATUS 02h, key up to 15; STATUS 00h, 04h, 18h, 28h, 30h, sense zero; the
-- STATUS of an invalid command
unfoldable pub writable_of : Reply → Bool
writable_of (Response tag code) = one_of code.0 response_codes
writable_of (Status tag status sense) =
    cond (eqb status.0 check_condition.0) (leb sense.key 15) (is_none sense && one_of status.0 plain_statuses)
writable_of (Invalid tag) = true

-- ---- the bytes

-- table 10, bytes 8 to 25: a current error, VALID clear, SENSE KEY at 10, ADDITIONAL SENSE LENGTH at 15, code and
-- qualifier at 20 and 21
abbrev pub sense_bytes : Sense → List ℕ
sense_bytes s =
    current_error ∷ 0 ∷ s.key ∷ 0 ∷ 0 ∷ 0 ∷ 0 ∷ additional_sense_length ∷ 0 ∷ 0 ∷ 0 ∷ 0 ∷ s.code ∷ s.qualifier ∷ 0 ∷ 0 ∷ 0 ∷ 0 ∷ []

-- RESPONSE by table 20: 5 bytes. STATUS by table 7: STATUS at 4, FLAG and LINK 0, RETURN CODE 00h at 6, sense with
-- 02h and else 18 zero bytes. An invalid command's STATUS: 00h at 4, RETURN CODE FFh (INVALID FIELD) at 6, sense zero
unfoldable pub bytes_of : Reply → List ℕ
bytes_of (Response tag code) = sms_code ∷ scsi_response ∷ tag / 256 ∷ tag % 256 ∷ code.0 ∷ []
bytes_of (Status tag status sense) =
    sms_code ∷ scsi_status ∷ tag / 256 ∷ tag % 256 ∷ status.0 ∷ 0 ∷ 0 ∷ 0
    ∷ cond (eqb status.0 check_condition.0) (sense_bytes sense) (replicate 18 0)
bytes_of (Invalid tag) = sms_code ∷ scsi_status ∷ tag / 256 ∷ tag % 256 ∷ good.0 ∷ 0 ∷ invalid_field.0 ∷ 0 ∷ replicate 18 0

-- the shortest reply of each code
abbrev pub response_length : ℕ
response_length = 5

abbrev pub status_length : ℕ
status_length = 26
