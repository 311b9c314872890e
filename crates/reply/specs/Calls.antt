-- The reply writer and the reply reader.
use Rattle.std.specs.Prelude.{ℕ, ◌≡◌, List, ◌++◌, cond, not, ◌&&◌, length, drop, ltb, eqb, Result, Ok, Err}
use Rattle.std.specs.List.{starts_with}
use Rattle.wire.specs.Codes.{too_short, not_handled, small_buffer, not_writable, reply_room}
use Rattle.wire.specs.Codes.{sms_code, scsi_response, scsi_status, return_code, invalid_field, status_byte, sense}
use Rattle.wire.specs.declared.codes.Refusal.{Refusal}
use Rattle.wire.specs.Fields.{byte, word}
use Rattle.reply.specs.Replies.{writable_of, bytes_of, response_length, status_length}
use Rattle.reply.specs.declared.Reply.{Reply}
use Rattle.reply.specs.declared.Reply.TheVariants.{Response, Status, Invalid}

-- ---- the writer: 5, then 14

-- the number of bytes written, or the refusal
unfoldable pub written_of : Reply → List ℕ → Result ℕ Refusal
written_of r buf =
    cond (ltb (length buf) reply_room) (Err small_buffer)
    (cond (writable_of r) (Ok (length (bytes_of r))) (Err not_writable))

-- the reply at the front of the buffer; bytes after it keep their values
abbrev pub placed : List ℕ → List ℕ → List ℕ
placed bs buf = bs ++ drop (length bs) buf

-- the buffer as the writer leaves it: a refusal changes nothing
unfoldable pub left_of : Reply → List ℕ → List ℕ
left_of r buf = cond (ltb (length buf) reply_room) buf (cond (writable_of r) (placed (bytes_of r) buf) buf)

-- the contract of `write`: the answer w, and the buffer as it is left
pub record Writes (r : Reply) (buf : List ℕ) (w : Result ℕ Refusal) (left : List ℕ) : Type 0 where
  pub answer : w ≡ written_of r buf
  pub buffer : left ≡ left_of r buf

-- ---- the reader: 1 if under 2 bytes, 2, 1 if under the shortest such reply, 14

-- the reader wants one at the start of its bytes: r can be written, and these are its bytes
unfoldable pub fitted : Reply → List ℕ → Result Reply Refusal
fitted r b = cond (writable_of r && starts_with eqb b (bytes_of r)) (Ok r) (Err not_writable)

-- the fields of a RESPONSE (table 20) and of a STATUS (tables 7 and 10), whose RETURN CODE at 6 is FFh for an invalid
-- command
abbrev pub as_response : List ℕ → Reply
as_response b = Response (word b 2) (return_code (byte b 4))

abbrev pub as_status : List ℕ → Reply
as_status b =
    cond (eqb (byte b 6) invalid_field.0) (Invalid (word b 2))
    (Status (word b 2) (status_byte (byte b 4)) (sense (byte b 10) (byte b 20) (byte b 21)))

unfoldable pub found_in : List ℕ → Result Reply Refusal
found_in b =
    cond (ltb (length b) 2) (Err too_short)
    (cond (not (eqb (byte b 0) sms_code)) (Err not_handled)
    (cond (eqb (byte b 1) scsi_response) (cond (ltb (length b) response_length) (Err too_short) (fitted (as_response b) b))
    (cond (eqb (byte b 1) scsi_status) (cond (ltb (length b) status_length) (Err too_short) (fitted (as_status b) b))
    (Err not_handled))))
