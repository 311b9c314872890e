-- Demand 2 of the replies: reading a reply gives back its fields; writing those gives back its bytes; and what page
-- 01 says of their lengths. Each is proved in proofs/Promises.antt and proofs/Past.antt.
use Rattle.std.specs.Prelude.{ℕ, ◌≤◌, ◌≡◌, List, ◌++◌, length, take, Result, Ok, Err}
use Rattle.wire.specs.Codes.{too_short, reply_room}
use Rattle.wire.specs.declared.codes.Refusal.{Refusal}
use Rattle.reply.specs.Replies.{bytes_of}
use Rattle.reply.specs.Calls.{Writes, found_in}
use Rattle.reply.specs.declared.Reply.{Reply}

-- reading what was written gives back the reply, with any bytes after it
abbrev pub ReadsWhatWasWritten : Type 0
ReadsWhatWasWritten =
    (r : Reply) (buf left : List ℕ) (n : ℕ) → Writes r buf (Ok n) left → found_in left ≡ Ok r

-- writing the fields that were read, into any buffer that is large enough, gives back the bytes
abbrev pub WritesWhatWasRead : Type 0
WritesWhatWasRead =
    (b buf left : List ℕ) (r : Reply) (w : Result ℕ Refusal) → found_in b ≡ Ok r → reply_room ≤ length buf → Writes r buf w left
    → (w ≡ Ok (length (bytes_of r))) × (take (length (bytes_of r)) left ≡ take (length (bytes_of r)) b)

-- a refused write leaves every byte
abbrev pub RefusalLeavesTheBuffer : Type 0
RefusalLeavesTheBuffer = (r : Reply) (buf left : List ℕ) (n : Refusal) → Writes r buf (Err n) left → left ≡ buf

-- no reply is longer than 64 bytes
abbrev pub NoReplyIsLonger : Type 0
NoReplyIsLonger = (r : Reply) → length (bytes_of r) ≤ reply_room

-- bytes past the specified length are not read: what is not refused by 1 is found so whatever comes after it
abbrev pub PastIsNotRead : Type 0
PastIsNotRead = (b rest : List ℕ) → (found_in b ≡ Err too_short → ⊥) → found_in (b ++ rest) ≡ found_in b
