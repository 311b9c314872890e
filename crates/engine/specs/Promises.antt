-- What is promised of the calls beside their contracts. Each is proved in proofs/Promises.antt or a file that its
-- first lines name; Unique.antt has that outcomes are one.
use Rattle.std.specs.Prelude.{Result, Ok, Err, ℕ, ◌<◌, ◌≤◌, ◌^◌, ◌≡◌, Bool, true, false, List, ◌++◌, length, Some}
use Rattle.std.proofs.Math.Option.{none, some}
use Rattle.wire.specs.Codes.{reply_room}
use Rattle.wire.specs.Messages.{read_of}
use Rattle.wire.specs.Block.{block_length, cut_short, no_block}
use Rattle.wire.specs.Promises.{Whole}
use Rattle.wire.specs.declared.codes.Refusal.{Refusal}
use Rattle.wire.specs.declared.codes.StatusByte.{StatusByte}
use Rattle.wire.specs.declared.codes.Sense.{Sense}
use Rattle.wire.specs.declared.message.Message.TheVariants.{AbortTask}
use Rattle.reply.specs.Replies.{writable_of, bytes_of}
use Rattle.reply.specs.Calls.{placed}
use Rattle.reply.specs.declared.Reply.{Reply}
use Rattle.task.specs.Tasks.{is_unconfirmed, offset_of, transferred_of, restarts}
use Rattle.task.specs.Next.{Next}
use Rattle.task.specs.declared.Task.{Task}
use Rattle.task.specs.declared.scan.Pick.{Pick}
use Rattle.table.specs.Tables.{zero_table, path_of, path_at, unit_at, started}
use Rattle.table.specs.Setup.{bad_list}
use Rattle.table.specs.View.{at}
use Rattle.sound.specs.Promises.{Good}
use Rattle.table.specs.declared.Table.{Table}
use Rattle.plan.specs.Plans.{asking, asked_in, reply_of}
use Rattle.plan.specs.declared.Request.TheVariants.{Confirm}
use Rattle.plan.specs.declared.Answer.{Answer}
use Rattle.plan.specs.declared.Answer.TheVariants as answer
use Rattle.engine.specs.Calls.{message_of, start_of, finish_of, total_reset_of, setup_of, may_go, replied, handed_over}
use Rattle.engine.specs.Calls.{SetupContract, MessageContract, StartContract, FinishContract, TotalResetContract}
use Rattle.engine.specs.declared.Outcome.{Outcome}

-- ---- a numbered refusal changes neither the table nor the reply buffer; a refused setup hands back the all-zero table

abbrev pub MessageRefusals : Type 0
MessageRefusals = (t : Table) (m buf : List ℕ) (o : Outcome) (left : List ℕ) (n : Refusal)
    → MessageContract t m buf o left → o.answer ≡ Err n → (o.table ≡ t) × (left ≡ buf)

abbrev pub FinishRefusals : Type 0
FinishRefusals = (t : Table) (arrival : ℕ) (status : StatusByte) (s : Sense) (transferred : ℕ) (buf : List ℕ) (o : Outcome) (left : List ℕ) (n : Refusal)
    → FinishContract t arrival status s transferred buf o left → o.answer ≡ Err n → (o.table ≡ t) × (left ≡ buf)

abbrev pub StartRefusals : Type 0
StartRefusals = (t : Table) (unit : ℕ) (o : Outcome) (n : Refusal) → StartContract t unit o → o.answer ≡ Err n → o.table ≡ t

abbrev pub ResetRefusals : Type 0
ResetRefusals = (t : Table) (o : Outcome) (n : Refusal) → TotalResetContract t o → o.answer ≡ Err n → o.table ≡ t

abbrev pub SetupRefusals : Type 0
SetupRefusals = (ids : List ℕ) (attached first : ℕ) (o : Outcome) (n : Refusal) → SetupContract ids attached first o → o.answer ≡ Err n → o.table ≡ zero_table

-- ---- a refusal ends nothing, on any table; nor does a start or a setup, however it is answered

pub record EndsNothing (o : Outcome) : Type 0 where
  pub ended : o.ended ≡ 0
  pub stops : o.stops ≡ 0

pub record NothingEnded : Type 0 where
  pub message : (t : Table) (m buf : List ℕ) (o : Outcome) (left : List ℕ) (n : Refusal) → MessageContract t m buf o left → o.answer ≡ Err n → EndsNothing o
  pub start : (t : Table) (unit : ℕ) (o : Outcome) → StartContract t unit o → EndsNothing o
  pub finish : (t : Table) (arrival : ℕ) (status : StatusByte) (s : Sense) (transferred : ℕ) (buf : List ℕ) (o : Outcome) (left : List ℕ) (n : Refusal)
      → FinishContract t arrival status s transferred buf o left → o.answer ≡ Err n → EndsNothing o
  pub total_reset : (t : Table) (o : Outcome) (n : Refusal) → TotalResetContract t o → o.answer ≡ Err n → EndsNothing o
  pub setup : (ids : List ℕ) (attached first : ℕ) (o : Outcome) → SetupContract ids attached first o → EndsNothing o

-- ---- where the answer is a reply, that reply is written

-- r is one that the engine can write, no longer than 64 bytes; its bytes stand at the front of the buffer, and those
-- after it keep their values
pub record ReplyWritten (r : Reply) (buf left : List ℕ) : Type 0 where
  pub writable : writable_of r ≡ true
  pub no_longer : length (bytes_of r) ≤ reply_room
  pub in_front : left ≡ placed (bytes_of r) buf

-- whatever the buffer: with under 64 bytes no answer is a reply. So no other code than 00h, 01h, 04h, 20h and FFh
-- goes out, no other status than the six, RETURN CODE FFh with 00h alone, and no reply is left unwritten
pub record RepliesAreWritten : Type 0 where
  pub message : (t : Table) (m buf : List ℕ) (o : Outcome) (left : List ℕ) (r : Reply)
      → MessageContract t m buf o left → reply_of o.answer ≡ some r → ReplyWritten r buf left
  pub finish : (t : Table) (arrival : ℕ) (status : StatusByte) (s : Sense) (transferred : ℕ) (buf : List ℕ) (o : Outcome) (left : List ℕ) (r : Reply)
      → FinishContract t arrival status s transferred buf o left → reply_of o.answer ≡ some r → ReplyWritten r buf left

-- ---- what an accepted command and a start come to

-- the block of an accepted command is whole and has a length, and so many bytes are handed over
abbrev pub AcceptedIsWhole : Type 0
AcceptedIsWhole = (t : Table) (m buf : List ℕ) (o : Outcome) (left : List ℕ) (arrival : ℕ)
    → MessageContract t m buf o left → o.answer ≡ Ok (answer.Accepted arrival)
    → (cut_short m ≡ false) × (no_block m ≡ false) × (length (handed_over m o.answer) ≡ block_length m)

-- the record of one of the tasks that may go, and of these the one that goes next: it runs in the table after, and
-- its arrival number and offset are the answer
pub record Goes (t : Table) (unit offset arrival : ℕ) (after : Table) : Type 0 where
  pub pick : Pick
  pub next : Next t.live (may_go (unit_at t unit).aca unit) t.tasks (length t.tasks) (Some pick)
  pub number : pick.task.arrival ≡ arrival
  pub offset_named : offset_of pick.task ≡ offset
  pub runs : after ≡ started t pick.at

abbrev pub StartsNext : Type 0
StartsNext = (t : Table) (unit offset arrival : ℕ) (o : Outcome) → StartContract t unit o → o.answer ≡ Ok (answer.Started offset arrival) → Goes t unit offset arrival o.table

-- ---- what becomes of a task that waits to be confirmed

-- the live task a of the sender, with the tag of the message, that waits to be confirmed, has the number
pub record Awaited (t : Table) (path tag arrival place : ℕ) (a : Task) : Type 0 where
  pub below : place < 64
  pub here : at t place ≡ some a
  pub sender : a.path ≡ path_of t path
  pub named : a.tag ≡ tag
  pub number : a.arrival ≡ arrival
  pub waits : is_unconfirmed a.phase ≡ true

-- every record but the one at i, and all else of the table, is in u as in t
pub record OnlyRecord (i : ℕ) (t u : Table) : Type 0 where
  pub records : (j : ℕ) → j < 64 → (j ≡ i → ⊥) → at u j ≡ at t j
  pub next : u.next ≡ t.next
  pub count : u.count ≡ t.count
  pub attached : u.attached ≡ t.attached
  pub paths : u.paths ≡ t.paths
  pub units : u.units ≡ t.units

-- `confirmed` and `restarted` name the sender's own task that waits to be confirmed. `confirmed` is the answer where
-- COMPLETE is set, and ends it; `restarted` where COMPLETE is clear, and has it wait again under its number, at an
-- offset within the bytes transferred; all else stays. No reply is sent
pub record ConfirmsItsOwn : Type 0 where
  pub confirmed : (t : Table) (m buf : List ℕ) (o : Outcome) (left : List ℕ) (path tag offset arrival : ℕ) (complete : Bool)
      → Good t → MessageContract t m buf o left → asked_in (read_of m) ≡ Ok (asking path tag (Confirm offset complete)) → o.answer ≡ Ok (answer.Confirmed arrival)
      → (complete ≡ true) × (i : ℕ) × (a : Task) × Awaited t path tag arrival i a × (at o.table i ≡ none) × OnlyRecord i t o.table × (left ≡ buf)
  pub restarted : (t : Table) (m buf : List ℕ) (o : Outcome) (left : List ℕ) (path tag offset arrival : ℕ) (complete : Bool)
      → Good t → MessageContract t m buf o left → asked_in (read_of m) ≡ Ok (asking path tag (Confirm offset complete)) → o.answer ≡ Ok (answer.Restarted arrival)
      → (complete ≡ false) × (i : ℕ) × (a : Task) × Awaited t path tag arrival i a × (offset ≤ transferred_of a) × (at o.table i ≡ some (restarts offset a))
      × OnlyRecord i t o.table × (left ≡ buf)

-- ---- bytes past the specified length are not read

-- whatever comes after a whole message, the outcome is the same; and whatever comes after a whole command block, the
-- same block is handed over
pub record PastIsNotRead : Type 1 where
  pub outcome : (t : Table) (m rest : List ℕ) (n : ℕ) → Whole m → message_of t (m ++ rest) n ≡ message_of t m n
  pub command_block : {E : Type 0} (m rest : List ℕ) (a : Result Answer E) → cut_short m ≡ false → handed_over (m ++ rest) a ≡ handed_over m a

-- ---- every call keeps a table sound, and setup's is

abbrev pub MessageKeeps : Type 0
MessageKeeps = (t : Table) (m : List ℕ) (n : ℕ) → Good t → Good (message_of t m n).table

abbrev pub StartKeeps : Type 0
StartKeeps = (t : Table) (unit : ℕ) → Good t → Good (start_of t unit).table

abbrev pub FinishKeeps : Type 0
FinishKeeps = (t : Table) (arrival : ℕ) (status : StatusByte) (s : Sense) (transferred n : ℕ) → Good t → Good (finish_of t arrival status s transferred n).table

abbrev pub ResetKeeps : Type 0
ResetKeeps = (t : Table) → Good t → Good (total_reset_of t).table

abbrev pub SetupIsGood : Type 0
SetupIsGood = (ids : List ℕ) (attached first : ℕ) → first < 2 ^ 64 → bad_list ids ≡ false → Good (setup_of ids attached first).table

-- ---- ABORT TASK: its reply depends only on the message, the path list, the attached units and the sender's own live tasks

-- the task a is live in the table
abbrev pub Live : Table → Task → Type 0
Live t a = (i : ℕ) × (i < 64) × (at t i ≡ some a)

-- two tables agree on what ABORT TASK of the path with an id may go by
pub record Agree (path : ℕ) (t u : Table) : Type 0 where
  pub count : t.count ≡ u.count
  pub ids : (p : ℕ) → p < t.count → (path_at t p).id ≡ (path_at u p).id
  pub attached : t.attached ≡ u.attached
  pub there : (a : Task) → a.path ≡ path_of t path → Live t a → Live u a
  pub back : (a : Task) → a.path ≡ path_of t path → Live u a → Live t a

abbrev pub AbortDependsOnly : Type 0
AbortDependsOnly = (t u : Table) (m buf : List ℕ) (tag path tag2 : ℕ) → Good t → Good u → 64 ≤ length buf → read_of m ≡ Ok (AbortTask tag path tag2) → Agree path t u
    → ((message_of t m (length buf)).answer ≡ (message_of u m (length buf)).answer) × ((message_of t m (length buf)).to ≡ (message_of u m (length buf)).to)
    × (replied (message_of t m (length buf)).answer buf ≡ replied (message_of u m (length buf)).answer buf)
