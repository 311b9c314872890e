-- Page 01's proved examples a to l as one table, its worked calls as page 02's M-103 has them, which answers hold the
-- queue as another table, confirmed status as a third, and what each order ends. Paths 1 and 2, mask 01h, no attention,
-- nothing live unless said; tag 0005h, path 1, kind 3, zero CDB.
use Rattle.wire.specs.declared.codes.Refusal.{Refusal}
use Rattle.std.specs.Prelude.{Result, Ok, Err, ℕ, zero, suc, ◌+◌, ◌-◌, ◌^◌, ◌≡◌, Bool, true, false, List, [], ◌∷◌, map, replicate, Option, Some, None}
use Rattle.wire.specs.Codes
use Rattle.reply.specs.Calls.{placed}
use Rattle.task.specs.Tasks.{no_task, accepted_as}
use Rattle.task.specs.declared.Task.{Task}
use Rattle.wire.specs.declared.codes.Kind.TheVariants as kind
use Rattle.wire.specs.declared.codes.Kind.TheVariants.{Simple}
use Rattle.task.specs.declared.Sequel.TheVariants.{End, Confirm}
use Rattle.table.specs.Tables.{no_path, no_unit, path_at, accepted, started, finished}
use Rattle.table.specs.declared.Table.{Table}
use Rattle.table.specs.declared.Path as path
use Rattle.table.specs.declared.Unit as unit
use Rattle.table.specs.declared.Attention.{Attention}
use Rattle.table.specs.declared.Attention.TheVariants as attention
use Rattle.plan.specs.declared.Answer.{Answer}
use Rattle.reply.specs.declared.Reply.TheVariants.{Response, Status, Invalid}
use Rattle.plan.specs.declared.Answer.TheVariants.{Accepted, Reply, Started, Confirmed, Restarted}
use Rattle.engine.specs.Calls.{message_of, start_of, finish_of, setup_of, replied}
use Rattle.engine.specs.declared.Outcome.{Outcome}

abbrev pub listed : ℕ → path.Path
listed id = record { id = id; full = false; attention = attention.Nothing }

unfoldable pub quiet : Table
quiet = record {
  live = 0;
  next = 1;
  count = 2;
  attached = 0x01;
  paths = listed 1 ∷ listed 2 ∷ replicate 6 no_path;
  units = replicate 8 no_unit;
  tasks = replicate 64 no_task;
}

abbrev pub queued : ℕ → Task
queued k = accepted_as k 0 (0x100 + k) 0 Simple End

-- n tasks of path 1, with tags and arrival numbers from k on
unfoldable pub tasks_from : ℕ → ℕ → List Task
tasks_from k zero = []
tasks_from k (suc n) = queued k ∷ tasks_from (suc k) n

unfoldable pub full : Table
full = record { live = 2 ^ 64 - 1; next = 65; count = 2; attached = 0x01; paths = quiet.paths; units = quiet.units; tasks = tasks_from 1 64 }

-- a command with tag 0005h: path, LUN, byte 10, byte 11 and the command block
abbrev pub command : ℕ → ℕ → ℕ → ℕ → List ℕ → List ℕ
command path lun flags spare cdb =
    0x83 ∷ 0x10 ∷ 0 ∷ 5 ∷ 0 ∷ 0 ∷ 0 ∷ path ∷ lun ∷ 0 ∷ flags ∷ spare ∷ 0 ∷ 0 ∷ 0 ∷ 0 ∷ cdb

abbrev pub zeros : List ℕ
zeros = replicate 6 0

-- the command with nothing else said, and the same with RESUME
abbrev pub plain : List ℕ
plain = command 1 0 3 0 zeros

abbrev pub resumed : List ℕ
resumed = command 1 0 0x23 0 zeros

abbrev pub unit_reset : List ℕ → List ℕ
unit_reset lun = 0x83 ∷ 0x35 ∷ 0 ∷ 5 ∷ 0 ∷ 0 ∷ 0 ∷ 1 ∷ lun

-- an answer, or page 01's number of the refusal
abbrev pub numbered : Result Answer Refusal → Result Answer ℕ
numbered (Ok a) = Ok a
numbered (Err n) = Err (Codes.refusal_number n)

-- what a message is answered, and the bytes of the reply, none where the answer is no reply
pub record Example : Type 0 where
  pub table : Table
  pub message : List ℕ
  pub answer : Result Answer ℕ
  pub reply : List ℕ

-- an answer with no reply
abbrev pub silent : Table → List ℕ → Result Answer ℕ → Example
silent t m a = record { table = t; message = m; answer = a; reply = [] }

abbrev pub refuses : Table → List ℕ → ℕ → Example
refuses t m n = silent t m (Err n)

abbrev pub accept : Table → List ℕ → ℕ → Example
accept t m arrival = silent t m (Ok (Accepted arrival))

-- RESPONSE to tag 0005h
abbrev pub response : Table → List ℕ → ℕ → Example
response t m code = record { table = t; message = m; answer = Ok (Reply (Response 5 (Codes.return_code code))); reply = 0x83 ∷ 0x03 ∷ 0x00 ∷ 0x05 ∷ code ∷ [] }

-- STATUS to tag 0005h: without sense, and 02h with sense key and code
abbrev pub status : Table → List ℕ → ℕ → Example
status t m byte = record {
  table = t;
  message = m;
  answer = Ok (Reply (Status 5 (Codes.status_byte byte) Codes.no_sense));
  reply = 0x83 ∷ 0x11 ∷ 0x00 ∷ 0x05 ∷ byte ∷ replicate 21 0;
}

abbrev pub check : Table → List ℕ → ℕ → ℕ → Example
check t m key code = record {
  table = t;
  message = m;
  answer = Ok (Reply (Status 5 (Codes.status_byte 0x02) (Codes.sense key code 0x00)));
  reply = 0x83 ∷ 0x11 ∷ 0x00 ∷ 0x05 ∷ 0x02 ∷ 0 ∷ 0 ∷ 0 ∷ 0x70 ∷ 0 ∷ key ∷ 0 ∷ 0 ∷ 0 ∷ 0 ∷ 0x0a ∷ 0 ∷ 0 ∷ 0 ∷ 0 ∷ code ∷ 0 ∷ 0 ∷ 0 ∷ 0 ∷ 0 ∷ [];
}

-- STATUS 00h with RETURN CODE FFh to tag 0005h
abbrev pub invalid : Table → List ℕ → Example
invalid t m = record { table = t; message = m; answer = Ok (Reply (Invalid 5)); reply = 0x83 ∷ 0x11 ∷ 0x00 ∷ 0x05 ∷ 0x00 ∷ 0x00 ∷ 0xff ∷ replicate 19 0 }

-- the full table, after its command was answered
abbrev pub again : Table
again = (message_of full plain 64).table

unfoldable pub examples : List Example
examples =
    refuses quiet [] 1  -- a
    ∷ refuses quiet (0x83 ∷ []) 1
    ∷ refuses quiet (0x84 ∷ 0x10 ∷ []) 2  -- b
    ∷ refuses quiet (command 1 0 3 0 (replicate 5 0)) 1  -- c
    ∷ accept quiet plain 1
    ∷ refuses quiet (command 9 0 3 0 zeros) 3  -- d
    ∷ response quiet resumed 0xff  -- e
    ∷ status full plain 0x28  -- f
    ∷ refuses again plain 4
    ∷ response quiet (command 1 0 3 1 zeros) 0xff  -- g
    ∷ check quiet (command 1 7 3 0 zeros) 0x05 0x25  -- h
    ∷ check quiet (command 1 0 3 0 (0x60 ∷ [])) 0x05 0x20  -- i
    ∷ response (accepted quiet 0 5 0 Simple End) plain 0x04  -- j
    ∷ accept (accepted quiet 1 5 0 Simple End) plain 2
    ∷ check quiet (command 1 0 0 0 zeros) 0x05 0x49  -- k
    ∷ refuses quiet (unit_reset []) 1  -- l
    ∷ response quiet (unit_reset (0 ∷ [])) 0x00
    ∷ response quiet (unit_reset (7 ∷ [])) 0xff
    ∷ []

-- the reply buffer handed in: 64 bytes AAh
abbrev pub buffer : List ℕ
buffer = replicate 64 0xaa

-- the answer to an example's message and the buffer as it is left; and as page 01 says them
abbrev pub got : Example → Result Answer ℕ × List ℕ
got e = (numbered (message_of e.table e.message 64).answer, replied (message_of e.table e.message 64).answer buffer)

abbrev pub said : Example → Result Answer ℕ × List ℕ
said e = (e.answer, placed e.reply buffer)

abbrev pub ExamplesHold : Type 0
ExamplesHold = map got examples ≡ map said examples

-- ---- the worked calls

-- page 01's: setup, two commands, a start, a finish, a late finish; what the five events answer. The first command is
-- answered STATUS 02h by rule 8, and holds the queue: nothing is accepted, started or finished behind it
abbrev pub test : ℕ → List ℕ
test tag = 0x83 ∷ 0x10 ∷ 0 ∷ tag ∷ 0 ∷ 0 ∷ 0 ∷ 1 ∷ 0 ∷ 0 ∷ 3 ∷ 0 ∷ 0 ∷ 0 ∷ 0 ∷ 0 ∷ zeros

abbrev pub worked1 : Outcome
worked1 = message_of (setup_of (1 ∷ []) 0x01 1).table (test 5) 64

-- on a table: the second command, a start, a finish and a late finish
abbrev pub second : Table → Outcome
second t = message_of t (test 6) 64

abbrev pub third : Table → Outcome
third t = start_of (second t).table 0

abbrev pub fourth : Table → Outcome
fourth t = finish_of (third t).table 1 (Codes.status_byte 0x00) Codes.no_sense 0 64

abbrev pub fifth : Table → Outcome
fifth t = finish_of (fourth t).table 1 (Codes.status_byte 0x00) Codes.no_sense 0 64

abbrev pub answers_from : Outcome → List (Result Answer ℕ)
answers_from o = map (λ (x : Outcome). numbered x.answer) (let t = o.table in o ∷ second t ∷ third t ∷ fourth t ∷ fifth t ∷ [])

abbrev pub WorkedCalls : Type 0
WorkedCalls =
    answers_from worked1
    ≡ (Ok (Reply (Status 5 (Codes.status_byte 0x02) (Codes.sense 0x06 0x29 0x00)))) ∷ (Ok (Reply (Status 6 (Codes.status_byte 0x30) Codes.no_sense))) ∷ (Err 8) ∷ (Err 9)
    ∷ (Err 9) ∷ []

-- the same with CLEAR ACA, tag 0007h, after the first command: the second is accepted, started and finished
abbrev pub clearing : Outcome
clearing = message_of worked1.table (0x83 ∷ 0x34 ∷ 0 ∷ 7 ∷ 0 ∷ 0 ∷ 0 ∷ 1 ∷ 0 ∷ []) 64

abbrev pub ClearedCalls : Type 0
ClearedCalls =
    answers_from clearing
    ≡ (Ok (Reply (Response 7 (Codes.return_code 0x00)))) ∷ (Ok (Accepted 1)) ∷ (Ok (Started 0 1)) ∷ (Ok (Reply (Status 6 (Codes.status_byte 0x00) Codes.no_sense))) ∷ (Err 9) ∷ []

-- ---- which answers hold the queue

-- path 1 with a mark or none, and an attention
abbrev pub first : Bool → Attention → path.Path
first full pending = record { id = 1; full = full; attention = pending }

-- the quiet table with another first path, and another ACA on unit 0
abbrev pub quiet_with : path.Path → Option ℕ → Table
quiet_with a aca = record {
  live = 0;
  next = 1;
  count = 2;
  attached = 0x01;
  paths = a ∷ listed 2 ∷ replicate 6 no_path;
  units = record { aca = aca } ∷ replicate 7 no_unit;
  tasks = quiet.tasks;
}

-- path 1 has reset attention, cleared attention; it is marked as well; unit 0 has ACA of path 1, of path 2
abbrev pub attentive : Attention → Option ℕ → Table
attentive pending aca = quiet_with (first false pending) aca

abbrev pub marked : Table
marked = quiet_with (first true attention.Reset) None

abbrev pub mine : Table
mine = quiet_with (listed 1) (Some 0)

abbrev pub theirs : Table
theirs = quiet_with (listed 1) (Some 1)

-- kind ACA; LINK set
abbrev pub aca_kind : List ℕ → List ℕ
aca_kind cdb = command 1 0 0 0 cdb

abbrev pub link_set : List ℕ
link_set = 0 ∷ 0 ∷ 0 ∷ 0 ∷ 0 ∷ 1 ∷ []

-- a message with its answer, and after it: the ACA of unit 0, and path 1 with its mark and attention
pub record Hold : Type 0 where
  pub example : Example
  pub aca : Option ℕ
  pub sender : path.Path

abbrev pub row : Example → Option ℕ → path.Path → Hold
row e aca a = record { example = e; aca = aca; sender = a }

-- by the number of the rule that answers
unfoldable pub holdings : List Hold
holdings =
    row (check quiet (aca_kind zeros) 0x05 0x49) (Some 0) (listed 1)  -- 7: no ACA and kind ACA
    ∷ row (check (attentive attention.Reset None) (aca_kind zeros) 0x05 0x49) (Some 0) (first false attention.Reset)  -- the attention stays
    ∷ row (check (attentive attention.Reset None) plain 0x06 0x29) (Some 0) (listed 1)  -- 8: the attention goes, the ACA comes
    ∷ row (check (attentive attention.Cleared None) plain 0x06 0x2f) (Some 0) (listed 1)
    ∷ row (check marked resumed 0x06 0x29) (Some 0) (listed 1)  -- the mark goes too
    ∷ row (check quiet (command 1 0 3 0 (0x60 ∷ [])) 0x05 0x20) (Some 0) (listed 1)  -- 9
    ∷ row (check quiet (command 1 0 3 0 link_set) 0x05 0x24) (Some 0) (listed 1)  -- 10
    ∷ row (check (attentive attention.Reset (Some 0)) (aca_kind zeros) 0x06 0x29) (Some 0) (listed 1)  -- of the owner: 8
    ∷ row (check mine (aca_kind (0x60 ∷ [])) 0x05 0x20) (Some 0) (listed 1)  -- 9
    ∷ row (check mine (aca_kind link_set) 0x05 0x24) (Some 0) (listed 1)  -- 10
    ∷ row (status mine plain 0x30) (Some 0) (listed 1)  -- 7: 30h to the owner, to another
    ∷ row (status theirs (aca_kind zeros) 0x30) (Some 1) (listed 1)
    ∷ row (status (attentive attention.Reset (Some 1)) plain 0x30) (Some 1) (first false attention.Reset)
    ∷ row (check quiet (command 1 7 3 0 zeros) 0x05 0x25) None (listed 1)  -- 6
    ∷ row (status full plain 0x28) None (first true attention.Nothing)  -- 1: 28h
    ∷ row (response quiet resumed 0xff) None (listed 1)  -- 1: FFh
    ∷ row (refuses (quiet_with (first true attention.Nothing) None) plain 4) None (first true attention.Nothing)  -- 1: 4
    ∷ row (refuses quiet (command 1 0 3 0 (replicate 5 0)) 1) None (listed 1)  -- 2
    ∷ row (response quiet (command 1 0 3 1 zeros) 0xff) None (listed 1)  -- 3
    ∷ row (invalid quiet (command 1 0 0x53 0 zeros)) None (listed 1)  -- 4
    ∷ row (response (accepted quiet 0 5 0 Simple End) plain 0x04) None (listed 1)  -- 5
    ∷ row (accept quiet plain 1) None (listed 1)  -- 11
    ∷ []

abbrev pub after : Hold → (Result Answer ℕ × List ℕ) × (List unit.Unit × path.Path)
after h = let t = (message_of h.example.table h.example.message 64).table in (got h.example, (t.units, path_at t 0))

-- no other unit has an ACA
abbrev pub expected : Hold → (Result Answer ℕ × List ℕ) × (List unit.Unit × path.Path)
expected h = (said h.example, (record { aca = h.aca } ∷ replicate 7 no_unit, h.sender))

abbrev pub HoldingsHold : Type 0
HoldingsHold = map after holdings ≡ map expected holdings

-- an ACA command that was answered 05h/49h passes rule 7 when it is sent again: it is accepted, or with attention
-- pending answered 06h/29h, and accepted the third time
abbrev pub sends_aca : Table → Outcome
sends_aca t = message_of t (aca_kind zeros) 64

abbrev pub AgainPasses : Type 0
AgainPasses =
    ((sends_aca (sends_aca quiet).table).answer ≡ Ok (Accepted 1))
    × (map (λ (o : Outcome). numbered o.answer) (let u = attentive attention.Reset None in sends_aca u ∷ sends_aca (sends_aca u).table ∷ sends_aca (sends_aca (sends_aca u).table).table ∷ [])
    ≡ (Ok (Reply (Status 5 Codes.check_condition Codes.no_aca_there))) ∷ (Ok (Reply (Status 5 Codes.check_condition Codes.reset_occurred))) ∷ (Ok (Accepted 1)) ∷ [])

-- path 2's task runs on unit 0; path 1's bad command holds the queue; the task goes on, and its finish with 02h leaves
-- the first owner
unfoldable pub running : Table
running = started (accepted quiet 1 6 0 Simple End) 0

abbrev pub bad : Outcome
bad = message_of running (command 1 0 3 0 link_set) 64

abbrev pub ends : Outcome
ends = finish_of bad.table 1 Codes.check_condition Codes.no_sense 0 64

abbrev pub held : List unit.Unit
held = record { aca = Some 0 } ∷ replicate 7 no_unit

abbrev pub RunsOn : Type 0
RunsOn =
    (map (λ (o : Outcome). numbered o.answer) (bad ∷ ends ∷ []) ≡ (Ok (Reply (Status 5 Codes.check_condition Codes.invalid_in_block))) ∷ (Ok (Reply (Status 6 Codes.check_condition Codes.no_sense))) ∷ [])
    × (map (λ (o : Outcome). o.table.units) (bad ∷ ends ∷ []) ≡ held ∷ held ∷ [])

-- ---- confirmed status

-- the command with CONFIRM, and with OOT and CONFIRM
abbrev pub confirming : List ℕ
confirming = command 1 0 0x13 0 zeros

abbrev pub contradicting : List ℕ
contradicting = command 1 0 0x53 0 zeros

-- CONFIRM STATUS for tag 0005h: OLD and NEW RETURN PATH ID, BYTE OFFSET up to FFh, byte 16
abbrev pub confirm : ℕ → ℕ → ℕ → List ℕ → List ℕ
confirm path new offset last = 0x83 ∷ 0x12 ∷ 0 ∷ 5 ∷ 0 ∷ 0 ∷ 0 ∷ path ∷ 0 ∷ 0 ∷ 0 ∷ new ∷ 0 ∷ 0 ∷ 0 ∷ offset ∷ last

-- the tables on the way: tag 0005h with CONFIRM of paths 1 and 2 waits; that of path 1 runs; 16 bytes were
-- transferred; it is to start again at 8
unfoldable pub waits : Table
waits = accepted (accepted quiet 0 5 0 Simple Confirm) 1 5 0 Simple Confirm

unfoldable pub underway : Table
underway = (start_of waits 0).table

unfoldable pub unconfirmed : Table
unconfirmed = (finish_of underway 1 Codes.good Codes.no_sense 16 64).table

unfoldable pub again8 : Table
again8 = (message_of unconfirmed (confirm 1 1 8 (0 ∷ [])) 64).table

unfoldable pub confirmations : List Example
confirmations =
    invalid quiet contradicting
    ∷ accept quiet confirming 1
    ∷ response unconfirmed confirming 0x04  -- a task that waits to be confirmed is live
    ∷ refuses unconfirmed (confirm 1 1 0 []) 1  -- 16 bytes
    ∷ refuses unconfirmed (confirm 9 1 0 (0x80 ∷ [])) 3
    ∷ response unconfirmed (confirm 1 1 0 (0x81 ∷ [])) 0xff  -- a reserved bit
    ∷ response quiet (confirm 1 1 0 (0x40 ∷ [])) 0xff  -- before 15
    ∷ refuses quiet (confirm 1 1 0 (0x80 ∷ [])) 15
    ∷ refuses waits (confirm 1 1 0 (0x80 ∷ [])) 15  -- it waits to start
    ∷ refuses underway (confirm 1 1 0 (0x80 ∷ [])) 15  -- it runs
    ∷ refuses unconfirmed (confirm 2 2 0 (0x80 ∷ [])) 15  -- the tag of another path
    ∷ silent unconfirmed (confirm 1 1 0xff (0x80 ∷ [])) (Ok (Confirmed 1))
    ∷ silent unconfirmed (confirm 1 2 0 (0x80 ∷ [])) (Ok (Confirmed 1))  -- NEW RETURN PATH ID is not looked at
    ∷ silent unconfirmed (confirm 1 1 16 (0 ∷ [])) (Ok (Restarted 1))
    ∷ response unconfirmed (confirm 1 1 17 (0 ∷ [])) 0xff
    ∷ []

abbrev pub ConfirmationsHold : Type 0
ConfirmationsHold = map got confirmations ≡ map said confirmations

-- the device's side: the unit is free and path 2's task goes; the finished one runs no more; restarted, it goes
-- first, and the offset is handed back
abbrev pub ConfirmedCalls : Type 0
ConfirmedCalls =
    map (λ (o : Outcome). numbered o.answer) (start_of unconfirmed 0 ∷ finish_of unconfirmed 1 Codes.good Codes.no_sense 16 64 ∷ start_of again8 0 ∷ [])
    ≡ (Ok (Started 0 2)) ∷ (Err 9) ∷ (Ok (Started 8 1)) ∷ []

-- ---- what an order ends

-- tag 0005h of paths 1 and 2 on unit 0, the second unconfirmed, and tag 0006h of path 2, the ACA task, on unit 1:
-- records 0, 1 and 2, so that live is 7
abbrev pub owned : Table
owned = record {
  live = 0;
  next = 1;
  count = 2;
  attached = 0x03;
  paths = quiet.paths;
  units = no_unit ∷ record { aca = Some 1 } ∷ replicate 6 no_unit;
  tasks = quiet.tasks;
}

unfoldable pub shared : Table
shared = finished (started (accepted (accepted (accepted owned 0 5 0 Simple End) 1 5 0 Simple Confirm) 1 6 1 kind.Aca End) 1) 1 false 16

-- an order of path 2: S3P CODE, then LUN or TAG 2
abbrev pub order : ℕ → List ℕ → List ℕ
order code rest = 0x83 ∷ code ∷ 0 ∷ 9 ∷ 0 ∷ 0 ∷ 0 ∷ 2 ∷ rest

unfoldable pub orders : List (List ℕ)
orders =
    order 0x30 (0 ∷ 5 ∷ [])
    ∷ order 0x30 (0 ∷ 6 ∷ [])
    ∷ order 0x30 (0 ∷ 7 ∷ [])
    ∷ order 0x31 (0 ∷ [])
    ∷ order 0x32 (0 ∷ [])
    ∷ order 0x34 (0 ∷ [])
    ∷ order 0x34 (1 ∷ [])
    ∷ order 0x35 (0 ∷ [])
    ∷ order 0x33 []
    ∷ []

-- ABORT TASK of its own tag 5, 6 and of none; ABORT TASK SET and CLEAR TASK SET on unit 0; CLEAR ACA on units 0 and
-- 1; the resets: the records left live
abbrev pub OrdersEnd : Type 0
OrdersEnd = map (λ (m : List ℕ). (message_of shared m 64).table.live) orders ≡ 5 ∷ 3 ∷ 7 ∷ 5 ∷ 4 ∷ 7 ∷ 3 ∷ 4 ∷ 0 ∷ []

-- with the tasks in records 0 and 2 running, on units 0 and 1
unfoldable pub busy : Table
busy = started (started shared 0) 2

-- the same orders: the records whose commands they end, and the units that have to stop
abbrev pub maps_of : List ℕ → ℕ × ℕ
maps_of m = ((message_of busy m 64).ended, (message_of busy m 64).stops)

abbrev pub OrdersSay : Type 0
OrdersSay = map maps_of orders ≡ (2, 0) ∷ (4, 2) ∷ (0, 0) ∷ (2, 0) ∷ (3, 1) ∷ (0, 0) ∷ (4, 2) ∷ (3, 1) ∷ (7, 3) ∷ []
