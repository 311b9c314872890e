-- Two hosts that count their tags alike: the transcripts examples/two-hosts and examples/confirmed-two-hosts as
-- events, the ledgers of the engine's calls on them, and what those calls say that they ended.
use Rattle.std.specs.Prelude.{ℕ, ◌≡◌, List, [], ◌∷◌, ◌++◌, map, replicate}
use Rattle.wire.specs.Codes
use Rattle.wire.specs.declared.codes.Kind.TheVariants.{Simple}
use Rattle.task.specs.declared.Phase.{Phase}
use Rattle.task.specs.declared.Phase.TheVariants.{Waiting, Running, Unconfirmed}
use Rattle.task.specs.declared.Sequel.{Sequel}
use Rattle.task.specs.declared.Sequel.TheVariants.{End, Confirm}
use Rattle.task.specs.declared.Task.{Task}
use Rattle.table.specs.declared.Table.{Table}
use Rattle.engine.specs.Calls.{setup_of}
use Rattle.rules.specs.declared.manage.Order.TheVariants.{AbortTask}
use Rattle.history.specs.Trace.{Event, Message, Start, Finish, Label, by_status, by_order}
use Rattle.history.specs.Ledger.{Entry, ledger}
use Rattle.history.specs.Demand.{Call, told, last_table, Agrees}
use Rattle.history.specs.Drives.{engine, calls_of}

-- the hosts' ids; unit 0 alone; the first arrival number is 1
abbrev pub hosts : List ℕ
hosts = 0x101 ∷ 0x202 ∷ []

abbrev pub fresh : Table
fresh = (setup_of hosts 0x01 1).table

abbrev pub buffer : List ℕ
buffer = replicate 64 0

-- a command for unit 0 from host 1 or 2 (ids 0101h and 0202h) with a tag and byte 10: a SIMPLE one, and one with
-- CONFIRM
abbrev pub sends : ℕ → ℕ → ℕ → List ℕ → Event
sends flags host tag cdb = Message (0x83 ∷ 0x10 ∷ 0 ∷ tag ∷ 0 ∷ 0 ∷ host ∷ host ∷ 0 ∷ 0 ∷ flags ∷ 0 ∷ 0 ∷ 0 ∷ 0 ∷ 0 ∷ cdb) buffer

abbrev pub command : ℕ → ℕ → List ℕ → Event
command = sends 0x03

abbrev pub confirmable : ℕ → ℕ → List ℕ → Event
confirmable = sends 0x13

-- CONFIRM STATUS from a host for a tag, with byte 16; and with COMPLETE set there
abbrev pub confirms : ℕ → ℕ → ℕ → Event
confirms last host tag = Message (0x83 ∷ 0x12 ∷ 0 ∷ tag ∷ 0 ∷ 0 ∷ host ∷ host ∷ 0 ∷ 0 ∷ host ∷ host ∷ 0 ∷ 0 ∷ 0 ∷ 0 ∷ last ∷ []) buffer

abbrev pub confirm : ℕ → ℕ → Event
confirm = confirms 0x80

abbrev pub test_unit : List ℕ
test_unit = replicate 6 0

abbrev pub write : List ℕ
write = 0x0a ∷ 0 ∷ 0 ∷ 0x10 ∷ 1 ∷ 0 ∷ []

-- ABORT TASK from a host, under a tag of its own, of the task with another
abbrev pub abort : ℕ → ℕ → ℕ → Event
abort host tag tag2 = Message (0x83 ∷ 0x30 ∷ 0 ∷ tag ∷ 0 ∷ 0 ∷ host ∷ host ∷ 0 ∷ tag2 ∷ []) buffer

-- CLEAR ACA of unit 0 from a host, under a tag of its own
abbrev pub clear_aca : ℕ → ℕ → Event
clear_aca host tag = Message (0x83 ∷ 0x34 ∷ 0 ∷ tag ∷ 0 ∷ 0 ∷ host ∷ host ∷ 0 ∷ []) buffer

-- each host learns of the reset by a STATUS 02h, which gives it the ACA of the unit, and clears that: four events
abbrev pub both_learn : List Event → List Event
both_learn evs = command 1 0 test_unit ∷ clear_aca 1 4 ∷ command 2 0 test_unit ∷ clear_aca 2 4 ∷ evs

-- both write under tag 0001h; host 1 aborts its write, and once more; unit 0 starts; command 2 is finished
unfoldable pub two_hosts : List Event
two_hosts = both_learn (command 1 1 write ∷ command 2 1 write ∷ abort 1 2 1 ∷ abort 1 3 1 ∷ Start 0 ∷ Finish 2 Codes.good Codes.no_sense 0 buffer ∷ [])

abbrev pub written : ℕ → ℕ → Phase → Sequel → ℕ → Task
written arrival p phase sequel position = record {
  arrival = arrival;
  position = position;
  tag = 1;
  path = p;
  unit = 0;
  kind = Simple;
  phase = phase;
  sequel = sequel;
}

abbrev pub entry : Task → ℕ → ℕ → Label → Entry
entry a accepted event how = record { task = a; accepted = accepted; endings = record { event = event; how = how } ∷ [] }

-- the ledger of the engine's calls on some events is this one, and the last table agrees with it
pub record Ledgered (evs : List Event) (entries : List Entry) : Type 0 where
  pub entered : ledger hosts (told (calls_of engine fresh evs)) ≡ entries
  pub agrees : Agrees hosts (told (calls_of engine fresh evs)) (last_table fresh (calls_of engine fresh evs))

-- host 1's write was accepted by event 5 and ended by event 7, its own abort; host 2's was accepted by event 6 and
-- ended by event 10, its status
abbrev pub TwoHostsLedger : Type 0
TwoHostsLedger =
    Ledgered two_hosts
    (entry (written 1 0 Waiting End 0) 5 7 (by_order (AbortTask 1)) ∷ entry (written 2 1 Running End 0) 6 10 by_status ∷ [])

-- what the engine's calls on some events say that they ended: the records, and the units that have to stop
abbrev pub maps_of : Call → ℕ × ℕ
maps_of c = (c.outcome.ended, c.outcome.stops)

abbrev pub Says : List Event → List (ℕ × ℕ) → Type 0
Says evs maps = map maps_of (calls_of engine fresh evs) ≡ maps

-- event 7, the abort, ended the command in record 0, and event 10, the finish, the one in record 1; nothing had to
-- stop
abbrev pub TwoHostsSay : Type 0
TwoHostsSay = Says two_hosts (replicate 6 (0, 0) ++ ((1, 0) ∷ (0, 0) ∷ (0, 0) ∷ (2, 0) ∷ []))

-- the same with host 1's write at work on unit 0 when its abort comes, as event 8: unit 0 has to stop
unfoldable pub at_work : List Event
at_work = both_learn (command 1 1 write ∷ command 2 1 write ∷ Start 0 ∷ abort 1 2 1 ∷ abort 1 3 1 ∷ Start 0 ∷ Finish 2 Codes.good Codes.no_sense 0 buffer ∷ [])

abbrev pub AtWorkSay : Type 0
AtWorkSay = Says at_work (replicate 7 (0, 0) ++ ((1, 1) ∷ (0, 0) ∷ (0, 0) ∷ (2, 0) ∷ []))

-- both write with CONFIRM under tag 0001h; host 1's is finished after 512 bytes; host 2 aborts its own, and once
-- more, and would confirm; host 1 confirms
unfoldable pub confirmed_two_hosts : List Event
confirmed_two_hosts =
    both_learn
    (confirmable 1 1 write ∷ confirmable 2 1 write ∷ Start 0 ∷ Finish 1 Codes.good Codes.no_sense 512 buffer ∷ abort 2 2 1 ∷ abort 2 3 1 ∷ confirm 2 1 ∷ confirm 1 1 ∷ [])

-- host 1's write was accepted by event 5 and ended by event 12, its confirmation, not by event 8, its finish; host
-- 2's was accepted by event 6 and ended by event 9, its own abort
abbrev pub ConfirmedLedger : Type 0
ConfirmedLedger =
    Ledgered confirmed_two_hosts
    (entry (written 1 0 Unconfirmed Confirm 512) 5 12 by_status ∷ entry (written 2 1 Waiting Confirm 0) 6 9 (by_order (AbortTask 1)) ∷ [])
