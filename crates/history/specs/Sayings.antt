-- Drives that do what the engine does and say wrongly what they ended: each hands back the engine's outcome with one of
-- the two maps wrong. Proved in proofs/Sayings.antt.
use Rattle.std.specs.Prelude.{Result, Ok, Err}
use Rattle.wire.specs.declared.codes.Refusal.{Refusal}
use Rattle.std.specs.Prelude.{ℕ, ◌+◌, ◌&&◌, eqb}
use Rattle.std.proofs.Math.Option.{Option, none, some}
use Rattle.wire.specs.Messages.{read_of}
use Rattle.reply.specs.declared.Reply.{Reply}
use Rattle.task.specs.Index.{map_of}
use Rattle.task.specs.Map.{is_live, gone}
use Rattle.task.specs.Selections.{running_as}
use Rattle.task.specs.declared.select.Selection.{Selection}
use Rattle.table.specs.Tables.{task_at, picks_at, path_of}
use Rattle.table.specs.Steps.{running_among}
use Rattle.table.specs.declared.Table.{Table}
use Rattle.rules.specs.declared.manage.Order.{Order}
use Rattle.rules.specs.declared.manage.Order.TheVariants.{AbortTask, AbortTaskSet, ClearTaskSet, ClearAca, UnitReset, TargetReset}
use Rattle.plan.specs.Plans.{asked_in, reply_of}
use Rattle.plan.specs.declared.Request.{Request}
use Rattle.plan.specs.declared.Request.TheVariants.{Command, Manage, Confirm}
use Rattle.plan.specs.declared.Asked.{Asked}
use Rattle.engine.specs.declared.Outcome.{Outcome}
use Rattle.history.specs.Trace.{Message, Start, Finish, TotalReset}
use Rattle.history.specs.Drives.{Drive, ByDrive, engine}
use Rattle.history.specs.Ended.{SaysWhatItEnded}

abbrev pub with_maps : Outcome → ℕ → ℕ → Outcome
with_maps o ended stops = record { table = o.table; answer = o.answer; ended = ended; to = o.to; stops = stops }

-- a map where the answer is a reply, and else none
abbrev pub where_replied : Option Reply → ℕ → ℕ
where_replied none map = 0
where_replied (some r) map = map

-- the records that a selection picks in t; of a map the records of the path at p
abbrev pub records_of : Table → Selection → ℕ
records_of t s = map_of 64 (picks_at t s)

abbrev pub own_of : Table → ℕ → ℕ → ℕ
own_of t p map = map_of 64 (λ i. is_live map i && eqb (task_at t i).path p)

-- a finish counts as ended what it leaves waiting to be confirmed
abbrev pub ends_running : Table → ℕ → Outcome → Outcome
ends_running t arrival o = with_maps o (where_replied (reply_of o.answer) (records_of t (running_as arrival))) o.stops

unfoldable pub counts_confirmed : Drive
counts_confirmed (Message m buf) t = engine (Message m buf) t
counts_confirmed (Start unit) t = engine (Start unit) t
counts_confirmed (Finish arrival status sense transferred buf) t = ends_running t arrival (engine (Finish arrival status sense transferred buf) t)
counts_confirmed TotalReset t = engine TotalReset t

-- a finish has the unit stop
abbrev pub stops_running : Table → ℕ → Outcome → Outcome
stops_running t arrival o = with_maps o o.ended (where_replied (reply_of o.answer) (running_among t (running_as arrival)))

unfoldable pub stops_at_finish : Drive
stops_at_finish (Message m buf) t = engine (Message m buf) t
stops_at_finish (Start unit) t = engine (Start unit) t
stops_at_finish (Finish arrival status sense transferred buf) t = stops_running t arrival (engine (Finish arrival status sense transferred buf) t)
stops_at_finish TotalReset t = engine TotalReset t

-- CLEAR TASK SET names the sender's tasks alone
abbrev pub clears_own : Table → ℕ → Outcome → Order → Outcome
clears_own t path o (AbortTask tag2) = o
clears_own t path o (AbortTaskSet lun) = o
clears_own t path o (ClearTaskSet lun) = with_maps o (own_of t (path_of t path) o.ended) o.stops
clears_own t path o (ClearAca lun) = o
clears_own t path o (UnitReset lun) = o
clears_own t path o TargetReset = o

abbrev pub requests_own : Table → Outcome → ℕ → Request → Outcome
requests_own t o path (Command lun flags) = o
requests_own t o path (Manage order) = clears_own t path o order
requests_own t o path (Confirm offset complete) = o

abbrev pub asks_own : Table → Outcome → Result Asked Refusal → Outcome
asks_own t o (Err n) = o
asks_own t o (Ok a) = requests_own t o a.path a.request

unfoldable pub names_own_alone : Drive
names_own_alone (Message m buf) t = asks_own t (engine (Message m buf) t) (asked_in (read_of m))
names_own_alone (Start unit) t = engine (Start unit) t
names_own_alone (Finish arrival status sense transferred buf) t = engine (Finish arrival status sense transferred buf) t
names_own_alone TotalReset t = engine TotalReset t

-- the record that a command was accepted into is named too: every bit of the live map that changed
abbrev pub changed_bits : Table → Outcome → Outcome
changed_bits t o = with_maps o (o.ended + gone o.table.live t.live) o.stops

unfoldable pub names_accepted : Drive
names_accepted (Message m buf) t = changed_bits t (engine (Message m buf) t)
names_accepted (Start unit) t = engine (Start unit) t
names_accepted (Finish arrival status sense transferred buf) t = engine (Finish arrival status sense transferred buf) t
names_accepted TotalReset t = engine TotalReset t

-- none of them says what it ended; the engine as a drive does
pub record WrongSayings : Type 0 where
  pub engine_says : SaysWhatItEnded (ByDrive engine)
  pub not_confirmed : SaysWhatItEnded (ByDrive counts_confirmed) → ⊥
  pub not_at_finish : SaysWhatItEnded (ByDrive stops_at_finish) → ⊥
  pub not_own_alone : SaysWhatItEnded (ByDrive names_own_alone) → ⊥
  pub not_accepted : SaysWhatItEnded (ByDrive names_accepted) → ⊥
