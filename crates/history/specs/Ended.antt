-- What a call says that it ended, beside the trace: the maps `ended` and `stops` of an outcome, and the fates of the
-- commands in the table that was handed in. Proved in proofs/Ended.antt, the sums in proofs/Summed.antt.
use Rattle.std.specs.Prelude.{Ok}
use Rattle.std.specs.Prelude.{ℕ, zero, suc, ◌+◌, ◌<◌, ◌^◌, ◌≡◌, Bool, true, false, ◌&&◌, List, [], ◌∷◌, length, get_or, eqb}
use Rattle.std.proofs.Math.Option.{some}
use Rattle.wire.specs.Messages.{read_of}
use Rattle.task.specs.Index.{count}
use Rattle.task.specs.Map.{is_live}
use Rattle.task.specs.Tasks.{is_running}
use Rattle.task.specs.declared.Task.{Task}
use Rattle.table.specs.Tables.{task_at, path_at, path_of}
use Rattle.table.specs.View.{at, live_of}
use Rattle.sound.specs.Promises.{Good}
use Rattle.table.specs.declared.Table.{Table}
use Rattle.plan.specs.Plans.{asking, asked_in}
use Rattle.plan.specs.declared.Request.{Request}
use Rattle.engine.specs.Calls.{SetupContract}
use Rattle.engine.specs.Promises.{EndsNothing}
use Rattle.engine.specs.declared.Outcome.{Outcome}
use Rattle.history.specs.Trace.{Event, Message, Start, Finish, TotalReset, Label, counts_as_status, counts_as_management, counts_as_reset, Fate, ended, fate_of, effect_of}
use Rattle.history.specs.Ledger.{ledger, is_from, accepted_from, ended_from}
use Rattle.history.specs.Demand.{Call, told, Contract, Chained, last_table, may_reach_others}

-- ---- a call on a sound table

-- the ids are those of the table's path list, as setup was given them
pub record Lists (ids : List ℕ) (t : Table) : Type 0 where
  pub count : t.count ≡ length ids
  pub each : (p : ℕ) → p < t.count → (path_at t p).id ≡ get_or ids p 0

-- every table has such ids: those of its first paths, as many as are listed
unfoldable pub ids_from : Table → ℕ → ℕ → List ℕ
ids_from t p zero = []
ids_from t p (suc n) = (path_at t p).id ∷ ids_from t (suc p) n

abbrev pub EveryTableLists : Type 0
EveryTableLists = (t : Table) → Lists (ids_from t 0 t.count) t

-- the call for an event met its contract, on a sound table
pub record Made (C : Contract) (ev : Event) (t : Table) (o : Outcome) (left : List ℕ) : Type 0 where
  pub good : Good t
  pub call : C ev t o left

-- the fate of a command under an event and its answer: the trace's word, which looks at no table and at no map
abbrev pub fate_by : List ℕ → Event → Outcome → Task → Fate
fate_by ids ev o a = fate_of (effect_of ids ev o.answer) a

-- ---- 1. a bit of `ended` is set exactly where record i was live and its command was ended

pub record EndedIsExact (C : Contract) : Type 0 where
  pub set : (ids : List ℕ) (ev : Event) (t : Table) (o : Outcome) (left : List ℕ) → Lists ids t → Made C ev t o left
      → (i : ℕ) → is_live o.ended i ≡ true → (i < 64) × (a : Task) × (how : Label) × (at t i ≡ some a) × (fate_by ids ev o a ≡ ended how)
  pub all : (ids : List ℕ) (ev : Event) (t : Table) (o : Outcome) (left : List ℕ) → Lists ids t → Made C ev t o left
      → (i : ℕ) (a : Task) (how : Label) → i < 64 → at t i ≡ some a → fate_by ids ev o a ≡ ended how → is_live o.ended i ≡ true
  -- and where no live record's command was ended, both maps are 0
  pub none : (ids : List ℕ) (ev : Event) (t : Table) (o : Outcome) (left : List ℕ) → Lists ids t → Made C ev t o left
      → ((i : ℕ) (a : Task) (how : Label) → i < 64 → at t i ≡ some a → fate_by ids ev o a ≡ ended how → ⊥) → EndsNothing o

-- ---- 2. nothing goes silently: a live record whose bit is clear is live after the call, at its place, and is the command that it was

pub record SameCommand (a b : Task) : Type 0 where
  pub path : b.path ≡ a.path
  pub tag : b.tag ≡ a.tag
  pub unit : b.unit ≡ a.unit
  pub kind : b.kind ≡ a.kind
  pub arrival : b.arrival ≡ a.arrival
  pub sequel : b.sequel ≡ a.sequel

abbrev pub NothingGoesSilently : Contract → Type 0
NothingGoesSilently C = (ev : Event) (t : Table) (o : Outcome) (left : List ℕ) → Made C ev t o left
    → (i : ℕ) (a : Task) → i < 64 → at t i ≡ some a → is_live o.ended i ≡ false → (b : Task) × (at o.table i ≡ some b) × SameCommand a b

-- ---- 3. `stops` has exactly the units whose running task is in `ended` and was not finished by this call

-- the event is the finish of the command
abbrev pub finishes : Event → Task → Bool
finishes (Message m buf) a = false
finishes (Start unit) a = false
finishes (Finish arrival status sense transferred buf) a = eqb a.arrival arrival
finishes TotalReset a = false

-- the task a in record i ran on the unit; the call ended it, and was not its finish
pub record Stopped (ev : Event) (t : Table) (o : Outcome) (unit i : ℕ) (a : Task) : Type 0 where
  pub below : i < 64
  pub here : at t i ≡ some a
  pub ran : is_running a.phase ≡ true
  pub there : a.unit ≡ unit
  pub in_ended : is_live o.ended i ≡ true
  pub not_finished : finishes ev a ≡ false

-- a drive has the units 0 to 7, and `stops` a bit for each
pub record StopsIsExact (C : Contract) : Type 0 where
  pub set : (ev : Event) (t : Table) (o : Outcome) (left : List ℕ) → Made C ev t o left
      → (unit : ℕ) → is_live o.stops unit ≡ true → (unit < 8) × (i : ℕ) × (a : Task) × Stopped ev t o unit i a
  pub all : (ev : Event) (t : Table) (o : Outcome) (left : List ℕ) → Made C ev t o left
      → (unit i : ℕ) (a : Task) → unit < 8 → Stopped ev t o unit i a → is_live o.stops unit ≡ true

-- ---- 4. whose: with ABORT TASK, ABORT TASK SET, CLEAR ACA and CONFIRM STATUS every bit of `ended` is a record of the sender's own path

abbrev pub EndedAreItsOwn : Contract → Type 0
EndedAreItsOwn C = (m buf : List ℕ) (t : Table) (o : Outcome) (left : List ℕ) (path tag : ℕ) (w : Request)
    → Made C (Message m buf) t o left → asked_in (read_of m) ≡ Ok (asking path tag w) → may_reach_others w ≡ false
    → (i : ℕ) (a : Task) → is_live o.ended i ≡ true → at t i ≡ some a → a.path ≡ path_of t path

-- the four, of the contracts of a drive's calls
pub record SaysWhatItEnded (C : Contract) : Type 0 where
  pub ended : EndedIsExact C
  pub silent : NothingGoesSilently C
  pub stops : StopsIsExact C
  pub own : EndedAreItsOwn C

-- ---- 5. summed over any calls after a setup, for the path at p: accepted = the bits of `ended` that were its records + live

-- the bits of `ended` that were records of the path in the table that was handed in
abbrev pub ended_of : ℕ → Table → Outcome → ℕ
ended_of p t o = count 64 (λ i. is_live o.ended i && is_from p (task_at t i))

-- the calls' together, each by the table that it was given
unfoldable pub ended_along : ℕ → Table → List Call → ℕ
ended_along p t [] = 0
ended_along p t (c ∷ cs) = ended_of p t c.outcome + ended_along p c.outcome.table cs

-- so they are those that the ledger has as ended by status, by management and by reset
pub record EndedAddUp (C : Contract) : Type 0 where
  pub accepted : (ids : List ℕ) (attached first : ℕ) (o : Outcome) (cs : List Call) (p : ℕ) → first < 2 ^ 64 → SetupContract ids attached first o → Chained C o.table cs
      → accepted_from ids p (told cs) ≡ ended_along p o.table cs + live_of p (last_table o.table cs)
  pub ledgered : (ids : List ℕ) (attached first : ℕ) (o : Outcome) (cs : List Call) (p : ℕ) → first < 2 ^ 64 → SetupContract ids attached first o → Chained C o.table cs
      → ended_along p o.table cs ≡ ended_from counts_as_status p (ledger ids (told cs)) + ended_from counts_as_management p (ledger ids (told cs)) + ended_from counts_as_reset p (ledger ids (told cs))
