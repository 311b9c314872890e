-- The ledger of a trace: an entry for each accepted command, with the events that accepted and ended it. No table is
-- looked at.
use Rattle.std.specs.Prelude.{ℕ, suc, ◌+◌, ◌≡◌, Bool, true, false, cond, ◌||◌, List, [], ◌∷◌, ◌++◌, map, length, eqb}
use Rattle.std.proofs.Math.Option.{some}
use Rattle.task.specs.Index.{one}
use Rattle.task.specs.declared.Task.{Task}
use Rattle.history.specs.Trace.{Told, nth, Label, counts_as_status, Effect, Nothing, Accepts, Starts, Finishes, Restarts, Ends, Fate, stays, becomes, ended, fate_of, effect_told}

-- an ending: the number of the event, and how it ended the command
pub record Ending : Type 0 where
  pub event : ℕ
  pub how : Label

-- an accepted command: its path, tag, unit, kind and arrival number, whether it had CONFIRM, whether it waits, runs
-- or waits to be confirmed, and after how many bytes or from which offset; the number of the event that accepted it;
-- its endings, oldest first
pub record Entry : Type 0 where
  pub task : Task
  pub accepted : ℕ
  pub endings : List Ending

abbrev pub is_empty : List Ending → Bool
is_empty [] = true
is_empty (x ∷ l) = false

-- not yet ended
abbrev pub is_open : Entry → Bool
is_open e = is_empty e.endings

-- how often it was ended
abbrev pub times_ended : Entry → ℕ
times_ended e = length e.endings

-- ---- what event n does to the ledger

abbrev pub new_entry : ℕ → Task → Entry
new_entry n a = record { task = a; accepted = n; endings = [] }

-- What a fate does to an entry. Only an open command goes on in another way, and only an open one is ended by
-- management or reset. A finish or a confirmation names one command by its arrival number, and what it ends by status
-- is an ending even where the command was ended before, whether it ran then or still waited: that this never happens
-- is not built into the ledger, and the theorem says it.
abbrev pub after_fate : ℕ → Fate → Entry → Entry
after_fate n stays e = e
after_fate n (becomes a) e = cond (is_open e) (record { task = a; accepted = e.accepted; endings = e.endings }) e
after_fate n (ended how) e =
    cond (is_open e || counts_as_status how) (record { task = e.task; accepted = e.accepted; endings = e.endings ++ (record { event = n; how = how } ∷ []) }) e

unfoldable pub after_effect : ℕ → Effect → Entry → Entry
after_effect n effect e = after_fate n (fate_of effect e.task) e

-- the entry of the command that is accepted, if one is
abbrev pub new_entries : ℕ → Effect → List Entry
new_entries n Nothing = []
new_entries n (Accepts a) = new_entry n a ∷ []
new_entries n (Starts arrival) = []
new_entries n (Finishes arrival transferred) = []
new_entries n (Restarts s offset) = []
new_entries n (Ends s how) = []

unfoldable pub noted : ℕ → Effect → List Entry → List Entry
noted n effect l = map (after_effect n effect) l ++ new_entries n effect

-- the ledger l after further events, of which the first has number n
unfoldable pub ledger_from : List ℕ → ℕ → List Entry → List Told → List Entry
ledger_from ids n l [] = l
ledger_from ids n l (x ∷ h) = ledger_from ids (suc n) (noted n (effect_told ids x) l) h

-- the ledger of a trace after a setup with these ids
abbrev pub ledger : List ℕ → List Told → List Entry
ledger ids h = ledger_from ids 1 [] h

-- ---- what is read off a trace and its ledger

module _ {A : Type 0} where
  unfoldable pub total : (A → ℕ) → List A → ℕ
  total f [] = 0
  total f (x ∷ l) = f x + total f l

  abbrev pub count_of : (A → Bool) → List A → ℕ
  count_of p l = total (λ x. one (p x)) l

  -- x is an element of the list
  abbrev pub Has : A → List A → Type 0
  Has x l = (k : ℕ) × (nth l k ≡ some x)

abbrev pub is_from : ℕ → Task → Bool
is_from p a = eqb a.path p

-- the event accepts a command from the path at p
abbrev pub accepts_from : ℕ → Effect → Bool
accepts_from p Nothing = false
accepts_from p (Accepts a) = is_from p a
accepts_from p (Starts arrival) = false
accepts_from p (Finishes arrival transferred) = false
accepts_from p (Restarts s offset) = false
accepts_from p (Ends s how) = false

-- how many commands from the path at p a trace accepts: counted over its events, and not over the ledger
abbrev pub accepted_from : List ℕ → ℕ → List Told → ℕ
accepted_from ids p h = count_of (λ x. accepts_from p (effect_told ids x)) h

-- how many endings that count the ledger has for commands from the path at p: a command that is ended twice counts
-- twice
abbrev pub ended_from : (Label → Bool) → ℕ → List Entry → ℕ
ended_from counts p l = total (λ e. cond (is_from p e.task) (count_of (λ x. counts x.how) e.endings) 0) l
