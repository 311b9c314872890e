-- What an event comes to for one command, and for its entry in the ledger: it stays, goes on in another way, or is
-- ended. Assumes nothing.
use Prim.Native.Nat.{ℕ}
use mathlib.Core.Path.{◌≡◌, refl, ap}
use mathlib.Core.Bool.{Bool, true, false, ◌||◌}
use mathlib.Core.List.{List, [], ◌∷◌, ◌++◌}
use mathlib.Core.Option.{Option, none, some}
use lib.Dec.{eqb}
use Rattle.task.specs.Tasks.{has_confirm, in_phase}
use Rattle.task.specs.Selections.{picks}
use Rattle.task.specs.declared.Phase.{Phase}
use Rattle.task.specs.declared.Phase.TheVariants.{Waiting, Running, Unconfirmed}
use Rattle.task.specs.declared.Task.{Task}
use Rattle.wire.proofs.Table.{cond_ind}
use Rattle.task.proofs.Ways.{never}
use Rattle.history.specs.Trace.{Label, by_status, counts_as_status, Effect, Nothing, Accepts, Starts, Finishes, Restarts, Ends, Fate, stays, becomes, ended, fate_of}
use Rattle.history.specs.Ledger.{Entry, is_open, new_entry, after_fate, after_effect, new_entries}

-- ---- the fate of a command

-- a fact about a command's fate, from each sort of fate: what goes on is the command still, save its phase and
-- position
fate_ways : (P : Fate → Type 0) (effect : Effect) (a : Task) → P stays → ((phase : Phase) (position : ℕ) → P (becomes (in_phase phase position a)))
    → ((how : Label) → P (ended how)) → P (fate_of effect a)
unfolding fate_of
fate_ways P Nothing a s b d = s
fate_ways P (Accepts c) a s b d = s
fate_ways P (Starts n) a s b d = cond_ind P (eqb a.arrival n) (λ _. b Running _) (λ _. s)
fate_ways P (Finishes n transferred) a s b d =
    cond_ind P (eqb a.arrival n) (λ _. cond_ind P (has_confirm a.sequel) (λ _. b Unconfirmed transferred) (λ _. d by_status)) (λ _. s)
fate_ways P (Restarts r offset) a s b d = cond_ind P (picks r a) (λ _. b Waiting offset) (λ _. s)
fate_ways P (Ends r how) a s b d = cond_ind P (picks r a) (λ _. d how) (λ _. s)

-- it goes on in another way
abbrev goes_on : Fate → Bool
goes_on stays = false
goes_on (becomes b) = true
goes_on (ended how) = false

-- what goes on is the command still
pub goes_on_as : (effect : Effect) (a b : Task) → fate_of effect a ≡ becomes b
    → (b.path ≡ a.path) × (b.tag ≡ a.tag) × (b.unit ≡ a.unit) × (b.kind ≡ a.kind) × (b.arrival ≡ a.arrival) × (b.sequel ≡ a.sequel)
goes_on_as effect a b =
    fate_ways
    (λ (x : Fate).
    x ≡ becomes b
    → (b.path ≡ a.path) × (b.tag ≡ a.tag) × (b.unit ≡ a.unit) × (b.kind ≡ a.kind) × (b.arrival ≡ a.arrival) × (b.sequel ≡ a.sequel))
    effect a (λ e. absurd (never (ap goes_on e) refl))
    (λ phase position e. let same : in_phase phase position a ≡ b = cc in rw (← same) (refl, refl, refl, refl, refl, refl))
    (λ how e. absurd (never (ap goes_on e) refl))

-- a fact about an entry after event n, from each way that it may go
pub effect_ways : (P : Entry → Type 0) (n : ℕ) (effect : Effect) (e : Entry) → P e
    → ((phase : Phase) (position : ℕ) → is_open e ≡ true
    → P (record { task = in_phase phase position e.task; accepted = e.accepted; endings = e.endings }))
    → ((how : Label) → fate_of effect e.task ≡ ended how
    → P (record { task = e.task; accepted = e.accepted; endings = e.endings ++ (record { event = n; how = how } ∷ []) }))
    → P (after_effect n effect e)
unfolding after_effect
effect_ways P n effect e s b d =
    fate_ways (λ (x : Fate). fate_of effect e.task ≡ x → P (after_fate n x e)) effect e.task (λ _. s)
    (λ phase position _. cond_ind P (is_open e) (b phase position) (λ _. s))
    (λ how f. cond_ind P (is_open e || counts_as_status how) (λ _. d how f) (λ _. s)) refl

-- ---- the command that an event accepts, if it does

abbrev pub taken : Effect → Option Task
taken Nothing = none
taken (Accepts a) = some a
taken (Starts n) = none
taken (Finishes n transferred) = none
taken (Restarts s offset) = none
taken (Ends s how) = none

pub new_entries_ways : (P : Option Task → List Entry → Type 0) (n : ℕ) (effect : Effect) → P none []
    → ((a : Task) → effect ≡ Accepts a → P (some a) (new_entry n a ∷ [])) → P (taken effect) (new_entries n effect)
new_entries_ways P n Nothing nothing accepts = nothing
new_entries_ways P n (Accepts a) nothing accepts = accepts a refl
new_entries_ways P n (Starts arrival) nothing accepts = nothing
new_entries_ways P n (Finishes arrival transferred) nothing accepts = nothing
new_entries_ways P n (Restarts s offset) nothing accepts = nothing
new_entries_ways P n (Ends s how) nothing accepts = nothing
