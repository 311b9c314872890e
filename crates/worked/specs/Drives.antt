-- Wrong drives: what a drive answers to a message, when it meets demand 2, and three that do not.
use Rattle.std.specs.Prelude.{Result, Err}
use Rattle.std.specs.Prelude.{ℕ, ◌≡◌, List}
use Rattle.wire.specs.declared.codes.Refusal.{Refusal}
use Rattle.table.specs.declared.Table.{Table}
use Rattle.plan.specs.declared.Answer.{Answer}
use Rattle.engine.specs.Calls.{MessageContract}
use Rattle.worked.specs.Examples.{quiet, full, plain, resumed, buffer}
use Rattle.engine.specs.declared.Outcome.{Outcome}

-- for a table, a message and a reply buffer: the outcome, and the buffer as it is left
pub record MessageDrive : Type 0 where
  pub outcome : Table → List ℕ → List ℕ → Outcome
  pub left : Table → List ℕ → List ℕ → List ℕ

-- it meets demand 2 at a table and a message, with the buffer of the examples
abbrev pub MeetsAt : MessageDrive → Table → List ℕ → Type 0
MeetsAt d t m = MessageContract t m buffer (d.outcome t m buffer) (d.left t m buffer)

-- it refuses every message
abbrev pub RefusesAll : MessageDrive → Type 0
RefusesAll d = (t : Table) (m buf : List ℕ) → (n : Refusal) × ((d.outcome t m buf).answer ≡ Err n)

-- it answers all with a single reply
abbrev pub AnswersOne : MessageDrive → Result Answer Refusal → Type 0
AnswersOne d a = (t : Table) (m buf : List ℕ) → (d.outcome t m buf).answer ≡ a

-- it never touches the table
abbrev pub NeverTouches : MessageDrive → Type 0
NeverTouches d = (t : Table) (m buf : List ℕ) → (d.outcome t m buf).table ≡ t

-- none of them meets demand 2: the first not at example c, the second not at both c and e, the third not at f
abbrev pub WrongDrives : Type 0
WrongDrives = (d : MessageDrive)
    → (MeetsAt d quiet plain → RefusesAll d → ⊥)
    × (MeetsAt d quiet plain → MeetsAt d quiet resumed → (a : Result Answer Refusal) → AnswersOne d a → ⊥)
    × (MeetsAt d full plain → NeverTouches d → ⊥)
