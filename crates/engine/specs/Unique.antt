-- Each call's contract determines what it answers: two outcomes that meet it are equal, and so are the reply buffers
-- as they are left.
use Rattle.std.specs.Prelude.{ℕ, Result, ◌≡◌, List}
use Rattle.wire.specs.declared.codes.StatusByte.{StatusByte}
use Rattle.wire.specs.declared.codes.Sense.{Sense}
use Rattle.table.specs.declared.Table.{Table}
use Rattle.plan.specs.declared.Answer.{Answer}
use Rattle.engine.specs.Calls.{SetupContract, MessageContract, StartContract, FinishContract, TotalResetContract, CommandBlockContract}
use Rattle.engine.specs.declared.Outcome.{Outcome}

-- what meets a contract is one: an outcome, or the part that is handed over; and of a call with a reply buffer the
-- outcome and the buffer
abbrev pub Only : {A : Type 0} → (A → Type 0) → Type 0
Only {A} Contract = (x y : A) → Contract x → Contract y → x ≡ y

abbrev pub OnlyWithReply : (Outcome → List ℕ → Type 0) → Type 0
OnlyWithReply Contract = (o p : Outcome) (k l : List ℕ) → Contract o k → Contract p l → (o ≡ p) × (k ≡ l)

pub record AnswersAreOne : Type 1 where
  pub setup_is_one : (ids : List ℕ) (attached first : ℕ) → Only (SetupContract ids attached first)
  pub message_is_one : (t : Table) (m buf : List ℕ) → OnlyWithReply (MessageContract t m buf)
  pub start_is_one : (t : Table) (unit : ℕ) → Only (StartContract t unit)
  pub finish_is_one : (t : Table) (arrival : ℕ) (status : StatusByte) (s : Sense) (transferred : ℕ) (buf : List ℕ) → OnlyWithReply (FinishContract t arrival status s transferred buf)
  pub total_reset_is_one : (t : Table) → Only (TotalResetContract t)
  pub command_block_is_one : {E : Type 0} (m : List ℕ) (a : Result Answer E) → Only (CommandBlockContract m a)
