-- The answers are one: each by the law that an equation determines its left side. Assumes nothing.
use mathlib.Core.List.{List}
use Prim.Native.Nat.{ℕ}
use Rattle.wire.proofs.Unique.{determined}
use Rattle.engine.specs.Calls.{Answers}
use Rattle.engine.specs.Unique.{OnlyWithReply, AnswersAreOne}
use Rattle.engine.specs.declared.Outcome.{Outcome}

with_reply : (defined : Outcome) (buf : List ℕ) → OnlyWithReply (Answers defined buf)
with_reply defined buf o p k l x y = (determined x.outcome y.outcome, determined x.buffer y.buffer)

pub answers_are_one : AnswersAreOne
answers_are_one = record {
  setup_is_one = λ _ _ _ _ _. determined;
  message_is_one = λ _ _ buf. with_reply _ buf;
  start_is_one = λ _ _ _ _. determined;
  finish_is_one = λ _ _ _ _ _ buf. with_reply _ buf;
  total_reset_is_one = λ _ _ _. determined;
  command_block_is_one = λ _ _ _ _. determined;
}
