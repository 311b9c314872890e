-- The answers are one: each by the law that an equation determines its left side. Assumes nothing.
use Rattle.wire.proofs.Unique.{determined}
use Rattle.transcript.specs.Unique.{AnswersAreOne}

pub answers_are_one : AnswersAreOne
answers_are_one = record {
  open_is_one = λ _ _ _. determined;
  advance_is_one = λ _ _ _ _ _ _ _ h g. (determined h.step g.step, determined h.buffer g.buffer);
  close_is_one = λ _ _ _ _ _ _ h g. (determined h.wrote g.wrote, determined h.buffer g.buffer);
}
