-- The answers are one: each by the law that an equation determines its left side.
-- Assumes nothing.
use Rattle.wire.proofs.Unique.{determined}
use Rattle.reply.specs.Unique.{AnswersAreOne}

pub answers_are_one : AnswersAreOne
answers_are_one = record {
  write_is_one = λ r buf w v k l p q. (determined p.answer q.answer, determined p.buffer q.buffer);
  read_is_one = λ _ _ _. determined;
}
