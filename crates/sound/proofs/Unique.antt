-- The answers are one: each by the law that an equation determines its left side. Assumes nothing.
use Rattle.wire.proofs.Unique.{determined}
use Rattle.sound.specs.Unique.{AnswersAreOne}

pub answers_are_one : AnswersAreOne
answers_are_one = record {
  is_no_task_is_one = λ _ _ _. determined;
  is_sound_is_one = λ _ _ _. determined;
}
