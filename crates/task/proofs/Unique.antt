-- The answers are one: each by the law that an equation determines its left side. Assumes nothing.
use Rattle.task.specs.Unique.{AnswersAreOne}
use Rattle.wire.proofs.Unique.{determined}

pub answers_are_one : AnswersAreOne
answers_are_one = record {
  no_task_is_one = λ _ _. determined;
  is_aca_is_one = λ _ _ _. determined;
  is_waiting_is_one = λ _ _ _. determined;
  is_running_is_one = λ _ _ _. determined;
  is_end_is_one = λ _ _ _. determined;
  has_confirm_is_one = λ _ _ _. determined;
  lowest_free_is_one = λ _ _ _. determined;
  live_count_is_one = λ _ _ _. determined;
  is_live_is_one = λ _ _ _ _. determined;
  with_bit_is_one = λ _ _ _ _. determined;
  without_bit_is_one = λ _ _ _ _. determined;
  gone_is_one = λ _ _ _ _. determined;
  named_is_one = λ _ _ _ _. determined;
  numbered_as_is_one = λ _ _ _ _ _. determined;
  on_unit_is_one = λ _ _ _. determined;
  from_on_is_one = λ _ _ _ _. determined;
  aca_on_is_one = λ _ _ _. determined;
  aca_from_on_is_one = λ _ _ _ _. determined;
  running_on_is_one = λ _ _ _. determined;
  waiting_on_is_one = λ _ _ _. determined;
  aca_waiting_on_is_one = λ _ _ _. determined;
  running_as_is_one = λ _ _ _. determined;
  picked_live_is_one = λ _ _ _ _ _ _. determined;
  next_of_is_one = λ _ _ _ _ _. determined;
}
