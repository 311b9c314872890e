-- The answers are one: each by the law that an equation determines its left side. Assumes nothing.
use Rattle.wire.proofs.Unique.{determined}
use Rattle.rules.specs.Unique.{AnswersAreOne}

pub answers_are_one : AnswersAreOne
answers_are_one = record {
  look_up_is_one = λ _ _ _ _ _ _ _. determined;
  unit_alone_is_one = λ _ _ _ _. determined;
  decide_is_one = λ _ _ _ _ _. determined;
  ends_is_one = λ _ _ _ _. determined;
  tag_of_is_one = λ _ _ _. determined;
  unit_of_is_one = λ _ _ _. determined;
  clears_set_is_one = λ _ _ _. determined;
  goes_by_unit_is_one = λ _ _ _. determined;
  order_code_is_one = λ _ _ _ _ _. determined;
  order_change_is_one = λ _ _ _ _. determined;
}
