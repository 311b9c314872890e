-- The answers are one: each by the law that an equation determines its left side. Assumes nothing.
use Rattle.wire.proofs.Unique.{determined}
use Rattle.plan.specs.Unique.{AnswersAreOne}

pub answers_are_one : AnswersAreOne
answers_are_one = record {
  ask_is_one = λ _ _ _. determined;
  tag_asked_is_one = λ _ _ _ _. determined;
  unit_asked_is_one = λ _ _ _. determined;
  clears_set_is_one = λ _ _ _. determined;
  goes_by_unit_is_one = λ _ _ _. determined;
  refuse_is_one = λ _ _ _. determined;
  find_plan_is_one = λ _ _ _ _ _ _ _ _. determined;
  change_paths_is_one = λ _ _ _ _ _. determined;
  change_units_is_one = λ _ _ _ _. determined;
}
