-- The answers are one: each by the law that an equation determines its left side. Assumes nothing.
use Rattle.wire.proofs.Unique.{determined}
use Rattle.table.specs.Unique.{AnswersAreOne}

pub answers_are_one : AnswersAreOne
answers_are_one = record {
  path_of_is_one = λ _ _ _ _. determined;
  path_at_is_one = λ _ _ _ _. determined;
  unit_at_is_one = λ _ _ _ _. determined;
  is_attached_is_one = λ _ _ _ _. determined;
  bit_of_is_one = λ _ _ _ _. determined;
  place_of_is_one = λ _ _ _ _ _. determined;
  is_nothing_is_one = λ _ _ _. determined;
  is_reset_is_one = λ _ _ _. determined;
  is_cleared_is_one = λ _ _ _. determined;
  mark_is_one = λ _ _ _ _ _. determined;
  drop_attention_is_one = λ _ _ _ _. determined;
  give_reset_attention_is_one = λ _ _ _ _ _. determined;
  give_cleared_attention_is_one = λ _ _ _ _. determined;
  claim_is_one = λ _ _ _ _ _. determined;
  clear_aca_is_one = λ _ _ _ _. determined;
  pick_is_one = λ _ _ _ _. determined;
  task_at_is_one = λ _ _ _ _. determined;
  has_room_is_one = λ _ _ _. determined;
  accept_is_one = λ _ _ _ _ _ _ _ _. determined;
  end_is_one = λ _ _ _ _. determined;
  start_is_one = λ _ _ _ _. determined;
  restart_is_one = λ _ _ _ _ _. determined;
  finish_is_one = λ _ _ _ _ _ _. determined;
  reset_is_one = λ _ _ _. determined;
  step_is_one = λ _ _ _ _. determined;
  finish_step_is_one = λ _ _ _ _ _ _. determined;
  finish_units_is_one = λ _ _ _ _ _ _ _. determined;
  holders_is_one = λ _ _ _ _. determined;
  running_among_is_one = λ _ _ _ _. determined;
  others_on_is_one = λ _ _ _ _ _. determined;
  bad_list_is_one = λ _ _ _. determined;
  zero_is_one = λ _ _. determined;
  new_is_one = λ _ _ _ _ _. determined;
  has_aca_is_one = λ _ _ _. determined;
  owned_by_is_one = λ _ _ _ _. determined;
  aca_at_is_one = λ _ _ _ _. determined;
}
