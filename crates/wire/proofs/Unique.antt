-- The answers are one: each by the law that an equation determines its left side.
-- Assumes nothing.
use Rattle.std.proofs.Common.{ℕ, ◌++◌, take, drop}
use mathlib.Core.Path.{◌≡◌, sym, ap, ◌∙◌}
use Rattle.wire.specs.Unique.{AnswersAreOne}

-- a contract that is an equation determines the answer
pub determined : {A : Type 0} {x y said : A} → x ≡ said → y ≡ said → x ≡ y
determined h l = h ∙ sym l

pub answers_are_one : AnswersAreOne
answers_are_one = record {
  number_is_one = λ _ _ _. determined;
  kind_number_is_one = λ _ _ _. determined;
  kind_from_is_one = λ _ _ _. determined;
  byte_at_is_one = λ _ _ _ _. determined;
  copy_is_one = λ bytes to x y k l c a d b. let e : x ≡ y = determined c d in (e, a ∙ ap (λ (n : ℕ). take n bytes ++ drop n to) e ∙ sym b);
  word_is_one = λ _ _ _ _. determined;
  read_is_one = λ _ _ _. determined;
  reserved_set_is_one = λ _ _ _. determined;
  cut_short_is_one = λ _ _ _. determined;
  no_length_is_one = λ _ _ _. determined;
  is_linked_is_one = λ _ _ _. determined;
  command_block_is_one = λ _ _ _. determined;
}
