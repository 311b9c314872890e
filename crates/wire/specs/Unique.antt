-- Each public function's contract determines its answer: two answers that are each what it says are equal.
use Rattle.std.specs.Prelude.{ℕ, ◌≡◌, List, ◌++◌, length, take, drop, min}
use Rattle.wire.specs.Codes.{refusal_number, kind_number, kind_of}
use Rattle.wire.specs.Fields.{byte, joined}
use Rattle.wire.specs.Messages.{read_of, reserved_set}
use Rattle.wire.specs.Block.{cut_short, no_block, linked, block_of}
use Rattle.wire.specs.declared.codes.Refusal.{Refusal}
use Rattle.wire.specs.declared.codes.Kind.{Kind}

-- two answers that are each what the contract says are equal
abbrev pub One : {A : Type 0} → A → Type 0
One {A} said = (x y : A) → x ≡ said → y ≡ said → x ≡ y

pub record AnswersAreOne : Type 0 where
  pub number_is_one : (r : Refusal) → One (refusal_number r)
  pub kind_number_is_one : (k : Kind) → One (kind_number k)
  pub kind_from_is_one : (n : ℕ) → One (kind_of n)
  pub byte_at_is_one : (m : List ℕ) (at : ℕ) → One (byte m at)
  pub copy_is_one : (bytes to : List ℕ) (x y : ℕ) (k l : List ℕ)
      → x ≡ min (length bytes) (length to) → k ≡ take x bytes ++ drop x to
      → y ≡ min (length bytes) (length to) → l ≡ take y bytes ++ drop y to → (x ≡ y) × (k ≡ l)
  pub word_is_one : (high low : ℕ) → One (joined high low)
  pub read_is_one : (m : List ℕ) → One (read_of m)
  pub reserved_set_is_one : (m : List ℕ) → One (reserved_set m)
  pub cut_short_is_one : (m : List ℕ) → One (cut_short m)
  pub no_length_is_one : (m : List ℕ) → One (no_block m)
  pub is_linked_is_one : (m : List ℕ) → One (linked m)
  pub command_block_is_one : (m : List ℕ) → One (block_of m)
