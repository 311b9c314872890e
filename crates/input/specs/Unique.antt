-- Each public function's contract determines its answer: two answers that are each what it says are equal. Proved in
-- proofs/Unique.antt.
use Rattle.std.specs.Prelude.{ℕ, List}
use Rattle.wire.specs.Unique.{One}
use Rattle.input.specs.Events.{event_at}
use Rattle.input.specs.Reading.{header_of}

pub record AnswersAreOne : Type 0 where
  pub read_header_is_one : (s : List ℕ) → One (header_of s)
  pub event_at_is_one : (s : List ℕ) (at : ℕ) → One (event_at s at)
