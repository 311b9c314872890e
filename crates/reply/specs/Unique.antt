-- Each public function's contract determines its answer, and the writer's the buffer too: two that satisfy it are
-- equal.
use Rattle.std.specs.Prelude.{ℕ, ◌≡◌, List, Result}
use Rattle.wire.specs.Unique.{One}
use Rattle.reply.specs.Calls.{Writes, found_in}
use Rattle.reply.specs.declared.Reply.{Reply}
use Rattle.wire.specs.declared.codes.Refusal.{Refusal}

pub record AnswersAreOne : Type 0 where
  pub write_is_one : (r : Reply) (buf : List ℕ) (w v : Result ℕ Refusal) (k l : List ℕ) → Writes r buf w k → Writes r buf v l → (w ≡ v) × (k ≡ l)
  pub read_is_one : (b : List ℕ) → One (found_in b)
