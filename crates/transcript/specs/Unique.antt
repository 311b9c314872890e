-- Each public function's contract determines its outcome: two outcomes that each satisfy it are equal, the bytes of
-- the line buffer too.
use Rattle.std.specs.Prelude.{ℕ, ◌≡◌, List}
use Rattle.wire.specs.Unique.{One}
use Rattle.transcript.specs.Lines.{Handed}
use Rattle.transcript.specs.Playing.{opened, Advances, last_line}
use Rattle.transcript.specs.declared.play.Player.{Player}
use Rattle.transcript.specs.declared.play.Step.{Step}

pub record AnswersAreOne : Type 0 where
  pub open_is_one : (s : List ℕ) → One (opened s)
  pub advance_is_one : (p : Player) (s buf : List ℕ) (x y : Step) (k l : List ℕ) → Advances p s buf x k → Advances p s buf y l → (x ≡ y) × (k ≡ l)
  pub close_is_one : (p : Player) (buf : List ℕ) (x y : ℕ) (k l : List ℕ) → Handed (last_line p) buf x k → Handed (last_line p) buf y l → (x ≡ y) × (k ≡ l)
