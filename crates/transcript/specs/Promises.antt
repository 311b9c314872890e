-- What is promised of the transcript beside the contracts. Each is proved in proofs/Promises.antt.
use Rattle.std.specs.Prelude.{Result}
use Rattle.wire.specs.declared.codes.Refusal.{Refusal}
use Rattle.std.specs.Prelude.{ℕ, suc, ◌+◌, ◌≤◌, ◌≡◌, List, [], length, take}
use Rattle.table.specs.declared.Table.{Table}
use Rattle.plan.specs.declared.Answer.{Answer}
use Rattle.transcript.specs.Lines.{push_all, line_of, Handed}
use Rattle.transcript.specs.Text.{text_from, text_of}
use Rattle.transcript.specs.Playing.{turned, turn_text, Advances, last_text, last_line, printed}
use Rattle.transcript.specs.declared.play.Player.{Player}
use Rattle.transcript.specs.declared.play.Step.{Step}

-- ---- the text

-- the count of events that may follow never runs out: one more changes nothing
abbrev pub NothingIsCut : Type 0
NothingIsCut =
    (left : ℕ) (t : Table) (n : ℕ) (s : List ℕ) (at : ℕ) → length s ≤ at + left
    → text_from (suc left) t n s at ≡ text_from (suc (suc left)) t n s at

-- the lines in order, then the last line: what is printed is the text
abbrev pub PrintsTheText : Type 0
PrintsTheText = (s : List ℕ) → printed s ≡ text_of s

-- a line fits its 64 bytes: what is written of it is the whole line
abbrev pub Fits : List ℕ → Type 0
Fits bs = push_all [] bs ≡ bs

abbrev pub LinesAreWhole : Type 0
LinesAreWhole = (n : ℕ) (a : Result Answer Refusal) → Fits (line_of n a)

abbrev pub LastLinesAreWhole : Type 0
LastLinesAreWhole = (p : Player) → Fits (last_text p)

-- a text left at the front of a buffer: as many bytes were written as it has, and they are the text
abbrev pub Leaves : List ℕ → ℕ → List ℕ → Type 0
Leaves text wrote left = (wrote ≡ length text) × (take wrote left ≡ text)

-- advance takes the turn and writes its text, the line of the event or nothing; close writes the last line. So what
-- they leave in the buffer is what is printed
abbrev pub AdvancePrints : Type 0
AdvancePrints =
    (p : Player) (s buf : List ℕ) (r : Step) (left : List ℕ) → 64 ≤ length buf → Advances p s buf r left
    → (r.player ≡ (turned p s).player) × Leaves (turn_text (turned p s)) r.wrote left

abbrev pub ClosePrints : Type 0
ClosePrints = (p : Player) (buf : List ℕ) (wrote : ℕ) (left : List ℕ) → 64 ≤ length buf → Handed (last_line p) buf wrote left → Leaves (last_text p) wrote left
