-- What open, advance and close do. This follows the code: believe Text.antt, which they print, as Promises.antt says.
use Rattle.std.specs.Prelude.{Result, is_err}
use Rattle.wire.specs.declared.codes.Refusal.{Refusal}
use Rattle.std.specs.Prelude.{ℕ, zero, suc, ◌+◌, ◌-◌, ◌^◌, ◌≡◌, Bool, true, false, cond, Option, None, Some, is_some, List, [], ◌++◌, length, ltb, leb, eqb}
use Rattle.wire.specs.Codes
use Rattle.task.specs.Map.{live_count}
use Rattle.table.specs.Tables.{zero_table}
use Rattle.table.specs.declared.Table.{Table}
use Rattle.plan.specs.declared.Answer.{Answer}
use Rattle.engine.specs.Calls.{setup_of}
use Rattle.engine.specs.declared.Outcome.{Outcome}
use Rattle.input.specs.Reading.{header_of, listed}
use Rattle.input.specs.Events.{event_at}
use Rattle.input.specs.declared.header.Header.{Header}
use Rattle.input.specs.declared.event.Event.{Event}
use Rattle.transcript.specs.Lines.{push_all, line_of, end_ok, handed_of, handed_in}
use Rattle.transcript.specs.Text.{longest, called, end_of}
use Rattle.transcript.specs.declared.play.State.{State}
use Rattle.transcript.specs.declared.play.State.TheVariants as state
use Rattle.transcript.specs.declared.play.Player.{Player}
use Rattle.transcript.specs.declared.play.Step.{Step}
use Rattle.transcript.specs.declared.play.Turn.{Turn}

abbrev pub player : Table → ℕ → ℕ → State → Player
player t at n st = record { table = t; at = at; number = n; state = st }

abbrev pub standing : Table → State → Player
standing t st = player t 0 0 st

abbrev pub standing_at : Player → State → Player
standing_at p st = player p.table p.at p.number st

abbrev pub is_playing : State → Bool
is_playing state.Playing = true
is_playing state.Done = false
is_playing state.Bad = false
is_playing state.Refused = false

-- ---- open

-- setup by a header
abbrev pub set_by : Header → Outcome
set_by h = setup_of (listed h) h.mask h.first

unfoldable pub by_header : Option Header → Player
by_header None = standing zero_table state.Bad
by_header (Some h) = cond (is_err (set_by h).answer) (standing (set_by h).table state.Refused) (player (set_by h).table h.next 0 state.Playing)

unfoldable pub opened : List ℕ → Player
opened s = cond (ltb longest (length s)) (standing zero_table state.Bad) (by_header (header_of s))

-- ---- advance

abbrev pub idled : Player → Turn
idled p = record { player = p; answer = None }

unfoldable pub by_next : Player → List ℕ → Option (Event × ℕ) → Turn
by_next p s None = idled (standing_at p state.Bad)
by_next p s (Some (e, next)) = record {
  player = player (called p.table s e).table next (p.number + 1) state.Playing;
  answer = Some (called p.table s e).answer;
}

-- a player that plays takes the next event; at the end of the input it is done, at a malformed event bad.
-- The code counts events in 64 bits, hence the test of the number: no input is long enough to come to it
unfoldable pub turned : Player → List ℕ → Turn
turned p s =
    cond (is_playing p.state)
    (cond (leb (length s) p.at) (idled (standing_at p state.Done))
    (cond (eqb p.number (2 ^ 64 - 1)) (idled (standing_at p state.Bad)) (by_next p s (event_at s p.at))))
    (idled p)

-- the line of event n, and nothing where none was played
abbrev pub line_told : ℕ → Option (Result Answer Refusal) → List ℕ
line_told n None = []
line_told n (Some a) = line_of n a

-- the text of a turn, and its line
abbrev pub turn_text : Turn → List ℕ
turn_text t = line_told t.player.number t.answer

abbrev pub turn_line : Turn → List ℕ
turn_line t = push_all [] (turn_text t)

-- one event in, one line out; nothing where there is no event, and nothing played where the line buffer is under 64
-- bytes
unfoldable pub step_of : Player → List ℕ → List ℕ → Step
step_of p s buf =
    cond (ltb (length buf) 64) (record { player = p; wrote = 0 })
    (record { player = (turned p s).player; wrote = handed_of (turn_line (turned p s)) buf })

unfoldable pub line_left : Player → List ℕ → List ℕ → List ℕ
line_left p s buf = cond (ltb (length buf) 64) buf (handed_in (turn_line (turned p s)) buf)

pub record Advances (p : Player) (s buf : List ℕ) (r : Step) (left : List ℕ) : Type 0 where
  pub step : r ≡ step_of p s buf
  pub buffer : left ≡ line_left p s buf

-- ---- close

unfoldable pub last_text : Player → List ℕ
last_text p = by_state p.state
  where
    by_state : State → List ℕ
    by_state state.Playing = []
    by_state state.Done = end_ok (live_count p.table.live)
    by_state state.Bad = end_of Codes.malformed
    by_state state.Refused = end_of Codes.bad_paths

abbrev pub last_line : Player → List ℕ
last_line p = push_all [] (last_text p)

-- ---- what a program prints that opens an input, advances until nothing is written, and closes

unfoldable pub printed_from : ℕ → Player → List ℕ → List ℕ
printed_from zero p s = []
printed_from (suc left) p s =
    cond (is_some (turned p s).answer) (turn_text (turned p s) ++ printed_from left (turned p s).player s) (last_text (turned p s).player)

unfoldable pub printed : List ℕ → List ℕ
printed s = printed_from (length s + 1) (opened s) s
