-- The whole text that an input is played to: a line for each event, then the last line.
use Rattle.std.specs.Prelude.{ℕ, zero, suc, ◌+◌, ◌-◌, Option, None, Some, List, [], ◌++◌, cond, ◌||◌, length, take, drop, ltb, eqb}
use Rattle.wire.specs.Codes
use Rattle.wire.specs.declared.codes.Refusal.{Refusal}
use Rattle.task.specs.Map.{live_count}
use Rattle.table.specs.Setup.{bad_list}
use Rattle.table.specs.declared.Table.{Table}
use Rattle.engine.specs.Calls.{setup_of, message_of, start_of, finish_of, total_reset_of}
use Rattle.engine.specs.declared.Outcome.{Outcome}
use Rattle.input.specs.Header.{Heading, malformed, heading, heading_of}
use Rattle.input.specs.Events.{event_at}
use Rattle.input.specs.declared.event.Event.{Event}
use Rattle.input.specs.declared.event.Event.TheVariants.{Message, Start, Finish, TotalReset}
use Rattle.transcript.specs.Lines.{line_of, end_ok, end_bad, end_refused}

-- the longest input
abbrev pub longest : ℕ
longest = 65536

-- the last line of an input that is refused: `end bad` for a malformed one, the refusal's number for any other
abbrev pub end_of : Refusal → List ℕ
end_of r = cond (eqb (Codes.refusal_number r) (Codes.refusal_number Codes.malformed)) end_bad (end_refused (Codes.refusal_number r))

-- the part of the input from one place up to another
unfoldable pub part_of : List ℕ → ℕ → ℕ → List ℕ
part_of s from until = cond (ltb until from || ltb (length s) until) [] (take (until - from) (drop from s))

-- an event, called on the table; the reply buffer has 64 bytes
unfoldable pub called : Table → List ℕ → Event → Outcome
called t s (Message from until) = message_of t (part_of s from until) 64
called t s (Start unit) = start_of t unit
called t s (Finish arrival status key code qualifier transferred) = finish_of t arrival (Codes.status_byte status) (Codes.sense key code qualifier) transferred 64
called t s TotalReset = total_reset_of t

-- by the event at a place: its line and the text after it; `end bad` where it is malformed
unfoldable pub by_event : Option (Event × ℕ) → (Event → ℕ → List ℕ) → List ℕ
by_event None f = end_of Codes.malformed
by_event (Some (e, next)) f = f e next

-- the text from a place on, after n events; `left` bounds the events that can follow: each takes a byte at least
unfoldable pub text_from : ℕ → Table → ℕ → List ℕ → ℕ → List ℕ
text_from zero t n s at = []
text_from (suc left) t n s at =
    cond (ltb at (length s))
    (by_event (event_at s at) (λ e next. line_of (n + 1) (called t s e).answer ++ text_from left (called t s e).table (n + 1) s next))
    (end_ok (live_count t.live))

-- 12 before 11: a malformed header is `end bad`, a refused setup `end refused 11` alone
unfoldable pub by_heading : List ℕ → Heading → List ℕ
by_heading s malformed = end_of Codes.malformed
by_heading s (heading ids mask first next) =
    cond (bad_list ids) (end_of Codes.bad_paths) (text_from (length s + 1) (setup_of ids mask first).table 0 s next)

-- more than 65,536 bytes prints `end bad` alone
unfoldable pub text_of : List ℕ → List ℕ
text_of s = cond (ltb longest (length s)) (end_of Codes.malformed) (by_heading s (heading_of s))
