-- The events of a transcript. Unknown events, a field over 8 bits where a byte is meant, or a cut event are
-- malformed. An event is read with the place after it.
use Rattle.std.specs.Prelude.{ℕ, ◌+◌, Option, None, Some, List, cond, length, ltb, eqb}
use Rattle.input.specs.Numbers.{number_at, byte_at, given}
use Rattle.input.specs.declared.event.Event.{Event}
use Rattle.input.specs.declared.event.Event.TheVariants.{Message, Start, Finish, TotalReset}

-- 1: length and bytes
unfoldable pub message_at : List ℕ → ℕ → Option (Event × ℕ)
message_at s at = given None (number_at s at) (λ n from. cond (ltb (length s) (from + n)) None (Some (Message from (from + n), from + n)))

-- 2: unit
unfoldable pub start_at : List ℕ → ℕ → Option (Event × ℕ)
start_at s at = given None (byte_at s at) (λ unit next. Some (Start unit, next))

-- 3: arrival number, status, key, code, qualifier, bytes transferred
unfoldable pub finish_at : List ℕ → ℕ → Option (Event × ℕ)
finish_at s at =
    given None (number_at s at) (λ arrival a.
    given None (byte_at s a) (λ status b.
    given None (byte_at s b) (λ key c.
    given None (byte_at s c) (λ code d.
    given None (byte_at s d) (λ qualifier e.
    given None (number_at s e) (λ transferred next. Some (Finish arrival status key code qualifier transferred, next)))))))

-- by the event's number; 4 is total reset
unfoldable pub by_kind : List ℕ → ℕ → ℕ → Option (Event × ℕ)
by_kind s kind at =
    cond (eqb kind 1) (message_at s at)
    (cond (eqb kind 2) (start_at s at)
    (cond (eqb kind 3) (finish_at s at)
    (cond (eqb kind 4) (Some (TotalReset, at)) None)))

unfoldable pub event_at : List ℕ → ℕ → Option (Event × ℕ)
event_at s at = given None (number_at s at) (λ kind next. by_kind s kind next)
