-- What open, advance and close print is the readable text.
-- Assumes nothing.
use Prim.Native.Nat.{ℕ, zero, suc, ◌+◌, ◌-◌, ◌^◌, ◌≤◌, ◌<◌}
use mathlib.Core.Path.{◌≡◌, refl, ◌∙◌}
use mathlib.Core.Bool.{Bool, true, false, cond}
use mathlib.Core.List.{List, ◌++◌}
use lib.ListN.{length}
use lib.Dec.{ltb}
use native.Mathlib.Numerals.{add-one}
use native.Mathlib.Omega.{arith}
use borrow.Author.Tests.{ltb-true, ltb-false, le-leb, lt-leb, ne_eqb}
use Rattle.std.specs.Prelude.{Option, None, Some, is_some}
use Rattle.wire.proofs.Table.{cond_ind}
use Rattle.table.specs.Setup.{bad_list}
use Rattle.table.specs.declared.Table.{Table}
use Rattle.engine.specs.Calls.{setup_of}
use Rattle.input.specs.Events.{event_at}
use Rattle.input.specs.Header.{Heading, malformed, heading, heading_of}
use Rattle.input.specs.Reading.{header_of, listed}
use Rattle.input.specs.Promises.{Says}
use Rattle.input.specs.declared.header.Header.{Header}
use Rattle.input.specs.declared.event.Event.{Event}
use Rattle.input.proofs.Promises.{header_is_read}
use Rattle.transcript.specs.Lines.{line_of}
use Rattle.transcript.specs.Text.{longest, called, by_event, text_from, by_heading, text_of}
use Rattle.transcript.specs.Playing.{player, standing, is_playing, idled, set_by, by_header, opened, by_next, turned, turn_text, last_text, printed_from, printed}
use Rattle.transcript.specs.declared.play.State.TheVariants as state
use Rattle.transcript.specs.declared.play.Player.{Player}
use Rattle.transcript.specs.declared.play.Turn.{Turn}

-- what is printed from a turn on
abbrev printed_by : ℕ → List ℕ → Turn → List ℕ
printed_by left s t = cond (is_some t.answer) (turn_text t ++ printed_from left t.player s) (last_text t.player)

-- a player that has stopped prints its last line
stopped : (left : ℕ) (p : Player) (s : List ℕ) → is_playing p.state ≡ false → printed_from (suc left) p s ≡ last_text p
unfolding printed_from turned
stopped left p s h = rw h

module _ (t : Table) (n : ℕ) (s : List ℕ) (at : ℕ) where
  turn_done : length s ≤ at → turned (player t at n state.Playing) s ≡ idled (player t at n state.Done)
  unfolding turned
  turn_done h = rw (le-leb _ _ h)

  turn_next : at < length s → (n ≡ 2 ^ 64 - 1 → ⊥) → turned (player t at n state.Playing) s ≡ by_next (player t at n state.Playing) s (event_at s at)
  unfolding turned
  turn_next h z = rw (lt-leb _ _ h, ne_eqb _ _ z)

  next_prints :
      (left : ℕ) (x : Option (Event × ℕ)) → ((u : Table) (next : ℕ) → printed_from left (player u next (n + 1) state.Playing) s ≡ text_from left u (n + 1) s next)
      → printed_by left s (by_next (player t at n state.Playing) s x) ≡ by_event x (λ e next. line_of (n + 1) (called t s e).answer ++ text_from left (called t s e).table (n + 1) s next)
  unfolding by_next by_event last_text
  next_prints left None ih = refl
  next_prints left (Some (e, next)) ih = rw (ih (called t s e).table next)

pub plays : (left : ℕ) (t : Table) (n : ℕ) (s : List ℕ) (at : ℕ) → n + left ≤ longest + 1 → printed_from left (player t at n state.Playing) s ≡ text_from left t n s at
unfolding printed_from text_from last_text
plays zero t n s at h = refl
plays (suc left) t n s at h =
    cond_ind (λ (text : List ℕ). printed_by left s (turned (player t at n state.Playing) s) ≡ text) (ltb at (length s))
    (λ l. rw (turn_next t n s at (ltb-true _ _ l) (λ z. omega arith))
    (next_prints t n s at left (event_at s at) (λ u next. plays left u (n + 1) s next (omega arith))))
    (λ l. rw (turn_done t n s at (ltb-false _ _ l)))

-- ---- from the header on

module _ (h : Header) where
  header_refused : bad_list (listed h) ≡ true → by_header (Some h) ≡ standing (set_by h).table state.Refused
  unfolding by_header setup_of
  header_refused b = rw b

  header_set : bad_list (listed h) ≡ false → by_header (Some h) ≡ player (set_by h).table h.next 0 state.Playing
  unfolding by_header setup_of
  header_set b = rw b

by_header_law :
    (s : List ℕ) (hd : Heading) (r : Option Header) → length s ≤ longest → Says hd r
    → printed_from (suc (length s)) (by_header r) s ≡ by_heading s hd
unfolding by_header by_heading last_text
by_header_law s malformed r l e = rw e (stopped (length s) _ s refl)
by_header_law s (heading ids mask first next) None l e = absurd e
by_header_law s (heading ids mask first next) (Some h) l (m, f, n, alike) =
    cond_ind (λ (text : List ℕ). printed_from (suc (length s)) (by_header (Some h)) s ≡ text) (bad_list ids)
    (λ b. rw (header_refused h (alike.0 ∙ b)) (stopped (length s) _ s refl))
    (λ b. rw (header_set h (alike.0 ∙ b), alike.1 b, m, f, n, add-one (length s)) (plays (suc (length s)) _ 0 s next (omega arith)))

pub prints : (s : List ℕ) → printed s ≡ text_of s
unfolding printed text_of opened last_text
prints s = rw (add-one (length s)) (by_length (ltb longest (length s)) refl)
  where
    by_length : (b : Bool) → ltb longest (length s) ≡ b → printed_from (suc (length s)) (opened s) s ≡ text_of s
    by_length true t = rw t (stopped (length s) _ s refl)
    by_length false t = rw t (by_header_law s (heading_of s) (header_of s) (ltb-false _ _ t) (header_is_read s))
