-- The text is never cut: an event ends behind the place where it starts.
-- Assumes nothing.
use Prim.Native.Nat.{ℕ, zero, suc, ◌+◌, ◌≤◌, ◌<◌}
use mathlib.Core.Path.{◌≡◌, refl, ap}
use mathlib.Core.Bool.{cond}
use mathlib.Core.List.{List, ◌++◌}
use lib.ListN.{length}
use lib.Dec.{ltb}
use native.Mathlib.Omega.{arith}
use borrow.Author.Tests.{le-ltb}
use Rattle.std.specs.Prelude.{Option, None, Some}
use Rattle.task.specs.Map.{live_count}
use Rattle.table.specs.declared.Table.{Table}
use Rattle.input.specs.Events.{event_at}
use Rattle.input.specs.declared.event.Event.{Event}
use Rattle.input.proofs.Promises.{events_move_on}
use Rattle.transcript.specs.Lines.{line_of, end_ok}
use Rattle.transcript.specs.Text.{called, by_event, text_from}

-- two ways to go on that agree on an event agree
by_event_law : (x : Option (Event × ℕ)) (f g : Event → ℕ → List ℕ) → ((e : Event) (next : ℕ) → x ≡ Some (e, next) → f e next ≡ g e next) → by_event x f ≡ by_event x g
unfolding by_event
by_event_law None f g k = refl
by_event_law (Some (e, next)) f g k = k e next refl

-- one more event that may follow changes nothing, where there is one for each byte left
pub one_more :
    (left : ℕ) (t : Table) (n : ℕ) (s : List ℕ) (at : ℕ) → length s ≤ at + left
    → text_from (suc left) t n s at ≡ text_from (suc (suc left)) t n s at
unfolding text_from
one_more zero t n s at h = rw (le-ltb at (length s) (omega arith))
one_more (suc left) t n s at h =
    ap (λ (text : List ℕ). cond (ltb at (length s)) text (end_ok (live_count t.live)))
    (by_event_law (event_at s at) _ _ (λ e next q.
    let l : at < next = events_move_on s at e next q in
    ap (λ (text : List ℕ). line_of (n + 1) (called t s e).answer ++ text) (one_more left (called t s e).table (n + 1) s next (omega arith))))
