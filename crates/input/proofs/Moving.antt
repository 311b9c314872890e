-- A number ends behind the place where it starts, and so does an event.
-- Assumes nothing.
use Prim.Native.Nat.{ℕ, zero, suc, ◌+◌, ◌-◌, ◌*◌, ◌^◌, ◌≤◌, ◌<◌}
use mathlib.Core.Bool.{◌||◌}
use mathlib.Core.List.{List}
use lib.ListN.{length, get_or}
use lib.Dec.{ltb, leb, eqb}
use native.Mathlib.Nat.{le_refl, le_of_lt}
use native.Mathlib.Omega.{arith}
use Rattle.std.specs.Prelude.{Option, None, Some}
use Rattle.wire.proofs.Table.{cond_ind}
use Rattle.input.specs.Numbers.{with_group, number_in, number_at, byte_at, below, given}
use Rattle.input.specs.Events.{message_at, start_at, finish_at, by_kind, event_at}
use Rattle.input.specs.declared.event.Event.{Event}

-- what was read ends behind a place
abbrev pub Later : {T : Type 0} → ℕ → Option (T × ℕ) → Type 0
Later at None = Unit {0}
Later at (Some (v, next)) = at < next

-- ---- a number

joined_later : (at x : ℕ) (r : Option (ℕ × ℕ)) → Later (at + 1) r → Later at (with_group x r)
unfolding with_group
joined_later at x None h = tt
joined_later at x (Some (high, next)) h =
    cond_ind (Later at) (eqb high 0 || leb (2 ^ 64) (x - 128 + high * 128)) (λ t. tt) (λ t. omega arith)

pub later : (left : ℕ) (s : List ℕ) (at : ℕ) → Later at (number_in left s at)
unfolding number_in
later zero s at = tt
later (suc left) s at =
    cond_ind (Later at) (ltb at (length s))
    (λ l. cond_ind (Later at) (ltb (get_or s at 0) 128) (λ h. omega arith) (λ h. joined_later at (get_or s at 0) (number_in left s (at + 1)) (later left s (at + 1))))
    (λ l. tt)

below_later : (at bound : ℕ) (r : Option (ℕ × ℕ)) → Later at r → Later at (below bound r)
unfolding below
below_later at bound None h = tt
below_later at bound (Some (v, next)) h = cond_ind (Later at) (ltb v bound) (λ t. h) (λ t. tt)

byte_later : (s : List ℕ) (at : ℕ) → Later at (byte_at s at)
byte_later s at = below_later at 256 (number_at s at) (later 10 s at)

-- ---- an event

module _ (at : ℕ) where
  -- what follows from a number that starts at the place or behind it
  given_ends :
      {from : ℕ} (r : Option (ℕ × ℕ)) (f : ℕ → ℕ → Option (Event × ℕ)) → at ≤ from → Later from r
      → ((v next : ℕ) → at < next → Later at (f v next)) → Later at (given None r f)
  unfolding given
  given_ends None f h l g = tt
  given_ends (Some (v, next)) f h l g = g v next (omega arith)

  module _ (s : List ℕ) {from : ℕ} (h : at < from) where
    message_ends : Later at (message_at s from)
    unfolding message_at
    message_ends =
        given_ends (number_at s from) _ (le_of_lt h) (later 10 s from) (λ n a l. cond_ind (Later at) (ltb (length s) (a + n)) (λ t. tt) (λ t. omega arith))

    start_ends : Later at (start_at s from)
    unfolding start_at
    start_ends = given_ends (byte_at s from) _ (le_of_lt h) (byte_later s from) (λ unit next l. l)

    finish_ends : Later at (finish_at s from)
    unfolding finish_at
    finish_ends =
        given_ends (number_at s from) _ (le_of_lt h) (later 10 s from) (λ arrival a k.
        given_ends (byte_at s a) _ (le_of_lt k) (byte_later s a) (λ status b l.
        given_ends (byte_at s b) _ (le_of_lt l) (byte_later s b) (λ key c m.
        given_ends (byte_at s c) _ (le_of_lt m) (byte_later s c) (λ code d n.
        given_ends (byte_at s d) _ (le_of_lt n) (byte_later s d) (λ qualifier e o.
        given_ends (number_at s e) _ (le_of_lt o) (later 10 s e) (λ transferred next p. p))))))

    kind_ends : (kind : ℕ) → Later at (by_kind s kind from)
    unfolding by_kind
    kind_ends kind =
        cond_ind (Later at) (eqb kind 1) (λ t. message_ends) (λ t.
        cond_ind (Later at) (eqb kind 2) (λ t. start_ends) (λ t.
        cond_ind (Later at) (eqb kind 3) (λ t. finish_ends) (λ t.
        cond_ind (Later at) (eqb kind 4) (λ t. h) (λ t. tt))))

  pub event_ends : (s : List ℕ) → Later at (event_at s at)
  unfolding event_at
  event_ends s = given_ends (number_at s at) _ (le_refl at) (later 10 s at) (λ kind next h. kind_ends s h kind)
