-- What is promised of the input beside the contracts. Each is proved in proofs/Promises.antt.
use Rattle.std.specs.Prelude.{ℕ, ◌+◌, ◌-◌, ◌^◌, ◌≤◌, ◌<◌, ◌≡◌, false, Option, None, Some, List, [], ◌∷◌, ◌++◌, length, get_or, take, drop}
use Rattle.table.specs.Setup.{bad_list}
use Rattle.input.specs.Numbers.{number_at, groups_of}
use Rattle.input.specs.Header.{Heading, malformed, heading, heading_of}
use Rattle.input.specs.Events.{event_at}
use Rattle.input.specs.Reading.{header_of, listed}
use Rattle.input.specs.declared.header.Header.{Header}
use Rattle.input.specs.declared.event.Event.{Event}

-- ---- numbers

-- a number below 2^64 that is written in groups, anywhere in an input, is read back
abbrev pub NumbersReadBack : Type 0
NumbersReadBack =
    (before rest : List ℕ) (n : ℕ) → n < 2 ^ 64
    → number_at (before ++ (groups_of n ++ rest)) (length before) ≡ Some (n, length before + length (groups_of n))

-- no two encodings of one number are taken: the bytes of a number that is read are its groups
abbrev pub OneFormIsTaken : Type 0
OneFormIsTaken =
    (s : List ℕ) → ((i : ℕ) → get_or s i 0 < 256) → (at n next : ℕ) → number_at s at ≡ Some (n, next)
    → take (next - at) (drop at s) ≡ groups_of n

-- page 01's example: 300 is AC 02, and AC 02 is read as 300
abbrev pub ThreeHundred : Type 0
ThreeHundred = (groups_of 300 ≡ 0xac ∷ 0x02 ∷ []) × (number_at (0xac ∷ 0x02 ∷ []) 0 ≡ Some (300, 2))

-- ---- the header

-- the same list for setup: the same ids, or a list that is refused as the other is
abbrev pub Alike : List ℕ → List ℕ → Type 0
Alike kept ids = (bad_list kept ≡ bad_list ids) × (bad_list ids ≡ false → kept ≡ ids)

-- the header as the code keeps it says what the heading says
abbrev pub Says : Heading → Option Header → Type 0
Says malformed h = h ≡ None
Says (heading ids mask first next) None = ⊥
Says (heading ids mask first next) (Some h) = (h.mask ≡ mask) × (h.first ≡ first) × (h.next ≡ next) × Alike (listed h) ids

abbrev pub HeaderIsRead : Type 0
HeaderIsRead = (s : List ℕ) → Says (heading_of s) (header_of s)

-- no header that is read has more ids than are kept
abbrev pub NineAreKept : Type 0
NineAreKept = (s : List ℕ) (h : Header) → header_of s ≡ Some h → h.count ≤ 9

-- ---- the events

-- an event takes a byte at least
abbrev pub EventsMoveOn : Type 0
EventsMoveOn = (s : List ℕ) (at : ℕ) (e : Event) (next : ℕ) → event_at s at ≡ Some (e, next) → at < next
