-- What is promised of the plans beside the contracts. Proved in proofs/Promises.antt.
use Rattle.std.specs.Prelude.{ℕ, ◌<◌, ◌≡◌}
use Rattle.wire.specs.Codes.{kind_number, kind_of}

-- the kind that QUEUE CNTL asks for has QUEUE CNTL's number: two bits, so below 4
abbrev pub KindIsQueue : Type 0
KindIsQueue = (n : ℕ) → n < 4 → kind_number (kind_of n) ≡ n
