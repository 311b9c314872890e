-- What is promised of the rule list beside the contracts. Proved in proofs/Promises.antt.
use Rattle.std.specs.Prelude.{ℕ, ◌≡◌, Bool, true, false, not, ◌&&◌, List, eqb, leb}
use Rattle.wire.specs.Codes
use Rattle.wire.specs.Fields.{byte}
use Rattle.wire.specs.Messages.{reserved_set}
use Rattle.wire.specs.declared.message.Flags.{Flags}
use Rattle.rules.specs.First.{Rule}
use Rattle.rules.specs.Rules.{reserved_field, deciding}
use Rattle.rules.specs.declared.facts.Facts.{Facts}
use Rattle.rules.specs.declared.change.SenderChange.{SenderChange}
use Rattle.rules.specs.declared.change.SenderChange.TheVariants.{Stays, SetMark, ClearMark, ClearMarkAndAttention}
use Rattle.rules.specs.declared.change.QueueChange.{QueueChange}
use Rattle.rules.specs.declared.change.QueueChange.TheVariants.{Leaves, Holds}
use Rattle.rules.specs.declared.command.Ruling.{Ruling}
use Rattle.rules.specs.declared.command.Ruling.TheVariants.{Refuse, Respond, Report, Invalid, Accept}

-- rule 3 applies to a command exactly where the field behind it is not zero
abbrev pub ReservedIsTheField : Type 0
ReservedIsTheField = (m : List ℕ) → byte m 1 ≡ Codes.scsi_command → reserved_set m ≡ not (eqb (reserved_field m) 0)

-- ---- which rules hold the queue (M-103), and which take the attention

-- one of rules 7 to 10
abbrev pub seven_to_ten : Rule → Bool
seven_to_ten r = leb 7 r.number && leb r.number 10

-- the answer is STATUS 02h
abbrev pub reports02 : Ruling → Bool
reports02 (Refuse n) = false
reports02 (Respond code sender) = false
reports02 (Report status sense sender queue) = eqb status.0 (Codes.check_condition).0
reports02 (Invalid sender) = false
reports02 Accept = false

abbrev pub holds : QueueChange → Bool
holds Leaves = false
holds Holds = true

-- the answer holds the queue
abbrev pub holds_queue : Ruling → Bool
holds_queue (Refuse n) = false
holds_queue (Respond code sender) = false
holds_queue (Report status sense sender queue) = holds queue
holds_queue (Invalid sender) = false
holds_queue Accept = false

-- whatever was asked of the table, the flags and the message: the rule that decides holds the queue exactly where it
-- is one of rules 7 to 10 and answers STATUS 02h
abbrev pub HoldsAsAsked : Type 0
HoldsAsAsked = (f : Facts) (g : Flags) (m : List ℕ) → holds_queue (deciding f g m).gives ≡ (seven_to_ten (deciding f g m) && reports02 (deciding f g m).gives)

abbrev pub takes : SenderChange → Bool
takes Stays = false
takes SetMark = false
takes ClearMark = false
takes ClearMarkAndAttention = true

-- the answer takes the sender's attention
abbrev pub takes_attention : Ruling → Bool
takes_attention (Refuse n) = false
takes_attention (Respond code sender) = takes sender
takes_attention (Report status sense sender queue) = takes sender
takes_attention (Invalid sender) = takes sender
takes_attention Accept = false

-- rule 8 takes it, and holds the queue in the same answer; no other rule takes it
pub record EightTakesAttention : Type 0 where
  pub taken : (f : Facts) (g : Flags) (m : List ℕ) → takes_attention (deciding f g m).gives ≡ eqb (deciding f g m).number 8
  pub held : (f : Facts) (g : Flags) (m : List ℕ) → (deciding f g m).number ≡ 8 → holds_queue (deciding f g m).gives ≡ true

-- STATUS 02h on a unit that is attached is that of rules 7 to 10, and on one that is not, that of rule 6
pub record AttachedIsSevenToTen : Type 0 where
  pub either : (f : Facts) (g : Flags) (m : List ℕ) → reports02 (deciding f g m).gives ≡ true → seven_to_ten (deciding f g m) ≡ f.attached
  pub rule_6 : (f : Facts) (g : Flags) (m : List ℕ) → reports02 (deciding f g m).gives ≡ true → f.attached ≡ false → (deciding f g m).number ≡ 6

-- on a unit that has ACA already, only the owner's command comes to a rule that holds the queue: rule 7 keeps all others
-- out
abbrev pub OwnersAlone : Type 0
OwnersAlone = (f : Facts) (g : Flags) (m : List ℕ) → holds_queue (deciding f g m).gives ≡ true → f.aca ≡ true → f.owned ≡ true
