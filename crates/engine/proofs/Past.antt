-- Bytes past the specified length are not read: they change neither the outcome of a message nor the command block
-- handed over. Assumes nothing.
use Prim.Native.Nat.{ℕ}
use Rattle.std.specs.Prelude.{Result, Ok, Err}
use Rattle.wire.specs.declared.codes.Refusal.{Refusal}
use mathlib.Core.Path.{◌≡◌, refl, sym, ◌∙◌}
use mathlib.Core.Bool.{false, cond, not}
use mathlib.Core.List.{List, [], ◌∷◌, ◌++◌}
use mathlib.Core.Logic.{inl, inr}
use lib.Dec.{ltb}
use Rattle.wire.specs.Codes
use Rattle.wire.specs.Messages.{read_of, reserved_set}
use Rattle.wire.specs.Block.{cut_short}
use Rattle.wire.specs.Promises.{s3p_code, Whole}
use Rattle.wire.specs.declared.message.Flags.{Flags}
use Rattle.wire.specs.declared.message.Message.{Message}
use Rattle.wire.specs.declared.message.Message.TheVariants.{Command, ConfirmStatus, AbortTask, AbortTaskSet, ClearTaskSet, TargetReset, ClearAca, UnitReset}
use Rattle.wire.proofs.Promises.{read_by_code}
use Rattle.wire.proofs.Past.{past_is_not_read as past}
use Rattle.wire.proofs.Table.{cond_ind}
use Rattle.task.proofs.Ways.{either_way}
use Rattle.sound.specs.Sound.{sound_of}
use Rattle.table.specs.declared.Table.{Table}
use Rattle.rules.specs.First.{Rule, first_that}
use Rattle.rules.specs.Rules.{passes_attention, reset_to_report, cleared_to_report, room_rules, field_rules, unit_rules, block_rules, command_rules, accepts, deciding}
use Rattle.rules.specs.Management.{order_code}
use Rattle.rules.specs.declared.facts.Facts.{Facts}
use Rattle.rules.specs.declared.command.Ruling.{Ruling}
use Rattle.plan.specs.Plans.{asked_of, asked_in, order_plan, confirm_plan}
use Rattle.plan.specs.declared.Asked.{Asked}
use Rattle.engine.specs.Calls.{heard_of, plan_at, plan_for, answered_to, message_of, handed_over}
use Rattle.engine.specs.Promises.{PastIsNotRead}

-- ---- what a list of rules answers is told by which rules apply and what each gives; the field value behind a rule has no part in it

given : List Rule → Ruling → Ruling
given [] last = last
given (r ∷ rs) last = cond r.applies r.gives (given rs last)

told : (rs : List Rule) (last : Rule) → (first_that rs last).gives ≡ given rs last.gives
unfolding first_that given
told [] last = refl
told (r ∷ rs) last = elim (either_way r.applies) [ inl a ↦ rw a | inr a ↦ rw a (told rs last) ]

-- ---- a message, and the same with bytes after it: where it is a command its block is whole, and the reserved fields are the same

-- the rules of a command
decided_same : (m rest : List ℕ) (f : Facts) (flags : Flags) → cut_short m ≡ false → reserved_set (m ++ rest) ≡ reserved_set m
    → (deciding f flags (m ++ rest)).gives ≡ (deciding f flags m).gives
unfolding given command_rules room_rules field_rules unit_rules block_rules passes_attention reset_to_report cleared_to_report
decided_same m rest f flags w s =
    rw (told (command_rules f flags (m ++ rest)) (accepts (m ++ rest)), told (command_rules f flags m) (accepts m))
    (rw (past.cut_short_past m rest w ∙ sym w, s, past.first_byte m rest w, past.no_length m rest w, past.is_linked m rest w))

module _ (t : Table) (m rest : List ℕ) where
  abbrev Same : Result Asked Refusal → Type 0
  Same a = answered_to t (m ++ rest) a ≡ answered_to t m a

  -- an order and a confirmation look at the reserved fields alone
  answered_same : (r : Message) → (s3p_code r ≡ Codes.scsi_command → cut_short m ≡ false) → reserved_set (m ++ rest) ≡ reserved_set m → Same (Ok (asked_of r))
  unfolding answered_to plan_for plan_at order_plan order_code confirm_plan s3p_code
  answered_same (Command tag path lun flags) w s = rw (decided_same m rest _ flags (w refl) s)
  answered_same (ConfirmStatus tag path newPath offset complete) w s = rw s
  answered_same (AbortTask tag path tag2) w s = rw s
  answered_same (AbortTaskSet tag path lun) w s = rw s
  answered_same (ClearTaskSet tag path lun) w s = rw s
  answered_same (TargetReset tag path) w s = rw s
  answered_same (ClearAca tag path lun) w s = rw s
  answered_same (UnitReset tag path lun) w s = rw s

  -- what is read as a command bears its code, so that its block is whole
  message_same : (n : ℕ) → Whole m → message_of t (m ++ rest) n ≡ message_of t m n
  unfolding message_of heard_of answered_to
  message_same n h =
      rw (past.read m rest (h.fields _))
      (cond_ind Same (not (sound_of t)) (λ _. refl)
      (λ _. cond_ind Same (ltb n Codes.reply_room) (λ _. refl) (λ _. read_same (read_of m) refl)))
    where
      read_same : (x : Result Message Refusal) → read_of m ≡ x → Same (asked_in x)
      read_same (Ok r) e = answered_same r (λ k. h.block (sym (read_by_code m r e) ∙ k)) (past.reserved_set_past m rest h)
      read_same (Err k) e = refl

pub past_is_not_read : PastIsNotRead
unfolding handed_over
past_is_not_read = record {
  outcome = message_same;
  command_block = λ m rest a w. rw (past.command_block m rest w);
}
