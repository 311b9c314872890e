-- M-103: what an answer to a command does to the ACA of the units, by the rule that decides. Assumes nothing.
use Rattle.wire.specs.declared.codes.Refusal.{Refusal}
use Rattle.std.specs.Prelude.{Result, Ok, Option, Some, None}
use Prim.Native.Nat.{ℕ, ◌<◌, ◌^◌}
use mathlib.Core.Path.{◌≡◌, refl, sym, ap, subst, ◌∙◌}
use mathlib.Core.Bool.{true, false, ◌&&◌}
use mathlib.Core.List.{List}
use mathlib.Core.Logic.{inl, inr}
use native.Mathlib.Omega.{arith}
use lib.ListN.{length, get_or}
use lib.Seq.{get_or-set_same}
use lib.Dec.{eqb}
use borrow.Author.Tests.{lt-ltb, eq-eqb, eqb-true}
use Rattle.wire.specs.Messages.{read_of}
use Rattle.wire.specs.declared.message.Flags.{Flags}
use Rattle.task.proofs.Ways.{never, both}
use Rattle.task.proofs.Places.{lt_or_le}
use Rattle.task.proofs.Bits.{dead_past}
use Rattle.table.specs.Tables.{no_path, path_of, is_attached, has_aca, owned_by, aca_at, marked_in, attention_gone_in, claimed_in}
use Rattle.table.specs.declared.Attention.TheVariants as attention
use Rattle.table.specs.declared.Path as path
use Rattle.table.specs.declared.Unit as unit
use Rattle.table.specs.declared.Table.{Table}
use Rattle.table.proofs.Views.{ids_length, ids_marked, accepted_only}
use Rattle.sound.proofs.Acas.{claimed_free, claimed_owned, claimed_elsewhere}
use Rattle.sound.specs.Promises.{Good}
use Rattle.rules.specs.First.{Rule}
use Rattle.rules.specs.Facts.{facts_of, lookup_of}
use Rattle.rules.specs.Promises.{seven_to_ten, reports02, holds_queue, takes, takes_attention}
use Rattle.rules.specs.declared.facts.Facts.{Facts}
use Rattle.rules.specs.declared.change.Change.TheVariants as change
use Rattle.rules.specs.declared.change.SenderChange.{SenderChange}
use Rattle.rules.specs.declared.change.SenderChange.TheVariants.{Stays, SetMark, ClearMark, ClearMarkAndAttention}
use Rattle.rules.specs.declared.change.QueueChange.TheVariants.{Leaves, Holds}
use Rattle.rules.specs.declared.command.Ruling.{Ruling}
use Rattle.rules.specs.declared.command.Ruling.TheVariants.{Refuse, Respond, Report, Invalid, Accept}
use Rattle.rules.proofs.Promises.{holds_as_asked, eight_takes_attention, attached_is_seven_to_ten, owners_alone}
use Rattle.plan.specs.Plans.{asking, asked_in, ruled, sender_after}
use Rattle.plan.specs.declared.Request.TheVariants.{Command}
use Rattle.plan.specs.declared.Answer.{Answer}
use Rattle.engine.specs.Calls.{plan_at, with_parts, with_records, carried_out, message_of}
use Rattle.engine.specs.Holding.{rule_for, says02, AcaAfter, HoldsQueue}
use Rattle.engine.specs.declared.Outcome.{Outcome}
use Rattle.engine.proofs.Outcomes.{one_asked, each_message}
use Rattle.engine.proofs.Keeps.{held_attached}

-- ---- the attention that is taken

module _ (t : Table) (g : Good t) (p : ℕ) (l : p < 8) where
  attention_gone : (sender : SenderChange) → takes sender ≡ true → (get_or (sender_after t.paths p sender) p no_path).attention ≡ attention.Nothing
  unfolding attention_gone_in
  attention_gone Stays e = absurd (never e refl)
  attention_gone SetMark e = absurd (never e refl)
  attention_gone ClearMark e = absurd (never e refl)
  attention_gone ClearMarkAndAttention e =
      rw (lt-ltb p 8 l)
      (ap (λ (a : path.Path). a.attention) (get_or-set_same (marked_in t.paths p false) p _ no_path (omega (arith, ids_length t.paths (marked_in t.paths p false) (ids_marked t.paths p false), g.shaped.paths))))

-- ---- the ruling on a command, and its plan carried out

module _ (t : Table) (g : Good t) (p tag lun : ℕ) (flags : Flags) (r : Rule) where
  -- an answer that is no STATUS 02h, and leaves the units
  quiet : {u : Table} {a : Result Answer Refusal} → u.units ≡ t.units → says02 a ≡ false → AcaAfter t u a r p lun
  quiet same other = record {
    sender = λ h. absurd (never (both (seven_to_ten r) _ h).1 other);
    its_own = λ h _ _. absurd (never (both (seven_to_ten r) _ h).1 other);
    elsewhere = λ v _. ap (λ (l : List unit.Unit). aca_at l v) same;
    no_other = λ _. same;
    records = λ h. absurd (never h other);
    rule_8 = λ h _. absurd (never h other);
    attached = λ h. absurd (never h other);
    rule_6 = λ h _. absurd (never h other);
  }

  -- what the list says of the ruling
  record Known (x : Ruling) : Type 0 where
    holds : holds_queue x ≡ (seven_to_ten r && reports02 x)
    takes_8 : takes_attention x ≡ eqb r.number 8
    holds_8 : r.number ≡ 8 → holds_queue x ≡ true
    there : reports02 x ≡ true → seven_to_ten r ≡ is_attached t lun
    not_there : reports02 x ≡ true → is_attached t lun ≡ false → r.number ≡ 6
    -- where the queue is held, the unit is one of the eight, and its ACA, if it has one, the sender's
    below : holds_queue x ≡ true → lun < 8
    owner : holds_queue x ≡ true → has_aca (aca_at t.units lun) ≡ true → owned_by (aca_at t.units lun) p ≡ true

  -- the ACA that a rule holds the queue by is the sender's
  own_aca : (x : Ruling) → Known x → holds_queue x ≡ true → (q : ℕ) → aca_at t.units lun ≡ Some q → q ≡ p
  own_aca x k h q e = eqb-true q p (sym (ap (λ (o : Option ℕ). owned_by o p) e) ∙ k.owner h (ap has_aca e))

  claimed_aca : (x : Ruling) → Known x → holds_queue x ≡ true → (o : Option ℕ) → aca_at t.units lun ≡ o → aca_at (claimed_in t.units lun p) lun ≡ Some p
  claimed_aca x k h None e = claimed_free t.units g.shaped.units lun p (k.below h) e
  claimed_aca x k h (Some q) e = claimed_owned t.units g.shaped.units lun p lun q e ∙ ap Some (own_aca x k h q e)

  ruled_aca : p < 8 → (x : Ruling) → Known x → let pl = ruled t.next p tag lun flags x in AcaAfter t (carried_out t pl) pl.answer r p lun
  unfolding carried_out with_records
  ruled_aca l (Refuse n) k = quiet refl refl
  ruled_aca l (Respond code sender) k = quiet refl refl
  ruled_aca l (Report status sense sender Leaves) k = record {
    sender = λ h. absurd (never h (sym k.holds));
    its_own = λ h _ _. absurd (never h (sym k.holds));
    elsewhere = λ _ _. refl;
    no_other = λ _. refl;
    records = λ _. (refl, refl);
    rule_8 = λ _ n. absurd (never (k.holds_8 n) refl);
    attached = k.there;
    rule_6 = k.not_there;
  }
  ruled_aca l (Report status sense sender Holds) k =
      let x : Ruling = Report status sense sender Holds in
      record {
        sender = λ _. claimed_aca x k refl (aca_at t.units lun) refl;
        its_own = λ _. own_aca x k refl;
        elsewhere = claimed_elsewhere t.units lun p;
        no_other = λ h. absurd (never (sym k.holds) h);
        records = λ _. (refl, refl);
        rule_8 = λ _ n. (sym k.holds, attention_gone t g p l sender (k.takes_8 ∙ eq-eqb _ _ n));
        attached = k.there;
        rule_6 = k.not_there;
      }
  ruled_aca l (Invalid sender) k = quiet refl refl
  ruled_aca l Accept k = quiet (ap (λ (x : Table). x.units) (accepted_only (with_parts t (change.OfSender p ClearMark)) p tag lun _ _).rest) refl

module _ (t : Table) (g : Good t) (b : t.attached < 2 ^ 8) (m : List ℕ) (path tag lun : ℕ) (flags : Flags) where
  abbrev p : ℕ
  p = path_of t path

  abbrev f : Facts
  f = facts_of t p tag lun

  abbrev decider : Rule
  decider = rule_for t m path tag lun flags

  -- a byte has no bit past 7
  below_8 : is_attached t lun ≡ true → lun < 8
  below_8 h = elim (lt_or_le lun 8) [
    | inl l ↦ l
    | inr past ↦ absurd (never h (dead_past 8 t.attached lun b past))
  ]

  known : Known t g p tag lun flags decider decider.gives
  unfolding facts_of
  known = record {
    holds = holds_as_asked f flags m;
    takes_8 = eight_takes_attention.taken f flags m;
    holds_8 = eight_takes_attention.held f flags m;
    there = attached_is_seven_to_ten.either f flags m;
    not_there = attached_is_seven_to_ten.rule_6 f flags m;
    below = λ h. below_8 (held_attached f flags m h);
    owner = owners_alone f flags m;
  }

  abbrev After : Outcome → Type 0
  After o = AcaAfter t o.table o.answer decider p lun

  message_aca : asked_in (read_of m) ≡ Ok (asking path tag (Command lun flags)) → (n : ℕ) → After (message_of t m n)
  unfolding plan_at lookup_of
  message_aca e =
      each_message After t (λ _. quiet t g p tag lun flags decider refl refl) m
      (λ path2 tag2 w h l.
      let same = one_asked path tag path2 tag2 (Command lun flags) w h e in
      rw (same.0, same.1, same.2) (ruled_aca t g p tag lun flags decider (rw same.0 at l) decider.gives known))

pub holds_queue_law : HoldsQueue
holds_queue_law t m buf o left path tag lun flags c =
    subst (λ (q : Outcome). AcaAfter t q.table q.answer (rule_for t m path tag lun flags) (path_of t path) lun) (sym c.call.outcome)
    (message_aca t c.good c.byte m path tag lun flags c.asks (length buf))
