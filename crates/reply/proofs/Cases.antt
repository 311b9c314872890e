-- What the reader finds, case by case.
-- Assumes nothing.
use Prim.Native.Nat.{ℕ, ◌≤◌}
use Rattle.std.proofs.Common.{Result, Err}
use mathlib.Core.Path.{◌≡◌, ◌∙◌}
use mathlib.Core.Bool.{not}
use mathlib.Core.List.{List}
use lib.ListN.{length}
use lib.Dec.{ltb, eqb}
use borrow.Author.Tests.{not-true, not-false, le-ltb, ltb-false, eq-eqb, ne_eqb, eqb-true, eqb-false}
use Rattle.wire.specs.Codes.{too_short, not_handled, sms_code, scsi_response, scsi_status}
use Rattle.wire.specs.declared.codes.Refusal.{Refusal}
use Rattle.wire.specs.Fields.{byte}
use Rattle.wire.proofs.Table.{cond_ind}
use Rattle.reply.specs.Replies.{response_length, status_length}
use Rattle.reply.specs.Calls.{fitted, as_response, as_status, found_in}
use Rattle.reply.specs.declared.Reply.{Reply}

module _ (b : List ℕ) (h : 2 ≤ length b) where
  pub not_ours : (byte b 0 ≡ sms_code → ⊥) → Err not_handled ≡ found_in b
  unfolding found_in
  not_ours n = simp (le-ltb _ _ h, ne_eqb _ _ n)

  module _ (e : byte b 0 ≡ sms_code) where
    pub whole_response : {f : Result Reply Refusal} {r : Reply} → byte b 1 ≡ scsi_response → response_length ≤ length b → r ≡ as_response b → f ≡ fitted r b → f ≡ found_in b
    unfolding found_in
    whole_response k l q p = p ∙ rw q (simp (le-ltb _ _ h, eq-eqb _ _ e, eq-eqb _ _ k, le-ltb _ _ l))

    module _ (x : byte b 1 ≡ scsi_response → ⊥) where
      pub whole_status : {f : Result Reply Refusal} {r : Reply} → byte b 1 ≡ scsi_status → status_length ≤ length b → r ≡ as_status b → f ≡ fitted r b → f ≡ found_in b
      unfolding found_in
      whole_status k l q p = p ∙ rw q (simp (le-ltb _ _ h, eq-eqb _ _ e, ne_eqb _ _ x, eq-eqb _ _ k, le-ltb _ _ l))

      pub other : (byte b 1 ≡ scsi_status → ⊥) → Err not_handled ≡ found_in b
      unfolding found_in
      other k = simp (le-ltb _ _ h, eq-eqb _ _ e, ne_eqb _ _ x, ne_eqb _ _ k)

-- one of the ways out, with what the tests on it found
module _ (P : Result Reply Refusal → Type 0) (b : List ℕ) where
  pub each_finding : P (Err too_short)
      → (2 ≤ length b → (byte b 0 ≡ sms_code → ⊥) → P (Err not_handled))
      → (2 ≤ length b → byte b 0 ≡ sms_code → byte b 1 ≡ scsi_response → response_length ≤ length b → P (fitted (as_response b) b))
      → (2 ≤ length b → byte b 0 ≡ sms_code → (byte b 1 ≡ scsi_response → ⊥) → byte b 1 ≡ scsi_status → status_length ≤ length b → P (fitted (as_status b) b))
      → (2 ≤ length b → byte b 0 ≡ sms_code → (byte b 1 ≡ scsi_response → ⊥) → (byte b 1 ≡ scsi_status → ⊥) → P (Err not_handled))
      → P (found_in b)
  unfolding found_in
  each_finding refused ours response status rest =
      cond_ind P (ltb (length b) 2) (λ _. refused)
      (λ h. cond_ind P (not (eqb (byte b 0) sms_code)) (λ n. ours (ltb-false _ _ h) (eqb-false _ _ (not-true _ n)))
      (λ e. cond_ind P (eqb (byte b 1) scsi_response)
      (λ k. cond_ind P (ltb (length b) response_length) (λ _. refused)
      (λ l. response (ltb-false _ _ h) (eqb-true _ _ (not-false _ e)) (eqb-true _ _ k) (ltb-false _ _ l)))
      (λ x. cond_ind P (eqb (byte b 1) scsi_status)
      (λ k. cond_ind P (ltb (length b) status_length) (λ _. refused)
      (λ l. status (ltb-false _ _ h) (eqb-true _ _ (not-false _ e)) (eqb-false _ _ x) (eqb-true _ _ k) (ltb-false _ _ l)))
      (λ k. rest (ltb-false _ _ h) (eqb-true _ _ (not-false _ e)) (eqb-false _ _ x) (eqb-false _ _ k)))))
