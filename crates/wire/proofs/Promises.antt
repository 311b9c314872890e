-- What is read is a refusal by 1 or 2, or bears its S3P CODE.
-- Assumes nothing.
use Rattle.std.specs.Prelude.{ℕ, ◌<◌, ◌≡◌, ◌⊎◌, List, Ok, Err, get_or, eqb}
use mathlib.Core.Logic.{inl, inr}
use mathlib.Core.Path.{refl, sym, ◌∙◌}
use native.Mathlib.Omega.{arith}
use borrow.Author.Tests.{eqb-true}
use Rattle.wire.specs.Codes.{too_short, not_handled}
use Rattle.wire.specs.Fields.{byte}
use Rattle.wire.specs.Messages.{codes, rows, row_of, fields_of}
use Rattle.wire.specs.Promises.{s3p_code, ReadByCode, ReadRefusals}
use Rattle.wire.proofs.Results.{same_Ok, same_Err, ok-err, err-ok}
use Rattle.wire.proofs.Table.{at}
use Rattle.wire.proofs.Rows.{place_holds, each_reading}

-- the message of a row bears the row's code
row_code : (m : List ℕ) (row : ℕ) → row < rows → get_or codes row 0 ≡ s3p_code (fields_of row m)
unfolding fields_of s3p_code
row_code m row h = eqb-true _ _ (at 0 (λ k x. eqb x (s3p_code (fields_of k m))) codes refl row (λ g. absurd (omega arith)))

pub read_by_code : ReadByCode
read_by_code m r =
    each_reading (λ x. x ≡ Ok r → s3p_code r ≡ byte m 1) m (λ e. absurd (err-ok e)) (λ _ _ e. absurd (err-ok e)) (λ _ _ _ e. absurd (err-ok e))
    (λ _ _ h _ e. rw (← same_Ok _ _ e) (sym (row_code m (row_of (byte m 1)) h) ∙ place_holds (byte m 1) h))

pub read_refusals : ReadRefusals
read_refusals m =
    λ n. each_reading (λ r. r ≡ Err n → (n ≡ too_short) ⊎ (n ≡ not_handled)) m (λ e. inl (sym (same_Err _ _ e))) (λ _ _ e. inr (sym (same_Err _ _ e)))
    (λ _ _ _ e. inr (sym (same_Err _ _ e))) (λ _ _ _ _ e. absurd (ok-err e))
