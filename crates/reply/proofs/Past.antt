-- Bytes past a reply are not read.
-- Assumes nothing.
use Prim.Native.Nat.{ℕ, ◌≤◌, ◌<◌}
use Rattle.std.proofs.Common.{Err}
use mathlib.Core.Path.{◌≡◌, refl, sym, ◌∙◌}
use mathlib.Core.List.{List, ◌++◌}
use lib.ListN.{length}
use lib.Dec.{eqb, lit<}
use native.Mathlib.Omega.{arith}
use Rattle.std.proofs.lemmas.List.{take-append-le}
use Rattle.wire.specs.Codes.{too_short, return_code, invalid_field, status_byte, sense}
use Rattle.wire.specs.Fields.{byte, word}
use Rattle.wire.proofs.Table.{cond_ind}
use Rattle.wire.proofs.Past.{same, longer}
use Rattle.reply.specs.Replies.{bytes_of, response_length, status_length}
use Rattle.reply.specs.Calls.{fitted, as_response, as_status, found_in}
use Rattle.reply.specs.Promises.{PastIsNotRead}
use Rattle.reply.specs.declared.Reply.{Reply}
use Rattle.reply.proofs.Cases.{not_ours, whole_response, whole_status, other, each_finding}
use Rattle.reply.proofs.Promises.{response_length_law, status_length_law, invalid_length}

fitted_same : (r : Reply) (b rest : List ℕ) → length (bytes_of r) ≤ length b → fitted r b ≡ fitted r (b ++ rest)
unfolding fitted
fitted_same r b rest h = rw (take-append-le (length (bytes_of r)) b rest h)

module _ (b rest : List ℕ) where
  response_same : response_length ≤ length b → as_response b ≡ as_response (b ++ rest)
  response_same h = rw (same b rest 2 (omega arith), same b rest 3 (omega arith), same b rest 4 (omega arith))

  status_same : status_length ≤ length b → as_status b ≡ as_status (b ++ rest)
  status_same h =
      let byte-same : (k : ℕ) → k < 26 → byte (b ++ rest) k ≡ byte b k = λ k l. same b rest k (omega arith) in
      rw (byte-same 2 (lit< tt), byte-same 3 (lit< tt), byte-same 4 (lit< tt), byte-same 6 (lit< tt), byte-same 10 (lit< tt), byte-same 20 (lit< tt), byte-same 21 (lit< tt))

  fits_response : response_length ≤ length b → fitted (as_response b) b ≡ fitted (as_response b) (b ++ rest)
  fits_response h = fitted_same (as_response b) b rest (omega (arith, response_length_law (word b 2) (return_code (byte b 4))))

  fits_status : status_length ≤ length b → fitted (as_status b) b ≡ fitted (as_status b) (b ++ rest)
  fits_status h = fitted_same (as_status b) b rest (omega (arith, either_length))
    where
      either_length : length (bytes_of (as_status b)) ≡ status_length
      either_length =
          cond_ind (λ r. length (bytes_of r) ≡ status_length) (eqb (byte b 6) invalid_field.0) (λ _. invalid_length (word b 2))
          (λ _. status_length_law (word b 2) (status_byte (byte b 4)) (sense (byte b 10) (byte b 20) (byte b 21)))

  module _ (h : 2 ≤ length b) where
    two : 2 ≤ length (b ++ rest)
    two = longer b rest 2 h

    sms : byte (b ++ rest) 0 ≡ byte b 0
    sms = same b rest 0 (omega arith)

    s3p : byte (b ++ rest) 1 ≡ byte b 1
    s3p = same b rest 1 h

    s3p_not : {n : ℕ} → (byte b 1 ≡ n → ⊥) → byte (b ++ rest) 1 ≡ n → ⊥
    s3p_not x e = x (sym s3p ∙ e)

  past : (found_in b ≡ Err too_short → ⊥) → found_in (b ++ rest) ≡ found_in b
  past =
      let w : List ℕ = b ++ rest in
      each_finding (λ f. (f ≡ Err too_short → ⊥) → found_in w ≡ f) b (λ n. absurd (n refl))
      (λ h n _. sym (not_ours w (two h) (λ e. n (sym (sms h) ∙ e))))
      (λ h e k l _. sym (whole_response w (two h) (sms h ∙ e) (s3p h ∙ k) (longer b rest response_length l) (response_same l) (fits_response l)))
      (λ h e x k l _. sym (whole_status w (two h) (sms h ∙ e) (s3p_not h x) (s3p h ∙ k) (longer b rest status_length l) (status_same l) (fits_status l)))
      (λ h e x k _. sym (other w (two h) (sms h ∙ e) (s3p_not h x) (s3p_not h k)))

pub past_is_not_read : PastIsNotRead
past_is_not_read = past
