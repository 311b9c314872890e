-- The row of a code in the table of messages, the message of a row, and what is read, case by case.
-- Assumes nothing.
use Rattle.std.specs.Prelude.{ℕ, ◌≤◌, ◌<◌, ◌≡◌, false, not, List, Option, Some, None, Result, Ok, Err, length, get_or, ltb, eqb, nat_lt}
use Rattle.std.proofs.lemmas.List.Sums.{prefix_len-le-length, passes_at_first}
use Rattle.std.proofs.lemmas.Option.{none-some, same_Some}
use mathlib.Core.Path.{sym, ◌∙◌, subst}
use native.Mathlib.Omega.{arith}
use borrow.Author.Tests.{le-ltb, ltb-true, ltb-false, eq-eqb, ne_eqb, eqb-true, eqb-false, not-true, not-false}
use Rattle.wire.specs.Codes.{too_short, not_handled, sms_code}
use Rattle.wire.specs.Fields.{byte, joined, word, long}
use Rattle.wire.specs.Messages.{codes, rows, row_of, row_found, length_of, flags_of, confirm_of, fields_of, read_of}
use Rattle.wire.proofs.Table.{cond_ind}
use Rattle.wire.specs.declared.codes.Refusal.{Refusal}
use Rattle.wire.specs.declared.message.Flags.{Flags}
use Rattle.wire.specs.declared.message.Message.{Message}
use Rattle.wire.specs.declared.message.Message.TheVariants.{Command, AbortTask, AbortTaskSet, ClearTaskSet, TargetReset, ClearAca, UnitReset}

-- ---- the row of a code

-- no code has a row past the table's end
within : (code : ℕ) → row_of code ≤ rows
within code = prefix_len-le-length (λ c. not (eqb c code)) codes

-- a row that is found is the code's, and one of the table; where none is found, the code has none
module _ (code : ℕ) {r : Option ℕ} (e : r ≡ row_found code) where
  found : {row : ℕ} → r ≡ Some row → (row ≡ row_of code) × (row < rows)
  found {row} s =
      cond_ind (λ x. x ≡ Some row → (row ≡ row_of code) × (row < rows)) (nat_lt (row_of code) rows)
      (λ l q. let k : row_of code ≡ row = same_Some _ _ q in (sym k, subst (λ n. n < rows) k (ltb-true _ _ l))) (λ _ q. absurd (none-some _ q))
      (sym e ∙ s)

  pub row_is : {row : ℕ} → r ≡ Some row → row ≡ row_of code
  row_is s = (found s).0

  pub in_table : {row : ℕ} → r ≡ Some row → row < rows
  in_table s = (found s).1

  pub none_found : r ≡ None → row_of code ≡ rows
  none_found s =
      cond_ind (λ x. x ≡ None → row_of code ≡ rows) (nat_lt (row_of code) rows)
      (λ _ q. absurd (none-some _ (sym q))) (λ g _. omega (arith, within code, ltb-false _ _ g)) (sym e ∙ s)

-- at the place of a code stands the code
pub place_holds : (code : ℕ) → row_of code < rows → get_or codes (row_of code) 0 ≡ code
place_holds code h = eqb-true _ _ (passes_at_first (λ c. eqb c code) codes 0 h)

-- ---- the message of a row

module _ (m : List ℕ) {row tag path : ℕ} (t : tag ≡ word m 2) (p : path ≡ long m 4) where
  pub command : {lun b : ℕ} {f : Flags} → row ≡ 0 → lun ≡ byte m 8 → f ≡ flags_of b → b ≡ byte m 10 → Command tag path lun f ≡ fields_of row m
  unfolding fields_of
  command e el ef eb = rw (e, t, p, el, ef, eb)

  pub confirm : {x : Message} → row ≡ 1 → x ≡ confirm_of tag path m → x ≡ fields_of row m
  unfolding fields_of
  confirm e ex = rw (e, ex, t, p)

  pub abort_task : {tag2 a b : ℕ} → row ≡ 2 → tag2 ≡ joined a b → a ≡ byte m 8 → b ≡ byte m 9 → AbortTask tag path tag2 ≡ fields_of row m
  unfolding fields_of
  abort_task e e2 ea eb = rw (e, t, p, e2, ea, eb)

  pub abort_set : {lun : ℕ} → row ≡ 3 → lun ≡ byte m 8 → AbortTaskSet tag path lun ≡ fields_of row m
  unfolding fields_of
  abort_set e el = rw (e, t, p, el)

  pub clear_set : {lun : ℕ} → row ≡ 4 → lun ≡ byte m 8 → ClearTaskSet tag path lun ≡ fields_of row m
  unfolding fields_of
  clear_set e el = rw (e, t, p, el)

  pub target_reset : row ≡ 5 → TargetReset tag path ≡ fields_of row m
  unfolding fields_of
  target_reset e = rw (e, t, p)

  pub clear_aca : {lun : ℕ} → row ≡ 6 → lun ≡ byte m 8 → ClearAca tag path lun ≡ fields_of row m
  unfolding fields_of
  clear_aca e el = rw (e, t, p, el)

  pub unit_reset : {lun : ℕ} → (row ≡ 0 → ⊥) → (row ≡ 1 → ⊥) → (row ≡ 2 → ⊥) → (row ≡ 3 → ⊥) → (row ≡ 4 → ⊥) → (row ≡ 5 → ⊥) → (row ≡ 6 → ⊥)
      → lun ≡ byte m 8 → UnitReset tag path lun ≡ fields_of row m
  unfolding fields_of
  unit_reset a b c d e f g el = rw (t, p, el) (simp (ne_eqb _ _ a, ne_eqb _ _ b, ne_eqb _ _ c, ne_eqb _ _ d, ne_eqb _ _ e, ne_eqb _ _ f, ne_eqb _ _ g))

-- ---- what is read

lt_eqb : (row n : ℕ) → row < n → eqb row n ≡ false
lt_eqb row n h = ne_eqb row n (λ e. omega arith)

module _ (m : List ℕ) (h : 2 ≤ length m) where
  pub not_ours : (byte m 0 ≡ sms_code → ⊥) → Err not_handled ≡ read_of m
  unfolding read_of
  not_ours n = simp (le-ltb _ _ h, ne_eqb _ _ n)

  module _ (e : byte m 0 ≡ sms_code) where
    pub no_row : row_of (byte m 1) ≡ rows → Err not_handled ≡ read_of m
    unfolding read_of
    no_row z = simp (le-ltb _ _ h, eq-eqb _ _ e, eq-eqb _ _ z)

    module _ {row : ℕ} (r : row ≡ row_of (byte m 1)) (z : row < rows) where
      pub whole : {x : Message} → length_of row ≤ length m → x ≡ fields_of row m → Ok x ≡ read_of m
      unfolding read_of
      whole l f = rw f (simp (le-ltb _ _ h, eq-eqb _ _ e, ← r, lt_eqb _ _ z, le-ltb _ _ l))

-- one of the four ways out, with what the tests on it found
module _ (P : Result Message Refusal → Type 0) (m : List ℕ) where
  pub each_reading : P (Err too_short)
      → (2 ≤ length m → (byte m 0 ≡ sms_code → ⊥) → P (Err not_handled))
      → (2 ≤ length m → byte m 0 ≡ sms_code → row_of (byte m 1) ≡ rows → P (Err not_handled))
      → (2 ≤ length m → byte m 0 ≡ sms_code → row_of (byte m 1) < rows → length_of (row_of (byte m 1)) ≤ length m → P (Ok (fields_of (row_of (byte m 1)) m)))
      → P (read_of m)
  unfolding read_of
  each_reading refused ours row message =
      cond_ind P (ltb (length m) 2) (λ _. refused)
      (λ h. cond_ind P (not (eqb (byte m 0) sms_code)) (λ n. ours (ltb-false _ _ h) (eqb-false _ _ (not-true _ n)))
      (λ e. cond_ind P (eqb (row_of (byte m 1)) rows) (λ z. row (ltb-false _ _ h) (eqb-true _ _ (not-false _ e)) (eqb-true _ _ z))
      (λ z. cond_ind P (ltb (length m) (length_of (row_of (byte m 1)))) (λ _. refused)
      (λ l. message (ltb-false _ _ h) (eqb-true _ _ (not-false _ e)) (omega (arith, within (byte m 1), eqb-false _ _ z)) (ltb-false _ _ l)))))
