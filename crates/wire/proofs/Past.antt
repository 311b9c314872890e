-- Bytes past the specified length are not read.
-- Assumes nothing.
use Prim.Native.Nat.{ℕ, ◌+◌, ◌-◌, ◌/◌, ◌≤◌, ◌<◌}
use mathlib.Core.Path.{◌≡◌, refl, sym, ap, ◌∙◌, subst}
use mathlib.Core.Bool.{true, false}
use mathlib.Core.List.{List, ◌++◌}
use Rattle.std.specs.Prelude.{Result, Err}
use lib.ListN.{length, get_or, take, drop, length-append, length-drop, get_or-append}
use lib.Seq.{take-append-le, drop-append-le}
use lib.Dec.{leb, eqb, lit<}
use native.Mathlib.Omega.{arith}
use borrow.Author.Tests.{leb-true, le-ltb, ltb-false, eqb-true, eqb-false}
use Rattle.wire.specs.Codes.{too_short, scsi_command, confirm_status}
use Rattle.wire.specs.Fields.{byte, word, long}
use Rattle.wire.specs.Messages.{lengths, rows, row_of, length_of, confirm_of, fields_of, read_of, command_reserved, confirm_reserved, reserved_set}
use Rattle.wire.specs.Block.{block_lengths, block_length, opcode, cut_short, no_block, linked, block_of}
use Rattle.wire.specs.Promises.{Whole, PastIsNotRead}
use Rattle.wire.specs.declared.codes.Refusal.{Refusal}
use Rattle.wire.specs.declared.message.Message.{Message}
use Rattle.wire.proofs.Table.{at, cond_ind, cond_same, neither}
use Rattle.wire.proofs.Rows.{command, confirm, abort_task, abort_set, clear_set, target_reset, clear_aca, unit_reset}
use Rattle.wire.proofs.Rows.{not_ours, no_row, whole, each_reading}
use Rattle.wire.proofs.Blocks as blocks

module _ (m rest : List ℕ) where
  -- a byte of m, and a length that m has
  pub same : (k : ℕ) → k < length m → byte (m ++ rest) k ≡ byte m k
  same k h = get_or-append m rest 0 k h

  pub longer : (n : ℕ) → n ≤ length m → n ≤ length (m ++ rest)
  longer n h = omega (arith, length-append m rest)

  -- ---- the fields

  module _ (row : ℕ) (r : row < rows) (h : length_of row ≤ length m) where
    -- every row has 8 bytes at least
    eight : 8 ≤ length m
    eight = omega (arith, h, leb-true 8 (length_of row) (at 0 (λ _ x. leb 8 x) lengths refl row (λ g. absurd (omega arith))))

    tag : word (m ++ rest) 2 ≡ word m 2
    tag = rw (same 2 (omega (arith, eight)), same 3 (omega (arith, eight)))

    path : long (m ++ rest) 4 ≡ long m 4
    path = rw (same 4 (omega (arith, eight)), same 5 (omega (arith, eight)), same 6 (omega (arith, eight)), same 7 (omega (arith, eight)))

    -- a byte within the length that the row needs
    has : (k n : ℕ) → row ≡ n → k < length_of n → byte (m ++ rest) k ≡ byte m k
    has k n e l = let g : length_of n ≤ length m = rw e at h in same k (omega arith)

    -- and the numbers of CONFIRM STATUS, from byte 8 to its last
    confirm_same : row ≡ 1 → confirm_of (word (m ++ rest) 2) (long (m ++ rest) 4) (m ++ rest) ≡ confirm_of (word (m ++ rest) 2) (long (m ++ rest) 4) m
    confirm_same e =
        let at_1 : (k : ℕ) → k < 17 → byte (m ++ rest) k ≡ byte m k = λ k. has k 1 e in
        rw (at_1 8 (lit< tt), at_1 9 (lit< tt), at_1 10 (lit< tt), at_1 11 (lit< tt), at_1 12 (lit< tt), at_1 13 (lit< tt), at_1 14 (lit< tt), at_1 15 (lit< tt), at_1 16 (lit< tt))

    fields_same : fields_of row (m ++ rest) ≡ fields_of row m
    unfolding fields_of
    fields_same =
        let P : Message → Type 0 = λ x. x ≡ fields_of row m in
        let is : (n : ℕ) → eqb row n ≡ true → row ≡ n = eqb-true row in
        let is_not : (n : ℕ) → eqb row n ≡ false → row ≡ n → ⊥ = eqb-false row in
        cond_ind P (eqb row 0) (λ e. command m tag path (is 0 e) (has 8 0 (is 0 e) (lit< tt)) refl (has 10 0 (is 0 e) (lit< tt)))
        (λ a. cond_ind P (eqb row 1) (λ e. confirm m tag path (is 1 e) (confirm_same (is 1 e)))
        (λ b. cond_ind P (eqb row 2) (λ e. abort_task m tag path (is 2 e) refl (has 8 2 (is 2 e) (lit< tt)) (has 9 2 (is 2 e) (lit< tt)))
        (λ c. cond_ind P (eqb row 3) (λ e. abort_set m tag path (is 3 e) (has 8 3 (is 3 e) (lit< tt)))
        (λ d. cond_ind P (eqb row 4) (λ e. clear_set m tag path (is 4 e) (has 8 4 (is 4 e) (lit< tt)))
        (λ f. cond_ind P (eqb row 5) (λ e. target_reset m tag path (is 5 e))
        (λ g. cond_ind P (eqb row 6) (λ e. clear_aca m tag path (is 6 e) (has 8 6 (is 6 e) (lit< tt)))
        (λ h.
        let four : 4 ≤ row = omega (arith, is_not 0 a, is_not 1 b, is_not 2 c, is_not 3 d) in
        let seven : row ≡ 7 = omega (arith, r, is_not 4 f, is_not 5 g, is_not 6 h) in
        unit_reset m {row = row} tag path (is_not 0 a) (is_not 1 b) (is_not 2 c) (is_not 3 d) (is_not 4 f) (is_not 5 g) (is_not 6 h) (has 8 7 seven (lit< tt)))))))))

  fields : (read_of m ≡ Err too_short → ⊥) → read_of (m ++ rest) ≡ read_of m
  fields =
      each_reading (λ (r : Result Message Refusal). (r ≡ Err too_short → ⊥) → read_of (m ++ rest) ≡ r) m (λ n. absurd (n refl))
      (λ h n _. sym (not_ours (m ++ rest) (longer 2 h) (λ e. n (sym (same 0 (omega arith)) ∙ e))))
      (λ h e z _. sym (no_row (m ++ rest) (longer 2 h) (same 0 (omega arith) ∙ e) (sym (row_same h) ∙ z)))
      (λ h e z l _. sym (whole (m ++ rest) (longer 2 h) (same 0 (omega arith) ∙ e) (row_same h) z (longer _ l) (sym (fields_same _ z l))))
    where
      row_same : 2 ≤ length m → row_of (byte m 1) ≡ row_of (byte (m ++ rest) 1)
      row_same h = ap row_of (sym (same 1 h))

  -- ---- the block

  module _ (w : cut_short m ≡ false) where
    whole_block : (17 ≤ length m) × (16 + block_length m ≤ length m)
    unfolding cut_short
    whole_block = let p = neither _ _ w in (ltb-false _ _ p.0, ltb-false _ _ p.1)

    first : opcode (m ++ rest) ≡ opcode m
    first = same 16 whole_block.0

    length_same : block_length m ≡ block_length (m ++ rest)
    length_same = ap (λ b. get_or block_lengths (b / 32) 0) (sym first)

    cut : cut_short (m ++ rest) ≡ false
    cut = sym (blocks.bytes (m ++ rest) length_same (longer 17 whole_block.0)) ∙ le-ltb _ _ (longer _ whole_block.1)

    group : no_block (m ++ rest) ≡ no_block m
    group = sym (blocks.group (m ++ rest) length_same) ∙ blocks.group m refl

    last : linked (m ++ rest) ≡ linked m
    unfolding linked no_block
    last = rw (first, same (15 + block_length m) (omega (arith, whole_block.1)))

    block : block_of (m ++ rest) ≡ block_of m
    block =
        let p = blocks.part (m ++ rest) length_same (longer 17 whole_block.0) (longer _ whole_block.1) in
        let q = blocks.part m refl whole_block.0 whole_block.1 in
        let n : ℕ = 16 + block_length m - 16 in
        let l : n ≤ length (drop 16 m) = omega (arith, length-drop 16 m, whole_block.1) in
        sym p ∙ ap (take n) (drop-append-le 16 m rest (omega (arith, whole_block.0))) ∙ take-append-le n (drop 16 m) rest l ∙ q

  -- ---- the reserved fields

  -- the two codes are there, and the length that the row needs
  abbrev Long : Type 0
  Long = (2 ≤ length m) × (length_of (row_of (byte m 1)) ≤ length m)

  long_enough : ((n : Refusal) → read_of m ≡ Err n → ⊥) → Long
  long_enough =
      each_reading (λ r. ((n : Refusal) → r ≡ Err n → ⊥) → Long) m (λ n. absurd (n _ refl)) (λ _ _ n. absurd (n _ refl)) (λ _ _ _ n. absurd (n _ refl)) (λ h _ _ l _. (h, l))

  reserved : Whole m → reserved_set (m ++ rest) ≡ reserved_set m
  unfolding reserved_set command_reserved confirm_reserved
  reserved w =
      let l = long_enough w.fields in
      rw (same 1 l.0)
      (cond_same (eqb (byte m 1) scsi_command) (λ e.
      let l : 17 ≤ length m = (whole_block (w.block (eqb-true _ _ e))).0 in
      rw (same 9 (omega arith), same 10 (omega arith), same 11 (omega arith), same 14 (omega arith), same 15 (omega arith)))
      (λ _. cond_same (eqb (byte m 1) confirm_status) (λ e. rw (same 16 (subst (λ (b : ℕ). length_of (row_of b) ≤ length m) (eqb-true (byte m 1) confirm_status e) l.1))) (λ _. refl)))

pub past_is_not_read : PastIsNotRead
past_is_not_read = record {
  read = fields;
  reserved_set_past = reserved;
  cut_short_past = cut;
  first_byte = first;
  no_length = group;
  is_linked = last;
  command_block = block;
}
