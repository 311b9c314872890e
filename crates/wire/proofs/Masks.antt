-- The table of masks says what tables 5 and 11 say of the reserved fields, and a walk over a row's masks finds out
-- which it is. Assumes nothing.
use Prim.Native.Nat.{ℕ, zero, suc, ◌*◌, ◌/◌, ◌%◌, ◌^◌, ◌≤◌}
use mathlib.Core.Path.{◌≡◌, refl, sym, ◌∙◌}
use mathlib.Core.Bool.{Bool, true, false, ◌||◌, or-true}
use mathlib.Core.List.{List, [], ◌∷◌}
use lib.ListN.{get_or, replicate}
use lib.Bits.{bit_and, and_zero_l, and_zero_r, and_high, and_mask}
use lib.Dec.{ltb, eqb}
use native.Mathlib.Omega.{arith}
use mir.Syntax.{w8}
use mir.Val.{Fits}
use borrow.Author.Tests.{le-ltb, eq-eqb, ne_eqb, eqb-true, eqb-false, not-false}
use Rattle.wire.specs.Codes.{scsi_command, confirm_status}
use Rattle.wire.specs.Fields.{byte}
use Rattle.wire.specs.Messages.{rows, row_of, command_reserved, confirm_reserved, any_masked, reserved_set}
use Rattle.wire.proofs.Table.{every, at, cond_ind, neither}

-- a mask for each of the first 17 bytes, with the reserved bits set: a command's, CONFIRM STATUS's, then those of the
-- other rows
abbrev pub width : ℕ
width = 17

abbrev command : List ℕ
command = 0 ∷ 0 ∷ 0 ∷ 0 ∷ 0 ∷ 0 ∷ 0 ∷ 0 ∷ 0 ∷ 0xff ∷ 0x0c ∷ 0xff ∷ 0 ∷ 0 ∷ 0xff ∷ 0xff ∷ 0 ∷ []

abbrev confirm : List ℕ
confirm = 0 ∷ 0 ∷ 0 ∷ 0 ∷ 0 ∷ 0 ∷ 0 ∷ 0 ∷ 0 ∷ 0 ∷ 0 ∷ 0 ∷ 0 ∷ 0 ∷ 0 ∷ 0 ∷ 0x7f ∷ []

abbrev masks : List (List ℕ)
masks = command ∷ confirm ∷ replicate 6 (replicate width 0)

-- byte i under its mask in a row
abbrev under : List ℕ → ℕ → ℕ → ℕ
under m row i = bit_and (byte m i) (get_or (get_or masks row []) i 0)

-- ---- the whole table

-- every row after the second has masks of 0
no_mask : (row i : ℕ) → 2 ≤ row → get_or (get_or masks row []) i 0 ≡ 0
no_mask row i h =
    eqb-true _ _
    (at 0 (λ _ x. eqb x 0) (get_or masks row [])
    (rw (le-ltb row 2 h) at (at [] (λ k r. ltb k 2 || every (λ _ x. eqb x 0) r) masks refl row (λ _. or-true (ltb row 2))))
    i (λ _. refl))

module _ (m : List ℕ) where
  record Zero : Type 0 where
    at9 : byte m 9 ≡ 0
    at10 : byte m 10 / 4 % 4 ≡ 0
    at11 : byte m 11 ≡ 0
    at14 : byte m 14 ≡ 0
    at15 : byte m 15 ≡ 0

  zero_fields : command_reserved m ≡ false → Zero
  unfolding command_reserved
  zero_fields e =
      let p = neither _ _ e in
      let q = neither _ _ p.0 in
      let r = neither _ _ q.0 in
      let s = neither _ _ r.0 in
      record {
        at9 = eqb-true _ _ (not-false _ s.0);
        at10 = eqb-true _ _ (not-false _ s.1);
        at11 = eqb-true _ _ (not-false _ r.1);
        at14 = eqb-true _ _ (not-false _ q.1);
        at15 = eqb-true _ _ (not-false _ p.1);
      }

  none_set : Zero → command_reserved m ≡ false
  unfolding command_reserved
  none_set z = simp (z.at9, z.at10, z.at11, z.at14, z.at15)

  -- CONFIRM STATUS has one such field
  zero_field : confirm_reserved m ≡ false → byte m 16 % 128 ≡ 0
  unfolding confirm_reserved
  zero_field e = eqb-true _ _ (not-false _ e)

  not_set : byte m 16 % 128 ≡ 0 → confirm_reserved m ≡ false
  unfolding confirm_reserved
  not_set z = simp z

  -- where the fields are zero, their row's masks pick nothing
  none_picked : Zero → (k : ℕ) → under m 0 k ≡ 0
  none_picked z k =
      eqb-true _ _
      (at 0 (λ i x. eqb (bit_and (byte m i) x) 0) command
      (simp (and_zero_r, and_high (byte m 10) 2 2, z.at9, z.at10, z.at11, z.at14, z.at15))
      k (λ _. eq-eqb _ _ (and_zero_r (byte m k))))

  not_picked : byte m 16 % 128 ≡ 0 → (k : ℕ) → under m 1 k ≡ 0
  not_picked z k =
      eqb-true _ _
      (at 0 (λ i x. eqb (bit_and (byte m i) x) 0) confirm (simp (and_zero_r, and_mask (byte m 16) 7, z)) k (λ _. eq-eqb _ _ (and_zero_r (byte m k))))

  -- and nowhere else
  all_zero : ((k : ℕ) → Fits w8 (byte m k)) → ((k : ℕ) → under m 0 k ≡ 0) → Zero
  all_zero b p =
      record {
        at9 = whole 9 (p 9);
        at10 = middle (p 10);
        at11 = whole 11 (p 11);
        at14 = whole 14 (p 14);
        at15 = whole 15 (p 15);
      }
    where
      whole : (k : ℕ) → bit_and (byte m k) 0xff ≡ 0 → byte m k ≡ 0
      whole k e = let h : byte m k % 2 ^ 8 ≡ 0 = sym (and_mask (byte m k) 8) ∙ e in omega (arith, (b k).fits)

      middle : bit_and (byte m 10) 0x0c ≡ 0 → byte m 10 / 4 % 4 ≡ 0
      middle e = let h : byte m 10 / 4 % 4 * 4 ≡ 0 = sym (and_high (byte m 10) 2 2) ∙ e in omega arith

  field_zero : ((k : ℕ) → under m 1 k ≡ 0) → byte m 16 % 128 ≡ 0
  field_zero p = sym (and_mask (byte m 16) 7) ∙ p 16

-- ---- the chain

-- it finds nothing exactly where no byte has a bit of its mask; a byte past the end is 0, and so is a mask
none_masked : (m ms : List ℕ) → any_masked m ms ≡ false → (k : ℕ) → bit_and (get_or m k 0) (get_or ms k 0) ≡ 0
none_masked [] ms e k = and_zero_l (get_or ms k 0)
none_masked (b ∷ m) [] e k = and_zero_r (get_or (b ∷ m) k 0)
none_masked (b ∷ m) (x ∷ ms) e zero = eqb-true _ _ (not-false _ (neither _ _ e).0)
none_masked (b ∷ m) (x ∷ ms) e (suc k) = none_masked m ms (neither _ _ e).1 k

all_masked : (m ms : List ℕ) → ((k : ℕ) → bit_and (get_or m k 0) (get_or ms k 0) ≡ 0) → any_masked m ms ≡ false
all_masked [] ms h = refl
all_masked (b ∷ m) [] h = refl
all_masked (b ∷ m) (x ∷ ms) h = rw (h 0) (all_masked m ms (λ k. h (suc k)))

-- two tests that come to false together are one
same_false : (a b : Bool) → (a ≡ false → b ≡ false) → (b ≡ false → a ≡ false) → a ≡ b
same_false true true f g = refl
same_false true false f g = g refl
same_false false true f g = sym (f refl)
same_false false false f g = refl

module _ (m : List ℕ) {row : ℕ} (r : row ≡ row_of (byte m 1)) where
  -- the row is a command's, that of CONFIRM STATUS, or one after them
  each_row : (P : Bool → Type 0) → (row ≡ 0 → P (command_reserved m)) → (row ≡ 1 → P (confirm_reserved m)) → (2 ≤ row → P false) → P (reserved_set m)
  unfolding reserved_set
  each_row P first second others =
      cond_ind P (eqb (byte m 1) scsi_command) (λ h. first (rw (eqb-true (byte m 1) scsi_command h) at r))
      (λ n. cond_ind P (eqb (byte m 1) confirm_status) (λ h. second (rw (eqb-true (byte m 1) confirm_status h) at r))
      (λ l.
      let k = rw (is_not scsi_command n, is_not confirm_status l) at r in
      others (omega arith)))
    where
      is_not : (code : ℕ) → eqb (byte m 1) code ≡ false → eqb code (byte m 1) ≡ false
      is_not code n = ne_eqb code (byte m 1) (λ q. eqb-false _ _ n (sym q))

  all_clear : ((k : ℕ) → Fits w8 (byte m k)) → ((i : ℕ) → under m row i ≡ 0) → reserved_set m ≡ false
  all_clear b l =
      each_row (λ b. b ≡ false)
      (λ k. none_set m (all_zero m b (λ j. rw k at (l j))))
      (λ k. not_set m (field_zero m (λ j. rw k at (l j))))
      (λ _. refl)

  quiet : reserved_set m ≡ false → (i : ℕ) → under m row i ≡ 0
  quiet =
      each_row (λ b. b ≡ false → (i : ℕ) → under m row i ≡ 0)
      (λ h z i. rw h (none_picked m (zero_fields m z) i))
      (λ h z i. rw h (not_picked m (zero_field m z) i))
      (λ h _ i. rw (no_mask row i h) (and_zero_r (byte m i)))

  -- the row's masks find what the tables say
  pub masked_is : ((k : ℕ) → Fits w8 (byte m k)) → any_masked m (get_or masks row []) ≡ reserved_set m
  masked_is b = same_false _ _ (λ z. all_clear b (none_masked m (get_or masks row []) z)) (λ z. all_masked m (get_or masks row []) (quiet z))

  pub no_row : row ≡ rows → false ≡ reserved_set m
  no_row z = each_row (λ b. false ≡ b) (λ h. absurd (omega arith)) (λ h. absurd (omega arith)) (λ _. refl)
