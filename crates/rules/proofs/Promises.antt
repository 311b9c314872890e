-- The field behind rule 3; which rules hold the queue and take the attention, by the list. Assumes nothing.
use Prim.Native.Nat.{ℕ, ◌/◌, ◌%◌}
use mathlib.Core.Path.{◌≡◌, refl, sym, ap, ◌∙◌}
use mathlib.Core.Bool.{Bool, true, false, cond, not, ◌&&◌, ◌||◌}
use mathlib.Core.List.{List, [], ◌∷◌, ◌++◌}
use mathlib.Core.Logic.{inl, inr}
use lib.Dec.{eqb, leb}
use borrow.Author.Tests.{not-true, not-false, eq-eqb, eqb-true}
use Rattle.wire.specs.Codes
use Rattle.wire.specs.Fields.{byte}
use Rattle.wire.specs.Messages.{command_reserved, reserved_set}
use Rattle.wire.specs.declared.message.Flags.{Flags}
use Rattle.task.proofs.Ways.{either_way, never, both, either}
use Rattle.rules.specs.First.{Rule, rule, first_that}
use Rattle.rules.specs.Rules.{first_set, kept_out_by_aca, room_rules, field_rules, unit_rules, block_rules, command_rules, accepts, deciding}
use Rattle.rules.specs.Promises.{ReservedIsTheField, seven_to_ten, reports02, holds_queue, HoldsAsAsked, takes_attention, EightTakesAttention, AttachedIsSevenToTen, OwnersAlone}
use Rattle.rules.specs.declared.facts.Facts.{Facts}
use Rattle.rules.specs.declared.change.SenderChange.TheVariants.{ClearMark}
use Rattle.rules.specs.declared.change.QueueChange.TheVariants.{Leaves}
use Rattle.rules.specs.declared.command.Ruling.TheVariants.{Report}
use Rattle.rules.proofs.Entries.{every_rule, first_meets, first_applies, cut_at}

abbrev is_set : ℕ → Bool
is_set x = not (eqb x 0)

-- some field is not zero
abbrev any_set : List ℕ → Bool
any_set [] = false
any_set (x ∷ xs) = is_set x || any_set xs

first_is_set : (xs : List ℕ) → any_set xs ≡ is_set (first_set xs)
first_is_set [] = refl
first_is_set (x ∷ xs) = by (eqb x 0) refl (first_is_set xs)
  where
    by : (b : Bool) → eqb x 0 ≡ b → any_set xs ≡ is_set (first_set xs) → (not b || any_set xs) ≡ is_set (cond b (first_set xs) x)
    by true e h = h
    by false e h = rw e

five : (a b c d e : ℕ) → (is_set a || is_set b || is_set c || is_set d || is_set e) ≡ is_set (first_set (a ∷ b ∷ c ∷ d ∷ e ∷ []))
five a b c d e = joined (is_set a) (is_set b) (is_set c) (is_set d) (is_set e) ∙ first_is_set (a ∷ b ∷ c ∷ d ∷ e ∷ [])
  where
    joined : (a b c d e : Bool) → (a || b || c || d || e) ≡ (a || (b || (c || (d || (e || false)))))
    joined true b c d e = refl
    joined false true c d e = refl
    joined false false true d e = refl
    joined false false false true e = refl
    joined false false false false true = refl
    joined false false false false false = refl

pub reserved_is_the_field : ReservedIsTheField
unfolding reserved_set command_reserved
reserved_is_the_field m e = rw (eq-eqb _ _ e) (five (byte m 9) (byte m 10 / 4 % 4) (byte m 11) (byte m 14) (byte m 15))

-- ---- the list's columns: a test that every rule meets is met by the one that decides

abbrev same : Bool → Bool → Bool
same a b = cond a b (not b)

same_is : (a b : Bool) → same a b ≡ true → a ≡ b
same_is true true e = refl
same_is true false e = sym e
same_is false true e = e
same_is false false e = refl

-- of two tests the first implies the second
abbrev implies : Bool → Bool → Bool
implies a b = cond a b true

implied : (a b : Bool) → implies a b ≡ true → a ≡ true → b ≡ true
implied true b e h = e
implied false b e h = absurd (never h refl)

-- rule 6
abbrev six : Facts → List ℕ → Rule
six f m = rule 6 (not f.attached) (byte m 8) (Report Codes.check_condition Codes.no_such_unit ClearMark Leaves)

-- and rule 7, where the unit has ACA
abbrev seven : Facts → Flags → List ℕ → Rule
seven f g m = rule 7 (kept_out_by_aca f g) (byte m 10) (Report Codes.aca_active Codes.no_sense ClearMark Leaves)

module _ (f : Facts) (g : Flags) (m : List ℕ) where
  abbrev rules : List Rule
  rules = command_rules f g m

  holds_so : holds_queue (deciding f g m).gives ≡ (seven_to_ten (deciding f g m) && reports02 (deciding f g m).gives)
  unfolding every_rule command_rules room_rules field_rules unit_rules block_rules
  holds_so = same_is _ _ (first_meets (λ (r : Rule). same (holds_queue r.gives) (seven_to_ten r && reports02 r.gives)) rules (accepts m) refl refl)

  takes_so : takes_attention (deciding f g m).gives ≡ eqb (deciding f g m).number 8
  unfolding every_rule command_rules room_rules field_rules unit_rules block_rules
  takes_so = same_is _ _ (first_meets (λ (r : Rule). same (takes_attention r.gives) (eqb r.number 8)) rules (accepts m) refl refl)

  eight_holds : (deciding f g m).number ≡ 8 → holds_queue (deciding f g m).gives ≡ true
  unfolding every_rule command_rules room_rules field_rules unit_rules block_rules
  eight_holds e =
      implied _ _ (first_meets (λ (r : Rule). implies (eqb r.number 8) (holds_queue r.gives)) rules (accepts m) refl refl) (eq-eqb _ _ e)

  -- an attached unit: rule 6 does not apply, and STATUS 02h is given by rules 7 to 10 alone
  abbrev behind_six : Rule → Bool
  behind_six r = implies (reports02 r.gives) (seven_to_ten r || not r.applies)

  past_six : f.attached ≡ true → reports02 (deciding f g m).gives ≡ true → seven_to_ten (deciding f g m) ≡ true
  unfolding every_rule command_rules room_rules field_rules unit_rules block_rules
  past_six a h =
      let r : Rule = deciding f g m in
      elim (either (seven_to_ten r) (not r.applies) (implied (reports02 r.gives) _ (first_meets behind_six rules (accepts m) (rw a) refl) h)) [
        | inl s ↦ s
        | inr n ↦ absurd (never (first_applies rules (accepts m) refl) (not-true _ n))
      ]

  -- one that is not: no rule behind rule 6 is looked at, and it alone of those gives STATUS 02h
  cut_at_six : f.attached ≡ false → deciding f g m ≡ first_that (room_rules f g m ++ field_rules f g m) (six f m)
  unfolding command_rules room_rules field_rules unit_rules block_rules
  cut_at_six a = cut_at (room_rules f g m ++ field_rules f g m) (six f m) _ (accepts m) (rw a)

  is_six : f.attached ≡ false → reports02 (deciding f g m).gives ≡ true → (deciding f g m).number ≡ 6
  unfolding every_rule room_rules field_rules
  is_six a h =
      eqb-true _ _
      (implied _ _
      (rw (cut_at_six a) (first_meets (λ (r : Rule). implies (reports02 r.gives) (eqb r.number 6)) (room_rules f g m ++ field_rules f g m) (six f m) refl refl)) h)

  attached_so : (b : Bool) → f.attached ≡ b → reports02 (deciding f g m).gives ≡ true → seven_to_ten (deciding f g m) ≡ b
  attached_so true a h = past_six a h
  attached_so false a h = ap (λ (n : ℕ). leb 7 n && leb n 10) (is_six a h)

  -- where rule 7 keeps a command out, no rule up to it holds the queue
  kept_out_so : kept_out_by_aca f g ≡ true → holds_queue (deciding f g m).gives ≡ false
  unfolding every_rule command_rules room_rules field_rules unit_rules block_rules
  kept_out_so k =
      let front : List Rule = room_rules f g m ++ (field_rules f g m ++ (six f m ∷ [])) in
      let cut : deciding f g m ≡ first_that front (seven f g m) = cut_at front (seven f g m) _ (accepts m) k in
      not-true _ (rw cut (first_meets (λ (r : Rule). not (holds_queue r.gives)) front (seven f g m) refl refl))

  owners_so : holds_queue (deciding f g m).gives ≡ true → f.aca ≡ true → f.owned ≡ true
  unfolding kept_out_by_aca
  owners_so h a = elim (either_way (kept_out_by_aca f g)) [
    | inl k ↦ absurd (never h (kept_out_so k))
    | inr k ↦ (both f.owned _ (not-false _ (rw a at k))).0
  ]

pub holds_as_asked : HoldsAsAsked
holds_as_asked f g m = holds_so f g m

pub eight_takes_attention : EightTakesAttention
eight_takes_attention = record { taken = λ f g m. takes_so f g m; held = λ f g m. eight_holds f g m }

pub attached_is_seven_to_ten : AttachedIsSevenToTen
attached_is_seven_to_ten = record { either = λ f g m h. attached_so f g m f.attached refl h; rule_6 = λ f g m h a. is_six f g m a h }

pub owners_alone : OwnersAlone
owners_alone f g m = owners_so f g m
