-- The ACA of a unit where one is claimed and where one goes. Assumes nothing.
use Rattle.std.specs.Prelude.{Some, None}
use Prim.Native.Nat.{ℕ, zero, suc, ◌<◌}
use mathlib.Core.Path.{◌≡◌, refl, ap, ◌∙◌}
use mathlib.Core.Bool.{cond}
use mathlib.Core.List.{List}
use native.Mathlib.Decide.{ℕ_discrete}
use native.Mathlib.Omega.{arith}
use lib.ListN.{length, get_or, set, replicate, get_or-eq_default}
use lib.Seq.{get_or-set_same, get_or-set_other}
use lib.Dec.{ltb}
use borrow.Author.Tests.{lt-ltb, ltb-true, ltb-false}
use Rattle.std.specs.Prelude.{Some, None}
use Rattle.wire.proofs.Table.{cond_ind}
use Rattle.table.specs.Tables.{no_unit, aca_at, claimed_unit, claimed_in, aca_cleared_in, reset_of}
use Rattle.table.specs.declared.Unit as unit
use Rattle.table.specs.declared.Table.{Table}

-- one unit changes
module _ (units : List unit.Unit) (lun : ℕ) (a : unit.Unit) where
  abbrev changed : List unit.Unit
  changed = cond (ltb lun 8) (set units lun a) units

  at_other : (u : ℕ) → (u ≡ lun → ⊥) → aca_at changed u ≡ aca_at units u
  at_other u n =
      cond_ind (λ (l : List unit.Unit). aca_at l u ≡ aca_at units u) (ltb lun 8) (λ _. ap (λ (b : unit.Unit). b.aca) (get_or-set_other units lun u a no_unit n)) (λ _. refl)

pub claimed_elsewhere : (units : List unit.Unit) (lun p u : ℕ) → (u ≡ lun → ⊥) → aca_at (claimed_in units lun p) u ≡ aca_at units u
unfolding claimed_in
claimed_elsewhere units lun p u n = at_other units lun (claimed_unit p (get_or units lun no_unit)) u n

module _ (units : List unit.Unit) (whole : length units ≡ 8) (lun p : ℕ) where
  claimed_here : lun < 8 → aca_at (claimed_in units lun p) lun ≡ (claimed_unit p (get_or units lun no_unit)).aca
  unfolding claimed_in
  claimed_here l =
      rw (lt-ltb lun 8 l) (ap (λ (a : unit.Unit). a.aca) (get_or-set_same units lun (claimed_unit p (get_or units lun no_unit)) no_unit (omega (arith, whole))))

  pub claimed_free : lun < 8 → aca_at units lun ≡ None → aca_at (claimed_in units lun p) lun ≡ Some p
  claimed_free l e = claimed_here l ∙ rw e

  -- who owns the ACA of a unit owns it still
  pub claimed_owned : (u q : ℕ) → aca_at units u ≡ Some q → aca_at (claimed_in units lun p) u ≡ Some q
  unfolding claimed_in
  claimed_owned u q e = elim (ℕ_discrete u lun) [
    | yes same ↦ rw same (cond_ind (λ (l : List unit.Unit). aca_at l lun ≡ Some q) (ltb lun 8)
        (λ b. ap (λ (x : unit.Unit). x.aca) (get_or-set_same units lun (claimed_unit p (get_or units lun no_unit)) no_unit (omega (arith, whole, ltb-true lun 8 b))) ∙ rw (rw same at e))
        (λ _. rw same at e))
    | no other ↦ at_other units lun (claimed_unit p (get_or units lun no_unit)) u other ∙ e
  ]

-- where one goes the unit has none, and where all go no unit has
none_there : (n u : ℕ) → aca_at (replicate n no_unit) u ≡ None
none_there zero u = refl
none_there (suc n) zero = refl
none_there (suc n) (suc u) = none_there n u

pub cleared_here : (units : List unit.Unit) (lun : ℕ) → length units ≡ 8 → aca_at (aca_cleared_in units (Some lun)) lun ≡ None
unfolding aca_cleared_in
cleared_here units lun whole =
    cond_ind (λ (l : List unit.Unit). aca_at l lun ≡ None) (ltb lun 8)
    (λ b. ap (λ (x : unit.Unit). x.aca) (get_or-set_same units lun no_unit no_unit (omega (arith, whole, ltb-true lun 8 b))))
    (λ b. ap (λ (x : unit.Unit). x.aca) (get_or-eq_default units no_unit (omega (arith, whole, ltb-false lun 8 b))))

pub cleared_all : (units : List unit.Unit) (u : ℕ) → aca_at (aca_cleared_in units None) u ≡ None
unfolding aca_cleared_in
cleared_all units u = none_there 8 u

pub reset_all : (t : Table) (u : ℕ) → aca_at (reset_of t).units u ≡ None
unfolding reset_of
reset_all t u = none_there 8 u

pub cleared_elsewhere : (units : List unit.Unit) (lun u : ℕ) → (u ≡ lun → ⊥) → aca_at (aca_cleared_in units (Some lun)) u ≡ aca_at units u
unfolding aca_cleared_in
cleared_elsewhere units lun u n = at_other units lun no_unit u n
