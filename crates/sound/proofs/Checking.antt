-- The clauses that the check's walks ask at each place. Assumes nothing.
use Prim.Native.Nat.{ℕ, ◌<◌}
use mathlib.Core.Path.{◌≡◌, refl, sym, ◌∙◌}
use mathlib.Core.Bool.{Bool, true, false, not, ◌||◌}
use lib.Dec.{eqb, ltb}
use native.Mathlib.Omega.{arith}
use borrow.Author.Tests.{ltb-false, ne_eqb, not-true}
use Rattle.std.specs.Prelude.{Option, Some}
use Rattle.std.specs.Option.{option_eq}
use Rattle.wire.proofs.Table.{cond_ind}
use Rattle.task.specs.Index.{some_below}
use Rattle.table.specs.Tables.{path_at, unit_at, task_at, aca_at, path_of, if_listed}
use Rattle.sound.specs.Sound.{is_no_path, record_ok, unit_ok, clash_of}
use Rattle.table.specs.declared.Table.{Table}

-- ---- the clauses that a walk asks at each place

module _ (t : Table) where
  abbrev pub first_with_id : ℕ → Bool
  first_with_id p = not (ltb p t.count) || eqb (path_of t (path_at t p).id) p

  abbrev pub used_or_zero : ℕ → Bool
  used_or_zero p = ltb p t.count || is_no_path (path_at t p)

  abbrev pub record_fine : ℕ → Bool
  record_fine i = record_ok t.live t.next t.count t.attached (aca_at t.units (task_at t i).unit) i (task_at t i)

  abbrev pub unit_fine : ℕ → Bool
  unit_fine u = unit_ok t.count t.attached u (unit_at t u)

  abbrev pub clash_at : ℕ → ℕ → Bool
  clash_at i j = clash_of t.live i (task_at t i) j (task_at t j)

  abbrev pub clash_below : ℕ → Bool
  clash_below i = some_below i (clash_at i)

-- ---- a listed place, as it is answered, held against one below 8

listed_eq : (k p : ℕ) → p < 8 → option_eq eqb (if_listed k) (Some p) ≡ eqb k p
listed_eq k p l =
    cond_ind (λ (o : Option ℕ). option_eq eqb o (Some p) ≡ eqb k p) (ltb k 8) (λ _. refl)
    (λ g. sym (ne_eqb k p (λ e. omega (arith, ltb-false k 8 g, e, l))))

pub listed_other : {o : Option ℕ} {b : Bool} {p : ℕ} (k : ℕ) → o ≡ if_listed k → b ≡ not (option_eq eqb o (Some p)) → b ≡ true → p < 8 → false ≡ eqb k p
listed_other {o} {b} {p} k e d h l = sym (sym (listed_eq k p l) ∙ not-true _ (rw (← e) (sym d ∙ h)))
