-- Which tasks an order picks to end: nine orders of one path over tasks of two.
use Rattle.std.specs.Prelude.{ℕ, ◌≡◌, Bool, true, false, List, [], ◌∷◌, map}
use Rattle.task.specs.Selections.{picks}
use Rattle.task.specs.declared.Task.{Task}
use Rattle.wire.specs.declared.codes.Kind.{Kind}
use Rattle.wire.specs.declared.codes.Kind.TheVariants.{Aca, Simple}
use Rattle.task.specs.declared.Phase.{Phase}
use Rattle.task.specs.declared.Phase.TheVariants.{Waiting, Unconfirmed}
use Rattle.task.specs.declared.Sequel.TheVariants.{Confirm}
use Rattle.rules.specs.Management.{ends_of}
use Rattle.rules.specs.declared.manage.Order.{Order}
use Rattle.rules.specs.declared.manage.Order.TheVariants.{AbortTask, AbortTaskSet, ClearTaskSet, ClearAca, UnitReset, TargetReset}

abbrev pub task : ℕ → ℕ → ℕ → ℕ → Kind → Phase → Task
task arrival tag path unit kind phase = record {
  arrival = arrival;
  position = 0;
  tag = tag;
  path = path;
  unit = unit;
  kind = kind;
  phase = phase;
  sequel = Confirm;
}

-- tag 0005h of the paths at 0 and 1 on unit 0, the second unconfirmed, and tag 0006h of the path at 1, the ACA task,
-- on unit 1
unfoldable pub shared : List Task
shared = task 1 5 0 0 Simple Waiting ∷ task 2 5 1 0 Simple Unconfirmed ∷ task 3 6 1 1 Aca Waiting ∷ []

-- an order, and whether it ends each of the three
pub record Example : Type 0 where
  pub order : Order
  pub ended : List Bool

abbrev pub ends : Order → Bool → Bool → Bool → Example
ends o first second third = record { order = o; ended = first ∷ second ∷ third ∷ [] }

unfoldable pub examples : List Example
examples =
    ends (AbortTask 5) false true false
    ∷ ends (AbortTask 6) false false true
    ∷ ends (AbortTask 7) false false false
    ∷ ends (AbortTaskSet 0) false true false
    ∷ ends (ClearTaskSet 0) true true false
    ∷ ends (ClearAca 0) false false false
    ∷ ends (ClearAca 1) false false true
    ∷ ends (UnitReset 0) true true false
    ∷ ends TargetReset true true true
    ∷ []

-- each order of the path at 1 picks the tasks said
abbrev pub OrdersPick : Type 0
OrdersPick =
    map (λ (e : Example). map (λ (a : Task). picks (ends_of 1 e.order) a) shared) examples ≡ map (λ (e : Example). e.ended) examples
