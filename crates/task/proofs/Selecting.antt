-- What a selection picks: by its parts, and as plain facts for each selection that the rules speak of. Assumes
-- nothing.
use Prim.Native.Nat.{ℕ}
use mathlib.Core.Path.{◌≡◌, refl, ap, ◌∙◌}
use mathlib.Core.Bool.{Bool, true, ◌&&◌, and-true}
use lib.Dec.{eqb}
use Rattle.task.specs.Tasks.{kind_number, phase_number, is_aca, is_running}
use Rattle.task.specs.Selections.{number_asked, whose_asked, place_asked, sort_asked, stage_asked, picks, every_task, named, on_unit, aca_on, aca_from_on, running_on}
use Rattle.wire.specs.declared.codes.Kind.{Kind}
use Rattle.wire.specs.declared.codes.Kind.TheVariants as kind
use Rattle.task.specs.declared.Phase.{Phase}
use Rattle.task.specs.declared.Phase.TheVariants as phase
use Rattle.task.specs.declared.Task.{Task}
use Rattle.task.specs.declared.select.Selection.{Selection}
use Rattle.task.proofs.Ways.{both}

-- ---- by parts

pub record Meets (s : Selection) (a : Task) : Type 0 where
  pub number : number_asked s.number a.arrival ≡ true
  pub whose : whose_asked s.whose a.path a.tag ≡ true
  pub place : place_asked s.unit a.unit ≡ true
  pub sort : sort_asked s.kind a.kind ≡ true
  pub stage : stage_asked s.phase a.phase ≡ true

pub meets : (s : Selection) (a : Task) → picks s a ≡ true → Meets s a
unfolding picks
meets s a e =
    let n = both _ _ e in
    let w = both _ _ n.1 in
    let p = both _ _ w.1 in
    let k = both _ _ p.1 in
    record { number = n.0; whose = w.0; place = p.0; sort = k.0; stage = k.1 }

-- ---- kinds and phases

pub aca_number : (k : Kind) → eqb (kind_number k) 0 ≡ is_aca k
aca_number kind.Aca = refl
aca_number kind.Head = refl
aca_number kind.Ordered = refl
aca_number kind.Simple = refl

pub running_number : (p : Phase) → eqb (phase_number p) 1 ≡ is_running p
running_number phase.Waiting = refl
running_number phase.Running = refl
running_number phase.Unconfirmed = refl

-- ---- the selections that the rules speak of

module _ (a : Task) where
  pub picks_every : picks every_task a ≡ true
  unfolding picks
  picks_every = refl

  pub picks_named : (path tag : ℕ) → picks (named path tag) a ≡ (eqb a.path path && eqb a.tag tag)
  unfolding picks
  picks_named path tag = and-true _

  pub picks_on : (unit : ℕ) → picks (on_unit unit) a ≡ eqb a.unit unit
  unfolding picks
  picks_on unit = and-true _

  pub picks_aca_on : (unit : ℕ) → picks (aca_on unit) a ≡ (eqb a.unit unit && is_aca a.kind)
  unfolding picks
  picks_aca_on unit = ap (λ (b : Bool). eqb a.unit unit && b) (and-true _ ∙ aca_number a.kind)

  pub picks_aca_from_on : (path unit : ℕ) → picks (aca_from_on path unit) a ≡ (eqb a.path path && (eqb a.unit unit && is_aca a.kind))
  unfolding picks
  picks_aca_from_on path unit = ap (λ (b : Bool). eqb a.path path && (eqb a.unit unit && b)) (and-true _ ∙ aca_number a.kind)

  pub picks_running_on : (unit : ℕ) → picks (running_on unit) a ≡ (eqb a.unit unit && is_running a.phase)
  unfolding picks
  picks_running_on unit = ap (λ (b : Bool). eqb a.unit unit && b) (running_number a.phase)
