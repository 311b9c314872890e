-- Which tasks a selection picks: each of its five parts asks for something or, as None, for nothing.
use Rattle.std.specs.Prelude.{ℕ, Bool, true, ◌&&◌, eqb, Option, Some, None}
use Rattle.task.specs.Tasks.{kind_number, phase_number}
use Rattle.task.specs.Map.{is_live}
use Rattle.wire.specs.declared.codes.Kind.{Kind}
use Rattle.wire.specs.declared.codes.Kind.TheVariants as kind
use Rattle.task.specs.declared.Phase.{Phase}
use Rattle.task.specs.declared.Phase.TheVariants as phase
use Rattle.task.specs.declared.Task.{Task}
use Rattle.task.specs.declared.select.Whose.{Whose}
use Rattle.task.specs.declared.select.Whose.TheVariants.{Anyone, From, Named}
use Rattle.task.specs.declared.select.Selection.{Selection}

-- a part asks for nothing, or for what is the same as x
abbrev pub asked : {A : Type 0} → (A → A → Bool) → Option A → A → Bool
asked same None x = true
asked same (Some y) x = same x y

abbrev pub number_asked : Option ℕ → ℕ → Bool
number_asked None arrival = true
number_asked (Some n) arrival = eqb arrival n

-- a tag means nothing without its path
abbrev pub whose_asked : Whose → ℕ → ℕ → Bool
whose_asked Anyone path tag = true
whose_asked (From p) path tag = eqb path p
whose_asked (Named p t) path tag = eqb path p && eqb tag t

abbrev pub place_asked : Option ℕ → ℕ → Bool
place_asked None unit = true
place_asked (Some u) unit = eqb unit u

abbrev pub sort_asked : Option Kind → Kind → Bool
sort_asked None k = true
sort_asked (Some j) k = eqb (kind_number k) (kind_number j)

abbrev pub stage_asked : Option Phase → Phase → Bool
stage_asked None p = true
stage_asked (Some q) p = eqb (phase_number p) (phase_number q)

unfoldable pub picks : Selection → Task → Bool
picks s a =
    number_asked s.number a.arrival && (whose_asked s.whose a.path a.tag
    && (place_asked s.unit a.unit && (sort_asked s.kind a.kind && stage_asked s.phase a.phase)))

-- record i is live and holds a task that is picked
abbrev pub picks_live : ℕ → Selection → ℕ → Task → Bool
picks_live live s i a = is_live live i && picks s a

-- ---- the selections that the rules speak of

abbrev pub select : Option ℕ → Whose → Option ℕ → Option Kind → Option Phase → Selection
select number whose unit kind phase = record { number = number; whose = whose; unit = unit; kind = kind; phase = phase }

abbrev pub every_task : Selection
every_task = select None Anyone None None None

-- the task of a path with a tag, on any unit
abbrev pub named : ℕ → ℕ → Selection
named path tag = select None (Named path tag) None None None

-- the same with an arrival number
abbrev pub numbered_as : ℕ → ℕ → ℕ → Selection
numbered_as arrival path tag = select (Some arrival) (Named path tag) None None None

-- all tasks on a unit, and those of one path there
abbrev pub on_unit : ℕ → Selection
on_unit unit = select None Anyone (Some unit) None None

abbrev pub from_on : ℕ → ℕ → Selection
from_on path unit = select None (From path) (Some unit) None None

-- the ACA task on a unit, and that of one path there
abbrev pub aca_on : ℕ → Selection
aca_on unit = select None Anyone (Some unit) (Some kind.Aca) None

abbrev pub aca_from_on : ℕ → ℕ → Selection
aca_from_on path unit = select None (From path) (Some unit) (Some kind.Aca) None

-- what runs on a unit, what waits there, and the ACA task that waits there
abbrev pub running_on : ℕ → Selection
running_on unit = select None Anyone (Some unit) None (Some phase.Running)

abbrev pub waiting_on : ℕ → Selection
waiting_on unit = select None Anyone (Some unit) None (Some phase.Waiting)

abbrev pub aca_waiting_on : ℕ → Selection
aca_waiting_on unit = select None Anyone (Some unit) (Some kind.Aca) (Some phase.Waiting)

-- the running task with an arrival number
abbrev pub running_as : ℕ → Selection
running_as arrival = select (Some arrival) Anyone None None (Some phase.Running)
