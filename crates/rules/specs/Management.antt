-- Management: what an order ends, which return code it gets, and what else it does to paths and units.
use Rattle.std.specs.Prelude.{ℕ, Bool, true, false, cond, not, ◌&&◌, List, Some, None}
use Rattle.wire.specs.Codes
use Rattle.wire.specs.Messages.{reserved_set}
use Rattle.wire.specs.declared.codes.ReturnCode.{ReturnCode}
use Rattle.task.specs.Selections.{every_task, named, on_unit, from_on, aca_from_on}
use Rattle.task.specs.declared.select.Selection.{Selection}
use Rattle.rules.specs.declared.facts.Facts.{Facts}
use Rattle.rules.specs.declared.change.Change.{Change}
use Rattle.rules.specs.declared.change.Change.TheVariants.{Nothing, ClearedAttention, AcaGoes, Resets}
use Rattle.rules.specs.declared.manage.Order.{Order}
use Rattle.rules.specs.declared.manage.Order.TheVariants.{AbortTask, AbortTaskSet, ClearTaskSet, ClearAca, UnitReset, TargetReset}

-- what an order of the path at p ends, taken from the order alone
abbrev pub ends_of : ℕ → Order → Selection
ends_of p (AbortTask tag2) = named p tag2
ends_of p (AbortTaskSet lun) = from_on p lun
ends_of p (ClearTaskSet lun) = on_unit lun
ends_of p (ClearAca lun) = aca_from_on p lun
ends_of p (UnitReset lun) = on_unit lun
ends_of p TargetReset = every_task

-- ---- what an order asks of the table: about the tag and the unit that it names, 0 where it names none

abbrev pub tag_of : Order → ℕ
tag_of (AbortTask tag2) = tag2
tag_of (AbortTaskSet lun) = 0
tag_of (ClearTaskSet lun) = 0
tag_of (ClearAca lun) = 0
tag_of (UnitReset lun) = 0
tag_of TargetReset = 0

abbrev pub unit_of : Order → ℕ
unit_of (AbortTask tag2) = 0
unit_of (AbortTaskSet lun) = lun
unit_of (ClearTaskSet lun) = lun
unit_of (ClearAca lun) = lun
unit_of (UnitReset lun) = lun
unit_of TargetReset = 0

-- it has a LUN field; it is CLEAR TASK SET
abbrev pub has_unit : Order → Bool
has_unit (AbortTask tag2) = false
has_unit (AbortTaskSet lun) = true
has_unit (ClearTaskSet lun) = true
has_unit (ClearAca lun) = true
has_unit (UnitReset lun) = true
has_unit TargetReset = false

abbrev pub is_clear_set : Order → Bool
is_clear_set (AbortTask tag2) = false
is_clear_set (AbortTaskSet lun) = false
is_clear_set (ClearTaskSet lun) = true
is_clear_set (ClearAca lun) = false
is_clear_set (UnitReset lun) = false
is_clear_set TargetReset = false

-- an order that goes by its unit alone, or by none: its code and what it does hang on no task of the sender's and on no
-- ACA; of the table it asks whether the unit is attached, and CLEAR TASK SET also who else has a task there
abbrev pub by_unit : Order → Bool
by_unit (AbortTask tag2) = false
by_unit (AbortTaskSet lun) = true
by_unit (ClearTaskSet lun) = true
by_unit (ClearAca lun) = false
by_unit (UnitReset lun) = true
by_unit TargetReset = true

-- ---- the return code

-- ABORT TASK: 00h, or 01h if there is none. CLEAR ACA: 00h where the sender owns the unit's ACA, else 20h. The
-- others: 00h
abbrev pub carried_code : Facts → Order → ReturnCode
carried_code f (AbortTask tag2) = cond f.taken Codes.done Codes.task_not_found
carried_code f (AbortTaskSet lun) = Codes.done
carried_code f (ClearTaskSet lun) = Codes.done
carried_code f (ClearAca lun) = cond f.owned Codes.done Codes.no_aca
carried_code f (UnitReset lun) = Codes.done
carried_code f TargetReset = Codes.done

-- a reserved field not zero, or a LUN field naming a unit not attached, gives FFh
unfoldable pub order_code : Facts → List ℕ → Order → ReturnCode
order_code f m o = cond (reserved_set m) Codes.invalid_field (cond (has_unit o && not f.attached) Codes.invalid_field (carried_code f o))

-- ---- what else an order does, where `others` is the map of the other paths that lose a task

-- CLEAR TASK SET: every other path that lost one gets cleared attention, unless reset is pending; ACA stays. CLEAR
-- ACA: the unit's ACA goes. LOGICAL UNIT RESET: the unit's ACA goes; reset attention on all paths; marks stay. TARGET
-- RESET: the same for all units. The unit whose ACA goes is Some lun; None is every unit
abbrev pub order_change : ℕ → Order → Change
order_change others (AbortTask tag2) = Nothing
order_change others (AbortTaskSet lun) = Nothing
order_change others (ClearTaskSet lun) = ClearedAttention others
order_change others (ClearAca lun) = AcaGoes lun
order_change others (UnitReset lun) = Resets (Some lun)
order_change others TargetReset = Resets None
