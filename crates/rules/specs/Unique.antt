-- Each public function's contract determines its answer: two answers that are each what it says are equal.
use Rattle.std.specs.Prelude.{ℕ, Bool, cond, List}
use Rattle.wire.specs.declared.message.Flags.{Flags}
use Rattle.wire.specs.Unique.{One}
use Rattle.table.specs.Tables.{others_on}
use Rattle.table.specs.declared.Table.{Table}
use Rattle.rules.specs.Facts.{lookup_of, unit_alone}
use Rattle.rules.specs.Rules.{deciding, decision}
use Rattle.rules.specs.Management.{ends_of, tag_of, unit_of, is_clear_set, by_unit, order_code, order_change}
use Rattle.rules.specs.declared.facts.Facts.{Facts}
use Rattle.rules.specs.declared.manage.Order.{Order}

pub record AnswersAreOne : Type 0 where
  pub look_up_is_one : (t : Table) (p tag lun : ℕ) (clears : Bool) → One (lookup_of t p tag lun (cond clears (others_on t lun p) 0))
  pub unit_alone_is_one : (attached : Bool) (others : ℕ) → One (unit_alone attached others)
  pub decide_is_one : (f : Facts) (g : Flags) (m : List ℕ) → One (decision (deciding f g m))
  pub ends_is_one : (p : ℕ) (o : Order) → One (ends_of p o)
  pub tag_of_is_one : (o : Order) → One (tag_of o)
  pub unit_of_is_one : (o : Order) → One (unit_of o)
  pub clears_set_is_one : (o : Order) → One (is_clear_set o)
  pub goes_by_unit_is_one : (o : Order) → One (by_unit o)
  pub order_code_is_one : (f : Facts) (m : List ℕ) (o : Order) → One (order_code f m o)
  pub order_change_is_one : (others : ℕ) (o : Order) → One (order_change others o)
