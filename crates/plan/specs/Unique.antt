-- Each public function's contract determines its answer: two answers that are each what it says are equal.
use Rattle.std.specs.Prelude.{ℕ, List}
use Rattle.wire.specs.declared.codes.Refusal.{Refusal}
use Rattle.wire.specs.declared.message.Message.{Message}
use Rattle.wire.specs.Unique.{One}
use Rattle.table.specs.declared.Path as path
use Rattle.table.specs.declared.Unit as unit
use Rattle.rules.specs.declared.facts.Lookup.{Lookup}
use Rattle.plan.specs.Plans.{asked_of, tag_asked, unit_asked, clears_set, goes_by_unit, refusing, plan_of, paths_after, units_after}
use Rattle.plan.specs.declared.Request.{Request}
use Rattle.rules.specs.declared.change.Change.{Change}

pub record AnswersAreOne : Type 0 where
  pub ask_is_one : (g : Message) → One (asked_of g)
  pub tag_asked_is_one : (tag : ℕ) (w : Request) → One (tag_asked tag w)
  pub unit_asked_is_one : (w : Request) → One (unit_asked w)
  pub clears_set_is_one : (w : Request) → One (clears_set w)
  pub goes_by_unit_is_one : (w : Request) → One (goes_by_unit w)
  pub refuse_is_one : (n : Refusal) → One (refusing n)
  pub find_plan_is_one : (s : Lookup) (next p tag : ℕ) (m : List ℕ) (w : Request) → One (plan_of s next p tag m w)
  pub change_paths_is_one : (paths : List path.Path) (count : ℕ) (c : Change) → One (paths_after paths count c)
  pub change_units_is_one : (units : List unit.Unit) (c : Change) → One (units_after units c)
