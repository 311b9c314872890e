-- Each public function's contract determines its answer: two answers that are each what it says are equal. Proved in
-- proofs/Unique.antt.
use Rattle.std.specs.Prelude.{ℕ, Bool, List, Option}
use Rattle.wire.specs.Unique.{One}
use Rattle.wire.specs.declared.codes.Kind.{Kind}
use Rattle.task.specs.declared.Sequel.{Sequel}
use Rattle.task.specs.declared.Task.{Task}
use Rattle.task.specs.declared.select.Selection.{Selection}
use Rattle.table.specs.Tables.{zero_table, path_at, unit_at, task_at, bit_of, is_attached, is_nothing, is_reset, is_cleared, has_aca, owned_by, aca_at, place_of, path_of, if_listed, pick_of, has_room}
use Rattle.table.specs.Tables.{marked_in, attention_gone_in, reset_attention_in, cleared_attention_in, claimed_in, aca_cleared_in, others_on}
use Rattle.table.specs.Tables.{accepted, ended_by, started, restarted, finished, reset_of}
use Rattle.table.specs.Steps.{stepped, finish_step, finish_units, holders_of, running_among}
use Rattle.table.specs.Setup.{bad_list, setup_table}
use Rattle.table.specs.declared.Attention.{Attention}
use Rattle.table.specs.declared.Path as path
use Rattle.table.specs.declared.Unit as unit
use Rattle.table.specs.declared.Table.{Table}
use Rattle.table.specs.declared.steps.Step.{Step}

pub record AnswersAreOne : Type 0 where
  pub path_of_is_one : (t : Table) (id : ℕ) → One (if_listed (path_of t id))
  pub path_at_is_one : (t : Table) (p : ℕ) → One (path_at t p)
  pub unit_at_is_one : (t : Table) (unit : ℕ) → One (unit_at t unit)
  pub is_attached_is_one : (t : Table) (unit : ℕ) → One (is_attached t unit)
  pub bit_of_is_one : (map i : ℕ) → One (bit_of map i)
  pub place_of_is_one : (paths : List path.Path) (count id : ℕ) → One (if_listed (place_of paths count id))
  pub is_nothing_is_one : (a : Attention) → One (is_nothing a)
  pub is_reset_is_one : (a : Attention) → One (is_reset a)
  pub is_cleared_is_one : (a : Attention) → One (is_cleared a)
  pub mark_is_one : (paths : List path.Path) (p : ℕ) (full : Bool) → One (marked_in paths p full)
  pub drop_attention_is_one : (paths : List path.Path) (p : ℕ) → One (attention_gone_in paths p)
  pub give_reset_attention_is_one : (paths : List path.Path) (count : ℕ) (unmark : Bool) → One (reset_attention_in paths count unmark)
  pub give_cleared_attention_is_one : (paths : List path.Path) (others : ℕ) → One (cleared_attention_in paths others)
  pub claim_is_one : (units : List unit.Unit) (unit path : ℕ) → One (claimed_in units unit path)
  pub clear_aca_is_one : (units : List unit.Unit) (place : Option ℕ) → One (aca_cleared_in units place)
  pub pick_is_one : (t : Table) (s : Selection) → One (pick_of t s)
  pub task_at_is_one : (t : Table) (i : ℕ) → One (task_at t i)
  pub has_room_is_one : (t : Table) → One (has_room t)
  pub accept_is_one : (t : Table) (path tag unit : ℕ) (kind : Kind) (sequel : Sequel) → One (accepted t path tag unit kind sequel)
  pub end_is_one : (t : Table) (s : Selection) → One (ended_by t s)
  pub start_is_one : (t : Table) (i : ℕ) → One (started t i)
  pub restart_is_one : (t : Table) (i offset : ℕ) → One (restarted t i offset)
  pub finish_is_one : (t : Table) (i : ℕ) (failed : Bool) (transferred : ℕ) → One (finished t i failed transferred)
  pub reset_is_one : (t : Table) → One (reset_of t)
  pub step_is_one : (t : Table) (s : Step) → One (stepped t s)
  pub finish_step_is_one : (live i : ℕ) (a : Task) (transferred : ℕ) → One (finish_step live i a transferred)
  pub finish_units_is_one : (units : List unit.Unit) (live i : ℕ) (a : Task) (failed : Bool) → One (finish_units units live i a failed)
  pub holders_is_one : (t : Table) (s : Selection) → One (holders_of t s)
  pub running_among_is_one : (t : Table) (s : Selection) → One (running_among t s)
  pub others_on_is_one : (t : Table) (unit sender : ℕ) → One (others_on t unit sender)
  pub bad_list_is_one : (ids : List ℕ) → One (bad_list ids)
  pub zero_is_one : One zero_table
  pub new_is_one : (ids : List ℕ) (attached first : ℕ) → One (setup_table ids attached first)
  pub has_aca_is_one : (aca : Option ℕ) → One (has_aca aca)
  pub owned_by_is_one : (aca : Option ℕ) (path : ℕ) → One (owned_by aca path)
  pub aca_at_is_one : (units : List unit.Unit) (unit : ℕ) → One (aca_at units unit)
