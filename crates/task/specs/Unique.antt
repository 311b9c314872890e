-- Each public function's contract determines its answer: two answers that are each what it says are equal. Proved in
-- proofs/Unique.antt.
use Rattle.std.specs.Prelude.{ℕ, List}
use Rattle.task.specs.Tasks.{no_task, is_aca, is_waiting, is_running, is_end, has_confirm}
use Rattle.task.specs.Map.{is_live, lowest_free, live_count, with_bit, without_bit, gone}
use Rattle.task.specs.Selections.{picks_live, named, numbered_as, on_unit, from_on, aca_on, aca_from_on, running_on, waiting_on, aca_waiting_on, running_as}
use Rattle.task.specs.Scan.{scan}
use Rattle.wire.specs.Unique.{One}
use Rattle.wire.specs.declared.codes.Kind.{Kind}
use Rattle.task.specs.declared.Phase.{Phase}
use Rattle.task.specs.declared.Sequel.{Sequel}
use Rattle.task.specs.declared.Task.{Task}
use Rattle.task.specs.declared.select.Selection.{Selection}

pub record AnswersAreOne : Type 0 where
  pub no_task_is_one : One no_task
  pub is_aca_is_one : (k : Kind) → One (is_aca k)
  pub is_waiting_is_one : (p : Phase) → One (is_waiting p)
  pub is_running_is_one : (p : Phase) → One (is_running p)
  pub is_end_is_one : (s : Sequel) → One (is_end s)
  pub has_confirm_is_one : (s : Sequel) → One (has_confirm s)
  pub lowest_free_is_one : (live : ℕ) → One (lowest_free live)
  pub live_count_is_one : (live : ℕ) → One (live_count live)
  pub is_live_is_one : (live i : ℕ) → One (is_live live i)
  pub with_bit_is_one : (live i : ℕ) → One (with_bit live i)
  pub without_bit_is_one : (live i : ℕ) → One (without_bit live i)
  pub gone_is_one : (before after : ℕ) → One (gone before after)
  pub named_is_one : (path tag : ℕ) → One (named path tag)
  pub numbered_as_is_one : (arrival path tag : ℕ) → One (numbered_as arrival path tag)
  pub on_unit_is_one : (unit : ℕ) → One (on_unit unit)
  pub from_on_is_one : (path unit : ℕ) → One (from_on path unit)
  pub aca_on_is_one : (unit : ℕ) → One (aca_on unit)
  pub aca_from_on_is_one : (path unit : ℕ) → One (aca_from_on path unit)
  pub running_on_is_one : (unit : ℕ) → One (running_on unit)
  pub waiting_on_is_one : (unit : ℕ) → One (waiting_on unit)
  pub aca_waiting_on_is_one : (unit : ℕ) → One (aca_waiting_on unit)
  pub running_as_is_one : (arrival : ℕ) → One (running_as arrival)
  pub picked_live_is_one : (live : ℕ) (s : Selection) (i : ℕ) (a : Task) → One (picks_live live s i a)
  pub next_of_is_one : (tasks : List Task) (live : ℕ) (s : Selection) → One (scan live s tasks)
