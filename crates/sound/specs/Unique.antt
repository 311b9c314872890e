-- Each public function's contract determines its answer: two answers that are each what it says are equal. Proved in
-- proofs/Unique.antt.
use Rattle.wire.specs.Unique.{One}
use Rattle.task.specs.declared.Task.{Task}
use Rattle.table.specs.declared.Table.{Table}
use Rattle.sound.specs.Sound.{is_no_task, sound_of}

pub record AnswersAreOne : Type 0 where
  pub is_no_task_is_one : (a : Task) → One (is_no_task a)
  pub is_sound_is_one : (t : Table) → One (sound_of t)
