-- `records_ok` meets its contract. The loop's invariant: every record below i is in order. Assumes nothing.
use Rattle.task.proofs.Loops.{all_loop}
use Rattle.sound.specs.Sound.{records_ok}
use Rattle.sound.proofs.records_ok.Goals as goal

pub returns-then-not-record_ok : goal.returns-then-not-record_ok
unfolding records_ok
returns-then-not-record_ok c = search all_loop
