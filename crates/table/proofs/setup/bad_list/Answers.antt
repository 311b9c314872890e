-- `setup::bad_list` meets its contract. The loop's invariant: no id below i stands among those before it. Assumes
-- nothing.
use Rattle.task.proofs.Ways.{ways}
use Rattle.table.specs.Setup.{bad_list}
use Rattle.table.proofs.Setting.{bad_ways}
use Rattle.table.proofs.setup.bad_list.Goals as goal

pub returns-then-contains : goal.returns-then-contains
unfolding bad_list
returns-then-contains c = search (ways, bad_ways)
