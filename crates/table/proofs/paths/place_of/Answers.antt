-- `paths::place_of` meets its contract. The loop's invariant: no path below p has the id. Assumes nothing.
use Rattle.task.proofs.Loops.{first_loop}
use Rattle.table.specs.Tables.{place_of}
use Rattle.table.proofs.Listed.{listed_there, listed_nowhere}
use Rattle.table.proofs.paths.place_of.Goals as goal

pub returns-then-has_id : goal.returns-then-has_id
unfolding place_of
returns-then-has_id c = search (first_loop, listed_there)

pub returns : goal.returns
unfolding place_of
returns c = search (first_loop, listed_nowhere)
