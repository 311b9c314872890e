-- `input::number::groups`: the groups that are left fall with each call. Assumes nothing.
use Rattle.input.proofs.number.+groups.Given as goal

abbrev pub decreases-groups : goal.decreases-groups
decreases-groups l = l.left
