-- Which tasks each order picks, computed. Assumes nothing.
use mathlib.Core.Path.{refl}
use Rattle.task.specs.Selections.{picks}
use Rattle.rules.specs.Examples.{shared, examples, OrdersPick}

pub orders_pick : OrdersPick
unfolding picks shared examples
orders_pick = refl
