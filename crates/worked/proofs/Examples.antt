-- Page 01's examples, its worked calls, which answers hold the queue, confirmed status, what each order ends and says
-- that it ended, computed. Assumes nothing.
use mathlib.Core.Path.{refl}
use Rattle.engine.proofs.Computing.{computing as call}
use Rattle.worked.specs.Examples.{quiet, tasks_from, full, examples, holdings, running, waits, underway, unconfirmed, again8, confirmations, shared, orders, busy, ExamplesHold, WorkedCalls, ClearedCalls, HoldingsHold, AgainPasses, RunsOn, ConfirmationsHold, ConfirmedCalls, OrdersEnd, OrdersSay}

-- the definitions of the calls and of the examples
unfoldable computing : Unit {0}
unfolding call quiet tasks_from full examples holdings running waits underway unconfirmed again8 confirmations shared orders busy
computing = tt

pub examples_hold : ExamplesHold
unfolding computing
examples_hold = refl

pub worked_calls : WorkedCalls
unfolding computing
worked_calls = refl

pub cleared_calls : ClearedCalls
unfolding computing
cleared_calls = refl

pub holdings_hold : HoldingsHold
unfolding computing
holdings_hold = refl

pub again_passes : AgainPasses
unfolding computing
again_passes = (refl, refl)

pub runs_on : RunsOn
unfolding computing
runs_on = (refl, refl)

pub confirmations_hold : ConfirmationsHold
unfolding computing
confirmations_hold = refl

pub confirmed_calls : ConfirmedCalls
unfolding computing
confirmed_calls = refl

pub orders_end : OrdersEnd
unfolding computing
orders_end = refl

pub orders_say : OrdersSay
unfolding computing
orders_say = refl
