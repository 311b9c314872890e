-- The ledgers of two hosts that count their tags alike, and what the calls say that they ended: computed, and by demand
-- 3 the last tables agree with the ledgers. Assumes nothing.
use mathlib.Core.Path.{refl}
use native.Mathlib.Omega.{arith}
use Rattle.history.specs.TwoHosts.{hosts, two_hosts, TwoHostsLedger, TwoHostsSay, at_work, AtWorkSay, confirmed_two_hosts, ConfirmedLedger}
use Rattle.history.proofs.Computing.{computing}
use Rattle.history.proofs.Demand.{engine_agrees}

pub two_hosts_law : TwoHostsLedger
unfolding computing two_hosts
two_hosts_law = record { entered = refl; agrees = engine_agrees hosts 0x01 1 two_hosts (omega arith) }

pub confirmed_two_hosts_law : ConfirmedLedger
unfolding computing confirmed_two_hosts
confirmed_two_hosts_law = record { entered = refl; agrees = engine_agrees hosts 0x01 1 confirmed_two_hosts (omega arith) }

pub two_hosts_say : TwoHostsSay
unfolding computing two_hosts
two_hosts_say = refl

pub at_work_say : AtWorkSay
unfolding computing at_work
at_work_say = refl
