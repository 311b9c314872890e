-- The definitions that a trace computes with, for the proofs by computation: those of a call, and those of the trace.
-- Assumes nothing.
use Rattle.task.specs.Index.{sum}
use Rattle.task.specs.Map.{live_count}
use Rattle.table.specs.Tables.{reset_of}
use Rattle.table.specs.View.{at, weight}
use Rattle.engine.specs.Calls.{total_reset_of}
use Rattle.engine.proofs.Computing.{computing as call}
use Rattle.history.specs.Trace.{nth, fate_of, place_in}
use Rattle.history.specs.Ledger.{after_effect, noted, ledger_from, total}
use Rattle.history.specs.Demand.{last_table}
use Rattle.history.specs.Drives.{engine, calls_of}

-- to unfold this name is to unfold all that stand here
unfoldable pub computing : Unit {0}
unfolding call sum live_count reset_of at weight total_reset_of nth fate_of place_in after_effect noted ledger_from total last_table engine calls_of
computing = tt
