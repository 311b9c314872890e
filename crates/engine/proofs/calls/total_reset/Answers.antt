-- `calls::total_reset` meets its contract. Assumes nothing.
use mathlib.Core.Path.{◌≡◌}
use lib.ListN.{length}
use borrow.Author.Rules.{rules}
use Rattle.table.proofs.Lists.{unmapped}
use Rattle.engine.proofs.Calling.{reset_refused, resets}
use Rattle.engine.proofs.calls.total_reset.Goals as goal

pub returns-then-not-is_sound : goal.returns-then-not-is_sound
returns-then-not-is_sound c = reset_refused c.args.t c.is_sound.ensures c.if-not-is_sound.true c.refused.ensures

pub returns : goal.returns
returns c =
    let n : length c.args.t.tasks ≡ 64 = search (rules, unmapped) in
    resets c.args.t c.is_sound.ensures c.if-not-is_sound.false c.running_among-stops.ensures c.give_reset_attention-t.ensures c.clear_aca-t.ensures c.step-t.ensures c.gone.ensures n
