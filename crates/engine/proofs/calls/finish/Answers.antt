-- `calls::finish` meets its contract. Assumes nothing.
use Rattle.engine.proofs.Calling.{answers, unwritten, finish_refused, finish_done}
use Rattle.engine.proofs.calls.finish.Goals as goal

pub returns-in-Err : goal.returns-in-Err
returns-in-Err c =
    answers (finish_refused _ _ _ _ _ _ c.is_sound.ensures c.running_as.ensures c.pick-running.ensures c.judge.ensures c.in-Err.is c.refused.ensures)
    (rw c.refused.ensures (unwritten c.args.t c.in-Err.n c.args.reply.now))

pub returns : goal.returns
returns c =
    answers (finish_done _ _ _ _ _ _ c.is_sound.ensures c.running_as.ensures c.pick-running.ensures c.judge.ensures c.in-Ok.is c.sent_sense.ensures c.eq-failed.ensures
    c.path_at-to.ensures c.finish_units-t.ensures c.finish_step.ensures c.step-t.ensures c.gone.ensures) c.reply_to.ensures
