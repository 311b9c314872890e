-- `calls::message` meets its contract. Assumes nothing.
use mathlib.Core.Bool.{cond}
use mathlib.Core.Path.{◌≡◌, sym, ◌∙◌}
use Rattle.wire.specs.Codes
use Rattle.table.specs.Tables.{others_on}
use Rattle.engine.specs.Calls.{plan_for, stops_for, carried_out}
use Rattle.engine.proofs.Calling.{refuses, unlisted, unwritten, others_sought, none_sought, read_by, read_by_unit, carries_nothing, carries_out, carries_order, order_stops, none_stops, other_stops, answers, carries}
use Rattle.engine.proofs.calls.message.Goals.{then-clears_set, else-clears_set, then-goes_by_unit, else-goes_by_unit, in-Nothing, in-End, in_default-records}
use Rattle.engine.proofs.calls.message.Goals as goal

pub returns-in-Err : goal.returns-in-Err
returns-in-Err c =
    answers (refuses _ _ _ c.is_sound.ensures c.heard.ensures c.in-Err.is c.refused.ensures) (rw c.refused.ensures (unwritten c.args.t c.in-Err.n c.args.reply.now))

pub returns-in_default : goal.returns-in_default
returns-in_default c =
    let o = c.refused-in_default.ensures in
    answers (unlisted _ _ _ c.is_sound.ensures c.heard.ensures c.in-Ok.is (sym c.in_default.is ∙ c.path_of.ensures) o) (rw o (unwritten c.args.t Codes.unknown_path c.args.reply.now))

pub returns : goal.returns
returns c =
    let t = c.args.t in
    let a = c.in-Ok.a in
    let pl = c.find_plan-plan.result in
    let d = sym c.in-Some.is ∙ c.path_of.ensures in
    let o : c.if-clears_set.others ≡ cond c.clears_set.result (others_on t c.unit_asked-lun.result c.in-Some.p) 0 = elim c.if-clears_set.branch [
      | then-clears_set v ↦ others_sought t _ _ (v.others-is ∙ v.others_on-others.ensures) v.if-clears_set.true
      | else-clears_set v ↦ none_sought t _ _ v.others-is v.if-clears_set.false
    ] in
    let p : pl ≡ plan_for t c.args.m.now a.path a.tag a.request = elim c.if-goes_by_unit.branch [
      | then-goes_by_unit v ↦ read_by_unit t _ _ _ _ d c.unit_asked-lun.ensures c.goes_by_unit.ensures c.find_plan-plan.ensures v.if-goes_by_unit.true c.clears_set.ensures o v.is_attached.ensures (v.lookup-is ∙ v.unit_alone-lookup.ensures)
      | else-goes_by_unit v ↦ read_by t _ _ _ _ d c.unit_asked-lun.ensures c.goes_by_unit.ensures c.find_plan-plan.ensures 0 v.if-goes_by_unit.false v.tag_asked.ensures (v.lookup-is ∙ v.look_up-lookup.ensures)
    ] in
    let e = c.change_paths-t.ensures in
    let f = c.change_units-t.ensures in
    let u : (c.match-plan.t ≡ carried_out t pl) × (c.match-plan.stops ≡ stops_for t pl.records) =
    elim c.match-plan.branch [
      | in-Nothing w ↦ (carries_nothing t pl e f w.in-Nothing.is w.t-is, w.stops-is ∙ none_stops t w.in-Nothing.is)
      | in-End w ↦ (carries_order t pl e f w.in-End.is (w.t-is ∙ w.step-t.ensures), order_stops t pl e f w.in-End.is (w.stops-is ∙ w.running_among-stops.ensures))
      | in_default-records w ↦ (carries_out t pl e f w.step_of.ensures (w.t-is ∙ w.step-t-in_default-records.ensures), w.stops-is ∙ other_stops t pl.records w.in_default-records.not-End)
    ] in
    answers (carries t _ _ c.is_sound.ensures c.heard.ensures c.in-Ok.is p u.0 c.gone.ensures c.reply_path.ensures u.1) c.reply_to.ensures
