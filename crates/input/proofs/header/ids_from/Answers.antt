-- `input::header::ids_from` meets its contract. Assumes nothing.
use Rattle.std.proofs.Common.{◌≡◌, ◌+◌, ◌-◌, suc, arith, ◌∙◌}
use Rattle.std.proofs.lemmas.Grind.{common_steps}
use Rattle.std.specs.Prelude.{Some}
use Rattle.input.specs.Numbers.{below, id_at}
use Rattle.input.specs.Reading.{kept_with}
use Rattle.input.proofs.Reading.{next_id}
use Rattle.input.proofs.header.ids_from.Goals as goal
use Rattle.input.proofs.header.ids_from.Goals.{then-not-is_full, else-not-is_full}

pub ids-preserved : goal.ids-preserved
unfolding below
ids-preserved c =
    let more : c.args.count - c.ids.counter ≡ suc (c.args.count - (c.ids.counter + 1)) = omega arith in
    let id : id_at c.args.s.now c.ids.next ≡ Some (c.in_ok-id-2.id, c.in_ok-id.after) = grind (arith, common_steps) in
    let kept : c.if-not-is_full.ids.items ≡ kept_with c.ids.ids.items c.in_ok-id-2.id =
    elim c.if-not-is_full.branch [ then-not-is_full w ↦ grind (arith, common_steps) | else-not-is_full w ↦ grind (arith, common_steps) ] in
    c.ids.invariant ∙ next_id _ _ _ more id kept
