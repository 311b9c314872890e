-- A message that is not CLEAR TASK SET, LOGICAL UNIT RESET or TARGET RESET leaves the live records of other paths as
-- they are. Assumes nothing.
use Prim.Native.Nat.{ℕ, ◌<◌}
use mathlib.Core.Path.{◌≡◌, refl, ap, ◌∙◌}
use mathlib.Core.Bool.{true, false}
use mathlib.Core.List.{List}
use mathlib.Core.Option.{some}
use mathlib.Core.Logic.{inl, inr}
use lib.Dec.{eqb}
use lib.ListN.{length}
use Rattle.wire.specs.Codes
use Rattle.wire.specs.declared.message.Flags.{Flags}
use Rattle.task.specs.Map.{lowest_free}
use Rattle.task.specs.Selections.{picks, named}
use Rattle.wire.specs.declared.codes.Kind.{Kind}
use Rattle.task.specs.declared.Sequel.{Sequel}
use Rattle.task.specs.declared.Task.{Task}
use Rattle.task.specs.declared.select.Selection.{Selection}
use Rattle.wire.proofs.Table.{cond_ind}
use Rattle.task.proofs.Ways.{either_way}
use Rattle.table.specs.Tables.{path_of, pick_of, has_room, accepted, ended_by}
use Rattle.table.specs.View.{Shaped, at}
use Rattle.table.specs.declared.Table.{Table}
use Rattle.table.proofs.Views.{not_both, at_put_other, at_free, same_at, ended_to, altered_other, pick_at}
use Rattle.rules.specs.Facts.{facts_of, lookup_of}
use Rattle.rules.specs.Rules.{deciding}
use Rattle.rules.specs.Management.{order_code}
use Rattle.plan.proofs.Promises.{awaited_is}
use Rattle.plan.specs.Plans.{ruled, order_plan}
use Rattle.engine.specs.Calls.{with_parts, plan_at, with_records, carried_out}
use Rattle.rules.specs.declared.change.Change.{Change}
use Rattle.rules.specs.declared.command.Ruling.{Ruling}
use Rattle.rules.specs.declared.command.Ruling.TheVariants.{Refuse, Respond, Report, Invalid, Accept}
use Rattle.rules.specs.declared.manage.Order.TheVariants.{AbortTask}
use Rattle.plan.specs.declared.Request.{Request}
use Rattle.plan.specs.declared.Request.TheVariants.{Command, Manage, Confirm}
use Rattle.plan.specs.declared.RecordChange.{RecordChange}
use Rattle.plan.specs.declared.RecordChange.TheVariants as records
use Rattle.plan.specs.declared.Plan.{Plan}
use Rattle.engine.specs.declared.Outcome.{Outcome}
use Rattle.history.specs.Demand.{may_reach_others, OthersStay}
use Rattle.engine.proofs.Outcomes.{one_asked, each_message, each_confirm}
use Rattle.history.proofs.Nth.{same_element}
use Rattle.history.proofs.Traces.{own_order, own_numbered}

-- ---- a plan that does not end or restart a task leaves it in its record

abbrev Holds : ℕ → Task → Table → Type 0
Holds i a t = at t i ≡ some a

-- a change of the records ends nothing, or does not pick the task; or it is about another record
abbrev Spares : ℕ → Task → RecordChange → Type 0
Spares i a records.Nothing = Unit {0}
Spares i a (records.Accept path tag lun kind sequel) = Unit {0}
Spares i a (records.End s) = picks s a ≡ false
Spares i a (records.Complete s) = picks s a ≡ false
Spares i a (records.Restart place offset) = i ≡ place → ⊥

module _ (i : ℕ) (a : Task) (l : i < 64) where
  -- a new task goes to a free record
  pub accept_leaves : (t : Table) (path tag unit : ℕ) (kind : Kind) (sequel : Sequel) → Holds i a t → Holds i a (accepted t path tag unit kind sequel)
  unfolding accepted
  accept_leaves t path tag unit kind sequel e =
      cond_ind (Holds i a) (has_room t)
      (λ _. at_put_other t (lowest_free t.live) _ i (λ k. not_both (at_free t (rw k at l)) (rw k at e)) ∙ e) (λ _. e)

  module _ (t : Table) (h : Shaped t) (e : Holds i a t) where
    parts_leave : (c : Change) → Holds i a (with_parts t c)
    parts_leave c = same_at t _ _ i ∙ e

    records_leave : (c : Change) (d : RecordChange) → Spares i a d → Holds i a (with_records (with_parts t c) d)
    unfolding with_records ended_by
    records_leave c records.Nothing s = parts_leave c
    records_leave c (records.Accept path tag lun kind sequel) s = accept_leaves (with_parts t c) path tag lun kind sequel (parts_leave c)
    records_leave c (records.End ended) s = same_at (ended_by t ended) _ _ i ∙ ended_to t ended h l e s
    records_leave c (records.Complete ended) s = same_at (ended_by t ended) _ _ i ∙ ended_to t ended h l e s
    records_leave c (records.Restart place offset) s = altered_other (with_parts t c) place _ i s ∙ parts_leave c

    plan_leaves : (pl : Plan) → Spares i a pl.records → Holds i a (carried_out t pl)
    unfolding carried_out
    plan_leaves pl s = records_leave pl.change pl.records s

    -- ---- what is planned for such a message of the path at p does not end or restart another path's task

    module _ (p : ℕ) (n : a.path ≡ p → ⊥) where
      ruling_spares : (next tag lun : ℕ) (flags : Flags) (r : Ruling) → Spares i a (ruled next p tag lun flags r).records
      ruling_spares next tag lun flags (Refuse number) = tt
      ruling_spares next tag lun flags (Respond code sender) = tt
      ruling_spares next tag lun flags (Report status sense sender queue) = tt
      ruling_spares next tag lun flags (Invalid sender) = tt
      ruling_spares next tag lun flags Accept = tt

      not_ended : (s : Selection) → (picks s a ≡ true → a.path ≡ p) → picks s a ≡ false
      not_ended s own = elim (either_way (picks s a)) [ inl y ↦ absurd (n (own y)) | inr y ↦ y ]

      plan_spares : (m : List ℕ) (tag : ℕ) (w : Request) → may_reach_others w ≡ false → Spares i a (plan_at t m p tag w).records
      unfolding plan_at lookup_of order_plan
      plan_spares m tag (Command lun flags) r = ruling_spares t.next tag lun flags (deciding (facts_of t p tag lun) flags m).gives
      plan_spares m tag (Manage o) r =
          cond_ind (λ (pl : Plan). Spares i a pl.records) (eqb (order_code _ m o).0 (Codes.done).0) (λ _. not_ended _ (own_order p o r a)) (λ _. tt)
      plan_spares m tag (Confirm offset complete) r =
          each_confirm (λ (pl : Plan). Spares i a pl.records) (pick_of t (named p tag)) p tag m offset complete tt tt (λ own _ _. not_ended _ (own_numbered own.task.arrival p tag a))
          (λ own w _ _ same.
          let f = pick_at t (named p tag) h (awaited_is _ own w).0 in
          n (ap (λ (b : Task). b.path) (same_element (rw same at e) f.here) ∙ own_order p (AbortTask tag) refl own.task f.picked))

pub others_stay : OthersStay
others_stay t m buf o left path tag w g answers says r i a l e n =
    ap (λ (u : Outcome). at u.table i) answers.outcome
    ∙ each_message (λ (u : Outcome). Holds i a u.table) t (λ _. e) m
    (λ path' tag' w' says' _.
    let same = one_asked path' tag' path tag w' w says says' in
    let p : path ≡ path' = same.0 in
    let v : w ≡ w' = same.2 in
    plan_leaves i a l t g.shaped e (plan_at t m (path_of t path') tag' w') (plan_spares i a l t g.shaped e (path_of t path') (rw p at n) m tag' w' (rw v at r))) (length buf)
