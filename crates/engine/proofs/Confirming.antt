-- What becomes of a task that waits to be confirmed: `confirmed` ends it, `restarted` has it wait again, and every
-- other record stays. Assumes nothing.
use Rattle.wire.specs.declared.codes.Refusal.{Refusal}
use Rattle.std.specs.Prelude.{Result, Ok, Err}
use Prim.Native.Nat.{ℕ, ◌<◌, ◌≤◌}
use mathlib.Core.Path.{◌≡◌, refl, sym, ap, subst, ◌∙◌}
use mathlib.Core.Bool.{Bool, true, false}
use mathlib.Core.List.{List}
use mathlib.Core.Option.{Option, none, some}
use lib.ListN.{length}
use borrow.Author.Tests.{eq-eqb, eqb-true}
use Rattle.wire.specs.Messages.{read_of}
use Rattle.std.specs.Prelude.{Some}
use Rattle.std.specs.declared.option.Option as option
use Rattle.task.specs.Tasks.{transferred_of, restarts}
use Rattle.task.specs.Selections.{picks, named, numbered_as}
use Rattle.task.specs.declared.Task.{Task}
use Rattle.task.specs.declared.scan.Pick.{Pick}
use Rattle.task.specs.declared.select.Selection.{Selection}
use Rattle.wire.proofs.Table.{cond_ind}
use Rattle.task.proofs.Ways.{both}
use Rattle.task.proofs.Selecting.{meets, picks_named}
use Rattle.table.specs.Tables.{path_of, pick_of, ended_by, restarted}
use Rattle.table.specs.View.{at}
use Rattle.sound.specs.Promises.{Good}
use Rattle.table.specs.declared.Table.{Table}
use Rattle.table.proofs.Views.{OnlyTasks, live_at, spared, at_ended, ended_only, ended_next, altered_at_law, altered_other, altered_only, altered_next, pick_at}
use Rattle.rules.specs.Facts.{lookup_of}
use Rattle.plan.specs.Plans.{asking, asked_in, awaited}
use Rattle.plan.proofs.Promises.{awaited_is}
use Rattle.plan.specs.declared.Request.TheVariants.{Confirm}
use Rattle.plan.specs.declared.Plan.{Plan}
use Rattle.plan.specs.declared.Answer.{Answer}
use Rattle.plan.specs.declared.Answer.TheVariants as answer
use Rattle.engine.specs.Calls.{plan_at, with_records, carried_out, message_of, replied}
use Rattle.engine.specs.Promises.{Awaited, OnlyRecord, ConfirmsItsOwn}
use Rattle.engine.specs.declared.Outcome.{Outcome}
use Rattle.engine.proofs.Outcomes.{one_asked, each_message, each_confirm, left_by}

module _ (t : Table) (path tag offset : ℕ) (complete : Bool) where
  -- what an answer to a confirmation means for the table after it
  abbrev Meant : Result Answer Refusal → Table → Type 0
  Meant (Ok answer.Ready) u = Unit {0}
  Meant (Ok (answer.Accepted n)) u = Unit {0}
  Meant (Ok (answer.Reply r)) u = Unit {0}
  Meant (Ok (answer.Started offset arrival)) u = Unit {0}
  Meant (Ok (answer.Confirmed n)) u = (complete ≡ true) × (i : ℕ) × (a : Task) × Awaited t path tag n i a × (at u i ≡ none) × OnlyRecord i t u
  Meant (Ok (answer.Restarted n)) u =
      (complete ≡ false) × (i : ℕ) × (a : Task) × Awaited t path tag n i a × (offset ≤ transferred_of a) × (at u i ≡ some (restarts offset a)) × OnlyRecord i t u
  Meant (Ok answer.Reset) u = Unit {0}
  Meant (Err n) u = Unit {0}

  abbrev p : ℕ
  p = path_of t path

  -- the sender's task with the tag
  abbrev own : option.Option Pick
  own = pick_of t (named p tag)

  module _ (g : Good t) where
    waits : (w : Pick) → awaited own ≡ Some w → Awaited t path tag w.task.arrival w.at w.task
    waits w e =
        let b = awaited_is own w e in
        let f = pick_at t (named p tag) g.shaped b.0 in
        let n = both _ _ (sym (picks_named w.task p tag) ∙ f.picked) in
        record { below = f.below; here = f.here; sender = eqb-true _ _ n.0; named = eqb-true _ _ n.1; number = refl; waits = b.1 }

    module _ {i : ℕ} {a : Task} (w : Awaited t path tag a.arrival i a) where
      abbrev s : Selection
      s = numbered_as a.arrival p tag

      ends : at (ended_by t s) i ≡ none
      unfolding picks
      ends = at_ended t s i g.shaped w.below ∙ rw (w.here, eq-eqb a.arrival a.arrival refl, eq-eqb _ _ w.sender, eq-eqb _ _ w.named)

      ends_no_other : (j : ℕ) → j < 64 → (j ≡ i → ⊥) → at (ended_by t s) j ≡ at t j
      ends_no_other j l n = at_ended t s j g.shaped l ∙ stays (at t j) refl
        where
          stays : (x : Option Task) → at t j ≡ x → spared s x ≡ x
          stays none e = refl
          stays (some b) e = cond_ind (λ (x : Option Task). x ≡ some b) (picks s b)
              (λ q. absurd (n (g.sound.one_arrival j i b a l w.below e w.here (eqb-true _ _ (meets s b q).number)))) (λ _. refl)

      -- where the records alone change, and only that one
      only : (u : Table) → OnlyTasks t u → u.next ≡ t.next → ((j : ℕ) → j < 64 → (j ≡ i → ⊥) → at u j ≡ at t j) → OnlyRecord i t u
      only u o n records = record {
        records = records;
        next = n;
        count = ap (λ (x : Table). x.count) o.rest;
        attached = ap (λ (x : Table). x.attached) o.rest;
        paths = ap (λ (x : Table). x.paths) o.rest;
        units = ap (λ (x : Table). x.units) o.rest;
      }

      goes_again : at (restarted t i offset) i ≡ some (restarts offset a)
      goes_again = altered_at_law t i _ g.shaped w.below w.here ∙ ap (λ (x : Task). some (restarts offset x)) (live_at t i w.here).1

    module _ (m : List ℕ) where
      plan_meant : Meant (plan_at t m p tag (Confirm offset complete)).answer (carried_out t (plan_at t m p tag (Confirm offset complete)))
      unfolding plan_at lookup_of carried_out with_records
      plan_meant =
          each_confirm (λ (pl : Plan). Meant pl.answer (carried_out t pl)) own p tag m offset complete tt tt
          (λ q e c. let w = waits q e in (c, q.at, q.task, w, ends w, only w _ (ended_only t _) (ended_next t _) (ends_no_other w)))
          (λ q e c l.
          let w = waits q e in
          (c, q.at, q.task, w, l, goes_again w, only w _ (altered_only t q.at _) (altered_next t q.at _) (λ j _. altered_other t q.at _ j)))

      -- the outcome of a call that is asked for it
      meant : asked_in (read_of m) ≡ Ok (asking path tag (Confirm offset complete)) → (n : ℕ) → Meant (message_of t m n).answer (message_of t m n).table
      meant e =
          each_message (λ (o : Outcome). Meant o.answer o.table) t (λ _. tt) m
          (λ path2 tag2 w f _.
          let same = one_asked path tag path2 tag2 (Confirm offset complete) w f e in
          rw (same.0, same.1, same.2) plan_meant)

      told : {o : Outcome} {a : Result Answer Refusal} (n : ℕ) → asked_in (read_of m) ≡ Ok (asking path tag (Confirm offset complete)) → o ≡ message_of t m n → o.answer ≡ a → Meant a o.table
      told {o = o} n e x h = subst (λ (a : Result Answer Refusal). Meant a o.table) h (subst (λ (q : Outcome). Meant q.answer q.table) (sym x) (meant e n))

pub confirms_its_own : ConfirmsItsOwn
unfolding replied
confirms_its_own = record {
  confirmed = λ t m buf o left path tag offset arrival complete g x e h.
      let r = told t path tag offset complete g m (length buf) e x.outcome h in (r.0, r.1, r.2, r.3, r.4, r.5, left_by buf x h);
  restarted = λ t m buf o left path tag offset arrival complete g x e h.
      let r = told t path tag offset complete g m (length buf) e x.outcome h in (r.0, r.1, r.2, r.3, r.4, r.5, r.6, left_by buf x h);
}
