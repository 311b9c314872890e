-- What the calls ended, summed over the calls after a setup, beside what the trace accepted and what is live. Assumes
-- nothing.
use Prim.Native.Nat.{ℕ, ◌+◌, ◌<◌, ◌^◌}
use mathlib.Core.Path.{◌≡◌, refl, sym, ap, ◌∙◌}
use mathlib.Core.Bool.{true, ◌&&◌}
use mathlib.Core.List.{List, [], ◌∷◌}
use mathlib.Core.Logic.{inl, inr}
use mathlib.Core.Option.{some}
use native.Mathlib.Omega.{arith}
use lib.ListN.{length}
use lib.Dec.{eqb}
use Rattle.task.specs.Index.{one}
use Rattle.task.specs.Map.{is_live, gone}
use Rattle.task.specs.declared.Task.{Task}
use Rattle.task.proofs.Ways.{either_way}
use Rattle.task.proofs.Places.{sum_ext, sum_zero}
use Rattle.task.proofs.Bits.{dead_zero}
use Rattle.task.proofs.Maps.{gone_none}
use Rattle.table.specs.Tables.{zero_table, task_at}
use Rattle.table.specs.Setup.{bad_list}
use Rattle.table.specs.View.{at, weight_at, weight, live_of}
use Rattle.sound.specs.Promises.{Good}
use Rattle.table.specs.declared.Table.{Table}
use Rattle.table.proofs.Views.{not_both, at_live, at_dead}
use Rattle.table.proofs.Weights.{setup_weighs}
use Rattle.engine.specs.Calls.{SetupContract, setup_of}
use Rattle.engine.specs.declared.Outcome.{Outcome}
use Rattle.engine.proofs.Keeps.{message_keeps, start_keeps, finish_keeps, reset_keeps}
use Rattle.history.specs.Trace.{Event, Message, Start, Finish, TotalReset, counts_as_status, counts_as_management, counts_as_reset, Effect, Nothing, Fate, stays, becomes, ended, fate_of, effect_of}
use Rattle.history.specs.Ledger.{ledger, total, is_from, accepts_from, accepted_from, ended_from}
use Rattle.history.specs.Demand.{Call, told, Engine, Chained, last_table}
use Rattle.history.specs.Drives.{calls_of, engine}
use Rattle.history.specs.Ended.{Lists, Made, ended_of, ended_along, EndedAddUp}
use Rattle.history.proofs.Nth.{same_element}
use Rattle.history.proofs.Totals.{sum_add}
use Rattle.history.proofs.Kept.{fated, weighed, remains_of}
use Rattle.history.proofs.Agreeing.{accepted_path}
use Rattle.history.proofs.Calls.{refused_nothing}
use Rattle.history.proofs.Demand.{tied_fresh, zero_setup, unsound, as_drive, demand_three, meets_contract}
use Rattle.history.proofs.Ended.{done_by_law, gone_by, bit, follows, set, silent_as}

-- ---- one call

-- the commands of a path
abbrev of_path : ℕ → Task → ℕ
of_path p a = one (is_from p a)

-- what a task that goes on weighs after its fate
remains_weighs : (f : Task → ℕ) (a b : Task) (x : Fate) → remains_of a x ≡ some b → fated f a x ≡ f b
remains_weighs f a b stays e = ap f (same_element refl e)
remains_weighs f a b (becomes c) e = ap f (same_element refl e)
remains_weighs f a b (ended how) e = absurd (not_both refl e)

-- a call, for the path at p: live before and accepted = ended and live after
abbrev Balanced : List ℕ → ℕ → Event → Table → Outcome → Type 0
Balanced ids p ev t o = live_of p t + one (accepts_from p (effect_of ids ev o.answer)) ≡ ended_of p t o + live_of p o.table

module _ (ids : List ℕ) (ev : Event) (t : Table) (o : Outcome) (left : List ℕ) (names : Lists ids t) (x : Made Engine ev t o left) (p : ℕ) where
  abbrev effect : Effect
  effect = effect_of ids ev o.answer

  -- a record weighs what its fate leaves of it, and what its bit counts
  parted : (i : ℕ) → i < 64 → weight_at (of_path p) (at t i) ≡ weight_at (weighed effect (of_path p)) (at t i) + one (is_live o.ended i && is_from p (task_at t i))
  parted i l = elim (either_way (is_live t.live i)) [
    | inl y ↦ rw (at_live t i y) (live_parted y)
    | inr y ↦ rw (at_dead t i y, bit ev t o left x i l, y) refl
  ]
    where
      a : Task
      a = task_at t i

      live_parted : is_live t.live i ≡ true → of_path p (task_at t i) ≡ weighed effect (of_path p) (task_at t i) + one (is_live o.ended i && is_from p (task_at t i))
      live_parted y = elim (either_way (is_live o.ended i)) [
        | inl e ↦
            let f = set ev t o left x ids names i e in
            let same : f.1 ≡ a = same_element f.3 (at_live t i y) in
            let fate : fate_of effect a ≡ ended f.2 = ap (fate_of effect) (sym same) ∙ f.4 in
            rw (e, fate) (omega arith)
        | inr e ↦
            let s = silent_as ev t o left x ids names i a l (at_live t i y) e in
            let w : weighed effect (of_path p) a ≡ of_path p s.0 =
            remains_weighs (of_path p) a s.0 (fate_of effect a) (sym (follows ev t o left x ids names i a l (at_live t i y)) ∙ s.1) in
            let same : of_path p s.0 ≡ of_path p a = ap (λ (q : ℕ). one (eqb q p)) s.2.path in
            rw e (omega (arith, w, same))
      ]

  balanced : Balanced ids p ev t o
  unfolding weight
  balanced =
      omega (
        arith,
        sum_ext 64 _ _ parted,
        sum_add 64 (λ i. weight_at (weighed effect (of_path p)) (at t i)) (λ i. one (is_live o.ended i && is_from p (task_at t i))),
        (done_by_law ids ev t o left names x).weighs (of_path p),
        accepted_path p effect,
      )

-- ---- along the calls

-- where every call on a table that fits is balanced and hands back one that fits, live at first and accepted = ended
-- and live at last
module _ (ids : List ℕ) (p : ℕ) (Fits : Table → Type 0) (step : (ev : Event) (t : Table) (o : Outcome) (left : List ℕ) → Fits t → Engine ev t o left → Balanced ids p ev t o × Fits o.table) where
  along : (t : Table) (cs : List Call) → Fits t → Chained Engine t cs → live_of p t + accepted_from ids p (told cs) ≡ ended_along p t cs + live_of p (last_table t cs)
  unfolding total ended_along last_table
  along t [] f m = omega arith
  along t (c ∷ cs) f m =
      let s = step c.event t c.outcome c.left f m.0 in
      omega (arith, s.0, along c.outcome.table cs s.1 m.1)

-- a sound table with the ids of setup
pub record Fitting (ids : List ℕ) (t : Table) : Type 0 where
  pub good : Good t
  pub lists : Lists ids t

good_after : (ev : Event) (t : Table) → Good t → Good (engine ev t).table
unfolding engine
good_after (Message m buf) t g = message_keeps t m (length buf) g
good_after (Start unit) t g = start_keeps t unit g
good_after (Finish arrival status sense transferred buf) t g = finish_keeps t arrival status sense transferred (length buf) g
good_after TotalReset t g = reset_keeps t g

fitting_step : (ids : List ℕ) (p : ℕ) (ev : Event) (t : Table) (o : Outcome) (left : List ℕ) → Fitting ids t → Engine ev t o left → Balanced ids p ev t o × Fitting ids o.table
fitting_step ids p ev t o left f c =
    let x : Made Engine ev t o left = record { good = f.good; call = c } in
    let d = done_by_law ids ev t o left f.lists x in (
      balanced ids ev t o left f.lists x p,
      record {
        good = rw (as_drive ev t o left c) (good_after ev t f.good);
        lists = record { count = d.count ∙ f.lists.count; each = λ q below. d.ids q ∙ f.lists.each q (omega (arith, d.count)) };
      },
    )

pub fitting_along : (ids : List ℕ) (t : Table) (evs : List Event) → Fitting ids t → Fitting ids (last_table t (calls_of engine t evs))
unfolding last_table calls_of
fitting_along ids t [] f = f
fitting_along ids t (ev ∷ evs) f = fitting_along ids (engine ev t).table evs (fitting_step ids 0 ev t (engine ev t) _ f (meets_contract ev t)).1

-- the all-zero table, on which every call is refused
zero_step : (ids : List ℕ) (p : ℕ) (ev : Event) (t : Table) (o : Outcome) (left : List ℕ) → t ≡ zero_table → Engine ev t o left → Balanced ids p ev t o × (o.table ≡ zero_table)
zero_step ids p ev t o left z c =
    let e : Engine ev zero_table o left = rw z at c in
    let s = unsound ev in
    let answered = ap (λ (q : Outcome). q.answer) (as_drive ev zero_table o left e) ∙ s.0 in
    let table : o.table ≡ zero_table = ap (λ (q : Outcome). q.table) (as_drive ev zero_table o left e) ∙ s.1 in
    let nothing : effect_of ids ev o.answer ≡ Nothing = ap (effect_of ids ev) answered ∙ refused_nothing ids ev _ in
    let clear : o.ended ≡ 0 = gone_by ev zero_table o left e ∙ ap (λ (u : Table). gone zero_table.live u.live) table ∙ gone_none zero_table.live in
    let none_ended : ended_of p t o ≡ 0 = sum_zero 64 _ (λ i _. rw (clear, dead_zero i) refl) in
    (rw (nothing, none_ended, table, z) (omega arith), table)

pub ended_add_up : EndedAddUp Engine
unfolding setup_of
ended_add_up = record { accepted = adds; ledgered = ledgers }
  where
    adds : (ids : List ℕ) (attached first : ℕ) (o : Outcome) (cs : List Call) (p : ℕ) → first < 2 ^ 64 → SetupContract ids attached first o → Chained Engine o.table cs
        → accepted_from ids p (told cs) ≡ ended_along p o.table cs + live_of p (last_table o.table cs)
    adds ids attached first o cs p l made chained =
        let none-live : live_of p o.table ≡ 0 = rw made (setup_weighs (of_path p) ids attached first) in
        elim (either_way (bad_list ids)) [
          | inl b ↦ omega (arith, none-live, along ids p (λ (t : Table). t ≡ zero_table) (zero_step ids p) o.table cs (ap (λ (q : Outcome). q.table) made ∙ zero_setup ids attached first b) chained)
          | inr b ↦
              let T = tied_fresh ids attached first l b in
              let f : Fitting ids o.table = rw made (record { good = T.good; lists = record { count = T.listed; each = T.ids_stand } }) in
              omega (arith, none-live, along ids p (Fitting ids) (fitting_step ids p) o.table cs f chained)
        ]

    ledgers : (ids : List ℕ) (attached first : ℕ) (o : Outcome) (cs : List Call) (p : ℕ) → first < 2 ^ 64 → SetupContract ids attached first o → Chained Engine o.table cs
        → ended_along p o.table cs ≡ ended_from counts_as_status p (ledger ids (told cs)) + ended_from counts_as_management p (ledger ids (told cs)) + ended_from counts_as_reset p (ledger ids (told cs))
    ledgers ids attached first o cs p l made chained = omega (arith, adds ids attached first o cs p l made chained, (demand_three ids attached first o cs l made chained).balance p)
