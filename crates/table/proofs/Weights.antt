-- What each change does to the weight of the live tasks. Assumes nothing.
use Prim.Native.Nat.{ℕ, ◌+◌, ◌<◌}
use mathlib.Core.Path.{◌≡◌, refl, sym, ap, ◌∙◌}
use mathlib.Core.Bool.{Bool, true, false, cond, ◌&&◌}
use mathlib.Core.List.{List}
use mathlib.Core.Option.{Option, none, some}
use native.Mathlib.Omega.{arith}
use lib.Dec.{ltb}
use borrow.Author.Tests.{ltb-true}
use Rattle.task.specs.Index.{one}
use Rattle.task.specs.Tasks.{runs}
use Rattle.task.specs.Map.{is_live, lowest_free}
use Rattle.task.specs.Selections.{picks}
use Rattle.task.specs.declared.Task.{Task}
use Rattle.wire.proofs.Table.{cond_ind}
use Rattle.task.proofs.Ways.{both}
use Rattle.task.proofs.Places.{sum_ext, sum_zero, sum_change}
use Rattle.task.proofs.Bits.{ones_count}
use Rattle.table.specs.Tables.{task_at, has_room, with_paths, with_units, put_at, new_task, ended_by, altered_at, reset_of}
use Rattle.table.specs.Setup.{setup_table}
use Rattle.table.specs.View.{Shaped, at, weight_at, weight}
use Rattle.table.specs.Promises.{AcceptWeighs, EndWeighs, AlterWeighs, StartWeighs, SetupWeighs, ResetWeighs, OnesAreLive}
use Rattle.table.specs.declared.Path as path
use Rattle.table.specs.declared.Unit as unit
use Rattle.table.specs.declared.Table.{Table}
use Rattle.table.proofs.Views.{at_live, at_put, at_put_other, accepted_put, at_free, spared, at_ended, altered_at_law, altered_other, at_setup, at_reset, same_at}

-- by places: each weighs the same, none has a task, one is filled
pub weight_ext : (f g : Task → ℕ) (t u : Table) → ((i : ℕ) → i < 64 → weight_at f (at t i) ≡ weight_at g (at u i)) → weight f t ≡ weight g u
unfolding weight
weight_ext f g t u h = sum_ext 64 (λ i. weight_at f (at t i)) (λ i. weight_at g (at u i)) h

pub weight_none : (f : Task → ℕ) (t : Table) → ((i : ℕ) → at t i ≡ none) → weight f t ≡ 0
unfolding weight
weight_none f t h = sum_zero 64 (λ i. weight_at f (at t i)) (λ i _. ap (weight_at f) (h i))

pub weight_put : (f : Task → ℕ) (t : Table) (k : ℕ) (a : Task) → Shaped t → k < 64 → at t k ≡ none → weight f (put_at t k a) ≡ weight f t + f a
unfolding weight
weight_put f t k a h l e =
    let c =
    sum_change 64 k (λ i. weight_at f (at (put_at t k a) i)) (λ i. weight_at f (at t i)) l (λ i _ n. ap (weight_at f) (at_put_other t k a i n)) in
    omega (arith, c, ap (weight_at f) e, ap (weight_at f) (at_put t k a h l))

pub weight_same : (f : Task → ℕ) (t : Table) (paths : List path.Path) (units : List unit.Unit) → weight f (with_paths (with_units t units) paths) ≡ weight f t
weight_same f t paths units = weight_ext f f (with_paths (with_units t units) paths) t (λ i _. ap (weight_at f) (same_at t paths units i))

pub accept_weighs : AcceptWeighs
unfolding has_room
accept_weighs f t path tag unit kind sequel h e =
    let l : lowest_free t.live < 64 = ltb-true _ _ (both _ _ e).0 in
    ap (weight f) (accepted_put t path tag unit kind sequel e)
    ∙ weight_put f t (lowest_free t.live) (new_task t path tag unit kind sequel) h l (at_free t l)

pub end_weighs : EndWeighs
end_weighs f t s h = weight_ext f (λ a. cond (picks s a) 0 (f a)) (ended_by t s) t (λ i l. ap (weight_at f) (at_ended t s i h l) ∙ left (at t i))
  where
    weighed : (b : Bool) (a : Task) → weight_at f (cond b none (some a)) ≡ cond b 0 (f a)
    weighed true a = refl
    weighed false a = refl

    left : (x : Option Task) → weight_at f (spared s x) ≡ weight_at (λ a. cond (picks s a) 0 (f a)) x
    left none = refl
    left (some a) = weighed (picks s a) a

pub alter_weighs : AlterWeighs
unfolding weight
alter_weighs f t k a b h l e =
    let c =
    sum_change 64 k (λ i. weight_at f (at (altered_at t k b) i)) (λ i. weight_at f (at t i)) l (λ i _ n. ap (weight_at f) (altered_other t k b i n)) in
    omega (arith, c, ap (weight_at f) e, ap (weight_at f) (altered_at_law t k b h l e))

pub start_weighs : StartWeighs
unfolding altered_at
start_weighs f t i h same =
    let a : Task = task_at t i in
    cond_ind (λ (u : Table). altered_at t i (runs a) ≡ u → weight f u ≡ weight f t) (ltb i 64 && is_live t.live i)
    (λ y e.
    let p = both (ltb i 64) _ y in
    let w = alter_weighs f t i a (runs a) h (ltb-true i 64 p.0) (at_live t i p.1) in
    sym (ap (weight f) e) ∙ omega (arith, w, same a))
    (λ _ _. refl) refl

pub setup_weighs : SetupWeighs
setup_weighs f ids attached next = weight_none f (setup_table ids attached next) (at_setup ids attached next)

pub reset_weighs : ResetWeighs
reset_weighs f t = weight_none f (reset_of t) (at_reset t)

pub ones_are_live : OnesAreLive
unfolding weight at
ones_are_live t h =
    ones_count 64 t.live h.map
    ∙ sum_ext 64 (λ i. one (is_live t.live i)) (λ i. weight_at (λ a. 1) (at t i)) (λ i _. counted (is_live t.live i) (task_at t i))
  where
    counted : (b : Bool) (a : Task) → one b ≡ weight_at (λ a. 1) (cond b (some a) none)
    counted true a = refl
    counted false a = refl
