-- The scan's answer is the one that specs/Next.antt says, and what that tells of its parts. Assumes nothing.
use Prim.Native.Nat.{ℕ, zero, suc, ◌+◌, ◌<◌, ◌≤◌}
use mathlib.Core.Path.{◌≡◌, refl, sym, ap, subst, ◌∙◌}
use mathlib.Core.Bool.{Bool, true, false}
use mathlib.Core.List.{List}
use mathlib.Core.Logic.{inl, inr, ⊎_elim}
use native.Mathlib.Nat.{le_refl, le_trans, le_of_lt}
use native.Mathlib.Numerals.{add-one}
use native.Mathlib.Omega.{arith}
use lib.Dec.{ltb}
use lib.ListN.{length, get_or, drop}
use borrow.Author.Tests.{ltb-true, ltb-false}
use Rattle.std.specs.Prelude.{Option, Some, None, is_some}
use Rattle.std.proofs.lemmas.Option.{none-some, same_Some}
use Rattle.task.specs.Index.{some_below}
use Rattle.task.specs.Tasks.{no_task, is_head}
use Rattle.task.specs.Selections.{picks_live}
use Rattle.task.specs.Scan.{nobody, considered, scan_from, scan}
use Rattle.task.specs.Next.{record_at, Takes, head_at, Stands, Next, no_one, highest_head, lowest, ScanIsNext}
use Rattle.task.specs.declared.Task.{Task}
use Rattle.task.specs.declared.select.Selection.{Selection}
use Rattle.task.specs.declared.scan.Pick.{Pick}
use Rattle.task.proofs.Ways.{either_way, never}
use Rattle.task.proofs.Places.{below_suc, some_at, some_none}
use Rattle.task.proofs.Scanning.{scan_step, scan_end}

-- what holds of each place below k, and of k, holds of each below k + 1
upto : (P : ℕ → Type 0) (k : ℕ) → ((i : ℕ) → i < k → P i) → P k → (i : ℕ) → i < k + 1 → P i
upto P k h x i l = ⊎_elim (λ e. subst P (sym e) x) (h i) (below_suc (rw add-one at l))

module _ (live : ℕ) (s : Selection) (tasks : List Task) (k : ℕ) where
  abbrev a : Task
  a = record_at live s tasks k

  abbrev Old : Option Pick → Type 0
  Old = Next live s tasks k

  abbrev New : Option Pick → Type 0
  New = Next live s tasks (k + 1)

  wider : (p : Pick) → Stands live s tasks k p → Stands live s tasks (k + 1) p
  wider p t = record { below = (let h : p.at < k = t.below in omega arith); takes = t.takes; task = t.task }

  -- record k takes no part
  skipped : (r : Option Pick) → picks_live live s k a ≡ false → Old r → New r
  skipped r w (no_one f h) = no_one f (upto _ k h (λ y. never y w))
  skipped r w (highest_head p f t d h) = highest_head p f (wider p t) d (upto _ k h (λ y. absurd (never y w)))
  skipped r w (lowest p f t d h) = lowest p f (wider p t) d (upto _ k h (λ y. absurd (never y w)))

  -- record k takes part
  module _ (w : Takes live s tasks k) where
    abbrev this : Pick
    this = record { task = a; at = k }

    stands : Stands live s tasks (k + 1) this
    stands = record { below = omega arith; takes = w; task = refl }

    abbrev Got : Option Pick → Type 0
    Got r = New (considered live s r k a)

    -- it is the first
    alone : (b : Bool) → head_at live s tasks k ≡ b → ((i : ℕ) → i < k → Takes live s tasks i → ⊥) → Got None
    unfolding considered
    alone true e h = subst New (sym (simp w)) (highest_head this refl stands e (upto _ k (λ i l y. absurd (h i l y)) (λ _ _. le_refl _)))
    alone false e h = subst New (sym (simp w)) (lowest this refl stands e (upto _ k (λ i l y. absurd (h i l y)) (λ _. (e, le_refl _))))

    module _ (p : Pick) (t : Stands live s tasks k p) where
      -- the best so far is a HEAD OF QUEUE task
      after_head : (b : Bool) → head_at live s tasks k ≡ b → (c : Bool) → ltb p.task.arrival a.arrival ≡ c → is_head p.task.kind ≡ true
          → ((i : ℕ) → i < k → Takes live s tasks i → head_at live s tasks i ≡ true → (record_at live s tasks i).arrival ≤ p.task.arrival) → Got (Some p)
      unfolding considered
      after_head true e true c d h =
          subst New (sym (simp (w, d, e, c)))
          (highest_head this refl stands e (upto _ k (λ i l y z. le_trans (h i l y z) (le_of_lt (ltb-true _ _ c))) (λ _ _. le_refl _)))
      after_head true e false c d h =
          subst New (sym (simp (w, d, e, c))) (highest_head p refl (wider p t) d (upto _ k h (λ _ _. ltb-false _ _ c)))
      after_head false e b c d h =
          subst New (sym (simp (w, d, e))) (highest_head p refl (wider p t) d (upto _ k h (λ _ y. absurd (never y e))))

      -- it is another
      after_other : (b : Bool) → head_at live s tasks k ≡ b → (c : Bool) → ltb a.arrival p.task.arrival ≡ c → is_head p.task.kind ≡ false
          → ((i : ℕ) → i < k → Takes live s tasks i → (head_at live s tasks i ≡ false) × (p.task.arrival ≤ (record_at live s tasks i).arrival)) → Got (Some p)
      unfolding considered
      after_other true e b c d h =
          subst New (sym (simp (w, d, e)))
          (highest_head this refl stands e (upto _ k (λ i l y z. absurd (never z (h i l y).0)) (λ _ _. le_refl _)))
      after_other false e true c d h =
          subst New (sym (simp (w, d, e, c)))
          (lowest this refl stands e (upto _ k (λ i l y. ((h i l y).0, le_trans (le_of_lt (ltb-true _ _ c)) (h i l y).1)) (λ _. (e, le_refl _))))
      after_other false e false c d h =
          subst New (sym (simp (w, d, e, c))) (lowest p refl (wider p t) d (upto _ k h (λ _. (e, ltb-false _ _ c))))

    met : (r : Option Pick) → Old r → Got r
    met r (no_one f h) = subst Got (sym f) (alone (head_at live s tasks k) refl h)
    met r (highest_head p f t d h) =
        subst Got (sym f) (after_head p t (head_at live s tasks k) refl (ltb p.task.arrival a.arrival) refl d h)
    met r (lowest p f t d h) =
        subst Got (sym f) (after_other p t (head_at live s tasks k) refl (ltb a.arrival p.task.arrival) refl d h)

  step : (r : Option Pick) → Old r → New (considered live s r k a)
  unfolding considered
  step r o = elim (either_way (picks_live live s k a)) [ inl w ↦ met w r o | inr w ↦ subst New (sym (simp w)) (skipped r w o) ]

module _ (live : ℕ) (s : Selection) (tasks : List Task) where
  abbrev Right : Option Pick → Type 0
  Right = Next live s tasks (length tasks)

  -- m records are left
  goes : (m k : ℕ) (r : Option Pick) → k + m ≡ length tasks → Next live s tasks k r → Right (scan_from live s r k (drop k tasks))
  goes zero k r e o =
      subst Right (sym (scan_end live s r k tasks (omega arith) (omega arith))) (subst (λ (n : ℕ). Next live s tasks n r) (omega arith) o)
  goes (suc m) k r e o = subst Right (sym (scan_step live s r k tasks (omega arith))) (goes m (k + 1) _ (omega arith) (step live s tasks k r o))

pub scan_is_next : ScanIsNext
scan_is_next live s tasks = goes live s tasks (length tasks) 0 nobody (omega arith) (no_one refl (λ i l _. absurd (let h : i < 0 = l in omega arith)))

-- ---- what the answer tells: what is picked stands there, and one is picked where some record takes part

module _ (live : ℕ) (s : Selection) (tasks : List Task) where
  abbrev takes : ℕ → Bool
  takes i = picks_live live s i (get_or tasks i no_task)

  standing : (r : Option Pick) → Next live s tasks (length tasks) r → (p : Pick) → r ≡ Some p → Stands live s tasks (length tasks) p
  standing r (no_one f h) p e = absurd (none-some p (sym f ∙ e))
  standing r (highest_head q f t d h) p e = subst (Stands live s tasks (length tasks)) (same_Some q p (sym f ∙ e)) t
  standing r (lowest q f t d h) p e = subst (Stands live s tasks (length tasks)) (same_Some q p (sym f ∙ e)) t

  pub scan_stands : (p : Pick) → scan live s tasks ≡ Some p → Stands live s tasks (length tasks) p
  scan_stands p e = standing (scan live s tasks) (scan_is_next live s tasks) p e

  tells : (r : Option Pick) → Next live s tasks (length tasks) r → is_some r ≡ some_below (length tasks) takes
  tells r (no_one f h) = ap is_some f ∙ sym (some_none (length tasks) takes (λ i l. elim (either_way (takes i)) [ inl y ↦ absurd (h i l y) | inr n ↦ n ]))
  tells r (highest_head p f t d h) = ap is_some f ∙ sym (some_at (length tasks) p.at takes t.below t.takes)
  tells r (lowest p f t d h) = ap is_some f ∙ sym (some_at (length tasks) p.at takes t.below t.takes)

  pub found_is_some : is_some (scan live s tasks) ≡ some_below (length tasks) (λ i. picks_live live s i (get_or tasks i no_task))
  found_is_some = tells (scan live s tasks) (scan_is_next live s tasks)
