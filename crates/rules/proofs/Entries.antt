-- What a list of rules answers: what holds of every rule holds of the one that decides, and where the list ends in
-- acceptance, no rule of it applied. Assumes nothing.
use Prim.Native.Nat.{ℕ, zero, suc}
use mathlib.Core.Path.{◌≡◌, refl, ap}
use mathlib.Core.Bool.{Bool, true, false, ◌&&◌}
use mathlib.Core.List.{List, [], ◌∷◌, ◌++◌, map}
use mathlib.Core.Logic.{inl, inr}
use lib.ListN.{get_or}
use Rattle.wire.proofs.Table.{cond_ind}
use Rattle.task.proofs.Ways.{either_way, never, both}
use Rattle.rules.specs.First.{Rule, first_that}
use Rattle.rules.specs.declared.command.Ruling.{Ruling}
use Rattle.rules.specs.declared.command.Ruling.TheVariants.{Refuse, Respond, Report, Invalid, Accept}

-- every rule meets a test
unfoldable pub every_rule : (Rule → Bool) → List Rule → Bool
every_rule test [] = true
every_rule test (r ∷ rs) = test r && every_rule test rs

pub first_meets : (test : Rule → Bool) (rs : List Rule) (last : Rule) → every_rule test rs ≡ true → test last ≡ true → test (first_that rs last) ≡ true
unfolding first_that every_rule
first_meets test [] last h e = e
first_meets test (r ∷ rs) last h e =
    let k = both (test r) _ h in
    cond_ind (λ (x : Rule). test x ≡ true) r.applies (λ _. k.0) (λ _. first_meets test rs last k.1 e)

-- the rule that decides applies; and where a rule applies, none behind it is looked at
pub first_applies : (rs : List Rule) (last : Rule) → last.applies ≡ true → (first_that rs last).applies ≡ true
unfolding first_that
first_applies [] last h = h
first_applies (r ∷ rs) last h = cond_ind (λ (x : Rule). x.applies ≡ true) r.applies (λ e. e) (λ _. first_applies rs last h)

pub cut_at : (rs : List Rule) (r : Rule) (behind : List Rule) (last : Rule) → r.applies ≡ true → first_that (rs ++ (r ∷ behind)) last ≡ first_that rs r
unfolding first_that
cut_at [] r behind last h = rw h
cut_at (x ∷ rs) r behind last h = rw (cut_at rs r behind last h)

abbrev pub not_accept : Ruling → Bool
not_accept (Refuse n) = true
not_accept (Respond code sender) = true
not_accept (Report status sense sender queue) = true
not_accept (Invalid sender) = true
not_accept Accept = false

-- the rule does not accept
abbrev pub turns_away : Rule → Bool
turns_away r = not_accept r.gives

-- whether the rule at k applies
abbrev pub applies_at : List Rule → ℕ → Bool
applies_at rs k = get_or (map (λ (r : Rule). r.applies) rs) k false

pub passed : (rs : List Rule) (last : Rule) → every_rule turns_away rs ≡ true → (first_that rs last).gives ≡ Accept → (k : ℕ) → applies_at rs k ≡ false
unfolding first_that every_rule
passed [] last h e k = refl
passed (r ∷ rs) last h e k = elim (either_way r.applies) [
  | inl a ↦ absurd (never (both _ _ h).0 (ap not_accept (rw a at e)))
  | inr a ↦ later k a (passed rs last (both (turns_away r) _ h).1 (rw a at e))
]
  where
    later : (k : ℕ) → r.applies ≡ false → ((k : ℕ) → applies_at rs k ≡ false) → applies_at (r ∷ rs) k ≡ false
    later zero a f = a
    later (suc k) a f = f k
