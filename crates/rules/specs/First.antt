-- A list of rules: the answer is that of the first that applies, and where none does, of the last.
use Rattle.std.specs.Prelude.{ℕ, Bool, cond, List, [], ◌∷◌}
use Rattle.rules.specs.declared.command.Ruling.{Ruling}

-- a rule: its number on page 01, whether it applies, the field value behind it, and what it answers
pub record Rule : Type 0 where
  pub number : ℕ
  pub applies : Bool
  pub field : ℕ
  pub gives : Ruling

abbrev pub rule : ℕ → Bool → ℕ → Ruling → Rule
rule number applies field gives = record { number = number; applies = applies; field = field; gives = gives }

unfoldable pub first_that : List Rule → Rule → Rule
first_that [] last = last
first_that (r ∷ rs) last = cond r.applies r (first_that rs last)
