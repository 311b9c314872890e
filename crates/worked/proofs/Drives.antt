-- The three wrong drives do not meet demand 2, by the examples c, e and f. Assumes nothing.
use Rattle.std.specs.Prelude.{Result, Ok, Err}
use Prim.Native.Nat.{ℕ}
use mathlib.Core.Path.{◌≡◌, sym, ap, ◌∙◌}
use mathlib.Core.List.{List, [], map}
use native.Mathlib.Omega.{arith}
use lib.ListN.{get_or}
use Rattle.wire.specs.Codes
use Rattle.wire.proofs.Results.{same_Ok, ok-err, err-ok}
use Rattle.table.specs.declared.Table.{Table}
use Rattle.plan.specs.declared.Answer.{Answer}
use Rattle.reply.specs.declared.Reply.TheVariants.{Response, Status}
use Rattle.plan.specs.declared.Answer.TheVariants.{Ready, Accepted, Reply}
use Rattle.engine.specs.Calls.{message_of}
use Rattle.worked.specs.Examples.{numbered, quiet, full, plain, resumed, again, examples, buffer, got, said}
use Rattle.worked.specs.Drives.{MessageDrive, MeetsAt, WrongDrives}
use Rattle.engine.specs.declared.Outcome.{Outcome}
use Rattle.worked.proofs.Examples.{examples_hold}

-- the answer of a table to a message
abbrev to : Table → List ℕ → Result Answer ℕ
to t m = numbered (message_of t m 64).answer

-- the answers of the examples by their place in the table
row : (k : ℕ) → (get_or (map got examples) k ((Ok Ready), [])).0 ≡ (get_or (map said examples) k ((Ok Ready), [])).0
row k = ap (λ (l : List (Result Answer ℕ × List ℕ)). (get_or l k ((Ok Ready), [])).0) examples_hold

example_c : to quiet plain ≡ Ok (Accepted 1)
unfolding examples
example_c = row 4

example_e : to quiet resumed ≡ Ok (Reply (Response 5 (Codes.return_code 0xff)))
unfolding examples
example_e = row 6

example_f : to full plain ≡ Ok (Reply (Status 5 (Codes.status_byte 0x28) Codes.no_sense))
unfolding examples
example_f = row 7

example_f_again : to again plain ≡ Err (4)
unfolding examples
example_f_again = row 8

-- what a drive answers where it meets demand 2
answers : (d : MessageDrive) (t : Table) (m : List ℕ) → MeetsAt d t m → numbered (d.outcome t m buffer).answer ≡ to t m
answers d t m meets = ap (λ (o : Outcome). numbered o.answer) meets.outcome

pub wrong_drives : WrongDrives
wrong_drives d = (
  λ c refuses.
      let r = refuses quiet plain buffer in
      ok-err (sym example_c ∙ sym (answers d quiet plain c) ∙ ap numbered r.1),
  λ c r a one.
      let same : Accepted 1 ≡ Reply (Response 5 (Codes.return_code 0xff)) =
      same_Ok _ _ (sym example_c ∙ sym (answers d quiet plain c) ∙ ap numbered (one quiet plain buffer ∙ sym (one quiet resumed buffer)) ∙ answers d quiet resumed r ∙ example_e) in
      let z : ◌≡◌ {A = ℕ} 0 1 = cc in omega arith,
  λ f stays.
      let same : again ≡ full = sym (ap (λ (o : Outcome). o.table) f.outcome) ∙ stays full plain buffer in
      err-ok (sym example_f_again ∙ ap (λ (t : Table). to t plain) same ∙ example_f),
)
