-- Every line fits its 64 bytes, so what is written of it is the whole line, and the whole line is left in a buffer of
-- 64 bytes or more. Assumes nothing.
use Rattle.std.specs.Prelude.{Result, Ok, Err}
use Rattle.wire.specs.Codes
use Rattle.wire.specs.declared.codes.Refusal.{Refusal}
use Prim.Native.Nat.{ℕ, zero, suc, ◌/◌, ◌≤◌, zero-le}
use mathlib.Core.Path.{◌≡◌, refl}
use mathlib.Core.List.{List, []}
use lib.ListN.{length, drop, length-append}
use lib.Seq.{take-append_seam}
use Rattle.std.specs.Prelude.{Option, None, Some}
use Rattle.std.proofs.lemmas.List.{take_all}
use lib.Dec.{ltb}
use native.Mathlib.Omega.{arith}
use borrow.Author.Tests.{le-ltb}
use Rattle.task.specs.Map.{live_count}
use Rattle.wire.proofs.Table.{cond_ind}
use Rattle.plan.specs.declared.Answer.{Answer}
use Rattle.reply.specs.declared.Reply.{Reply}
use Rattle.reply.specs.declared.Reply.TheVariants.{Response, Status, Invalid}
use Rattle.plan.specs.declared.Answer.TheVariants as answer
use Rattle.plan.specs.declared.Answer.TheVariants.{Ready, Accepted, Started, Confirmed, Restarted, Reset}
use Rattle.transcript.specs.Lines.{push_all, decimal_in, reply_text, answer_text, line_of, handed_of, handed_in, Handed}
use Rattle.transcript.specs.Playing.{turned, line_told, turn_text, step_of, line_left, Advances, last_text, last_line}
use Rattle.transcript.specs.Promises.{Fits, Leaves}
use Rattle.transcript.specs.declared.play.State.{State}
use Rattle.transcript.specs.declared.play.State.TheVariants as state
use Rattle.transcript.specs.declared.play.Player.{Player}
use Rattle.transcript.specs.declared.play.Step.{Step}

pub whole : (bs : List ℕ) → length bs ≤ 64 → Fits bs
unfolding push_all
whole bs h = take_all 64 bs h

decimal_short : (k n : ℕ) → length (decimal_in k n) ≤ k
unfolding decimal_in
decimal_short zero n = zero-le
decimal_short (suc k) n =
    cond_ind (λ (ds : List ℕ). length ds ≤ suc k) (ltb n 10) (λ t. omega arith)
    (λ t. simp length-append (omega (arith, decimal_short k (n / 10))))

reply_short : (r : Reply) → length (reply_text r) ≤ 31
unfolding reply_text
reply_short (Response tag code) = omega arith
reply_short (Status tag status sense) = omega arith
reply_short (Invalid tag) = omega arith

text_short : (a : Result Answer Refusal) → length (answer_text a) ≤ 31
unfolding answer_text
text_short (Ok Ready) = omega arith
text_short (Ok (Accepted n)) = omega (arith, decimal_short 20 n)
text_short (Ok (answer.Reply r)) = reply_short r
text_short (Ok (Started offset arrival)) = omega (arith, decimal_short 20 arrival)
text_short (Ok (Confirmed n)) = omega (arith, decimal_short 20 n)
text_short (Ok (Restarted n)) = omega (arith, decimal_short 20 n)
text_short (Ok Reset) = omega arith
text_short (Err n) = omega (arith, decimal_short 20 (Codes.refusal_number n))

line_short : (n : ℕ) (a : Result Answer Refusal) → length (line_of n a) ≤ 64
line_short n a = simp length-append (omega (arith, decimal_short 20 n, text_short a))

pub line_whole : (n : ℕ) (a : Result Answer Refusal) → Fits (line_of n a)
line_whole n a = whole (line_of n a) (line_short n a)

last_short : (p : Player) → length (last_text p) ≤ 64
unfolding last_text
last_short p = by_state p.state refl
  where
    by_state : (st : State) → p.state ≡ st → length (last_text p) ≤ 64
    by_state state.Playing e = rw e (omega arith)
    by_state state.Done e = rw e (simp length-append (omega (arith, decimal_short 20 (live_count p.table.live))))
    by_state state.Bad e = rw e (omega arith)
    by_state state.Refused e = rw e (simp length-append (omega (arith, decimal_short 20 11)))

pub last_whole : (p : Player) → Fits (last_text p)
last_whole p = whole (last_text p) (last_short p)

-- ---- what is left in a lent buffer of 64 bytes or more

module _ (buf : List ℕ) (room : 64 ≤ length buf) where
  text_left : (bs : List ℕ) → length bs ≤ 64 → Leaves bs (handed_of (push_all [] bs) buf) (handed_in (push_all [] bs) buf)
  unfolding handed_of handed_in
  text_left bs h = rw (whole bs h, le-ltb _ _ room) (refl, take-append_seam bs (drop (length bs) buf))

  told_short : (n : ℕ) (a : Option (Result Answer Refusal)) → length (line_told n a) ≤ 64
  told_short n None = zero-le
  told_short n (Some a) = line_short n a

  pub advance_leaves :
      (p : Player) (s : List ℕ) (r : Step) (left : List ℕ) → Advances p s buf r left
      → (r.player ≡ (turned p s).player) × Leaves (turn_text (turned p s)) r.wrote left
  unfolding step_of line_left
  advance_leaves p s r left a =
      rw (a.step, a.buffer, le-ltb _ _ room)
      (refl, text_left (turn_text (turned p s)) (told_short (turned p s).player.number (turned p s).answer))

  pub close_leaves : (p : Player) (wrote : ℕ) (left : List ℕ) → Handed (last_line p) buf wrote left → Leaves (last_text p) wrote left
  close_leaves p wrote left h = rw (h.wrote, h.buffer) (text_left (last_text p) (last_short p))
