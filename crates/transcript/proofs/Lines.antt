-- Lines in the making: bytes put one text behind another, and a number in decimal.
-- Assumes nothing.
use Rattle.std.proofs.Common.{ℕ, zero, suc, ◌-◌, ◌^◌, ◌<◌, ◌≡◌, refl, sym, ap, ◌∙◌, List, [], ◌∷◌, ◌++◌, append_assoc, append-nil, length, take, min, length-append, arith}
use Rattle.std.proofs.Math.Seq.{take-nil}
use Rattle.std.proofs.lemmas.List.{take_min, length-take-le}
use Rattle.std.proofs.lemmas.Fmt.{AppendsLastDigit, decimal_from_appends, length-decimal-le}
use Rattle.std.specs.Prelude.{decimal}
use lib.Dec.{ltb}
use Rattle.wire.proofs.Table.{cond_ind}
use borrow.Author.Tests.{lt-ltb, le-ltb}
use Rattle.transcript.specs.Lines.{push_all, handed_of, handed_in, decimal_in, decimal_of}

-- ---- texts in a row

-- as many as there is room for, of one text and of the next behind it
take_both : {A : Type 0} (m : ℕ) (a b : List A) → take m a ++ take (m - length (take m a)) b ≡ take m (a ++ b)
take_both zero a b = refl
take_both (suc m) [] b =
    let e : suc m - 0 ≡ suc m = omega arith in
    rw e
take_both (suc m) (x ∷ a) b =
    let e : suc m - suc (length (take m a)) ≡ m - length (take m a) = omega arith in
    rw e (ap (λ (l : List _). x ∷ l) (take_both m a b))

pub push_nothing : (l : List ℕ) → push_all l [] ≡ l
unfolding push_all
push_nothing l = ap (λ (t : List ℕ). l ++ t) (take-nil (64 - length l)) ∙ append-nil l

pub push_append : (l a b : List ℕ) → push_all (push_all l a) b ≡ push_all l (a ++ b)
unfolding push_all
push_append l a b =
    let room : 64 - length (l ++ take (64 - length l) a) ≡ 64 - length l - length (take (64 - length l) a) = simp length-append (omega arith) in
    append_assoc l _ _ ∙ rw room (ap (λ (t : List ℕ). l ++ t) (take_both (64 - length l) a b))

-- as many bytes of a word as there is room for, behind those of a line
pub pushed_word :
    (bytes word : List ℕ) (len at n : ℕ) → length bytes ≡ 64 → at ≡ min len 64 → n ≡ min (length word) (64 - at)
    → take at bytes ++ take n word ≡ push_all (take len bytes) word
unfolding push_all
pushed_word bytes word len at n b a e =
    let front : take at bytes ≡ take len bytes = ap (λ (k : ℕ). take k bytes) (a ∙ ap (min len) (sym b)) ∙ take_min len bytes in
    let count : length (take at bytes) ≡ at = length-take-le at bytes (omega arith) in
    let room : n ≡ min (64 - at) (length word) = omega arith in
    let all : take n word ≡ take (64 - at) word = ap (λ (k : ℕ). take k word) room ∙ take_min (64 - at) word in
    rw (← front, count, all)

-- nothing, handed over
module _ (buf : List ℕ) where
  pub nothing_counted : handed_of (push_all [] []) buf ≡ 0
  unfolding handed_of
  nothing_counted = rw (push_nothing []) (cond_ind (λ (n : ℕ). n ≡ 0) (ltb (length buf) 64) (λ t. refl) (λ t. refl))

  pub nothing_copied : handed_in (push_all [] []) buf ≡ buf
  unfolding handed_in
  nothing_copied = rw (push_nothing []) (cond_ind (λ (l : List ℕ). l ≡ buf) (ltb (length buf) 64) (λ t. refl) (λ t. refl))

-- ---- a number in decimal

appends : AppendsLastDigit decimal_in
unfolding decimal_in
appends = record { one = λ k n h. rw (lt-ltb n 10 h); more = λ k n h. rw (le-ltb n 10 h) }

-- std's text of a number is that of the definition
pub decimal_law : (n : ℕ) → n < 2 ^ 64 → decimal n ≡ decimal_of n
decimal_law n h = sym (decimal_from_appends decimal_in appends 20 n h (length-decimal-le 20 n (omega arith) (omega arith) h))
