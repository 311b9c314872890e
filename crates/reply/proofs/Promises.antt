-- Reading gives back what was written, and writing what was read; a refusal leaves the buffer; no reply is longer
-- than 64 bytes. Assumes nothing.
use Prim.Native.Nat.{ℕ, ◌/◌, ◌%◌}
use Rattle.std.proofs.Common.{Result, Ok, Err}
use mathlib.Core.Path.{◌≡◌, refl, sym, ap, ◌∙◌}
use mathlib.Core.Bool.{Bool, true, false, cond, ◌&&◌, and-eq-true_iff}
use mathlib.Core.List.{List, ◌∷◌, ◌++◌}
use lib.ListN.{length, take, drop, length-append}
use lib.Dec.{eqb, ltb}
use lib.Seq.{take-append_seam}
use borrow.Author.Tests.{le-ltb, eqb-true, eqb-false}
use native.Mathlib.Nat.{div-add-mod'}
use native.Mathlib.Omega.{arith}
use Rattle.std.proofs.lemmas.Bool.Decides.{Decides-eqb}
use Rattle.std.proofs.lemmas.Slice.Eq.{starts_is}
use Rattle.std.specs.List.{starts_with}
use Rattle.wire.specs.Codes.{too_short, not_handled, small_buffer, not_writable, reply_room}
use Rattle.wire.specs.Codes.{sms_code, scsi_status, check_condition, sense, no_sense}
use Rattle.wire.specs.declared.codes.Refusal.{Refusal}
use Rattle.wire.specs.declared.codes.ReturnCode.{ReturnCode}
use Rattle.wire.specs.declared.codes.StatusByte.{StatusByte}
use Rattle.wire.specs.declared.codes.Sense.{Sense}
use Rattle.wire.proofs.Table.{cond_ind}
use Rattle.reply.specs.Replies.{is_none, writable_of, bytes_of, response_length, status_length}
use Rattle.reply.specs.Calls.{written_of, left_of, placed, fitted, as_response, as_status, found_in}
use Rattle.reply.specs.Promises.{ReadsWhatWasWritten, WritesWhatWasRead, RefusalLeavesTheBuffer, NoReplyIsLonger}
use Rattle.reply.specs.declared.Reply.{Reply}
use Rattle.reply.specs.declared.Reply.TheVariants.{Response, Status, Invalid}
use Rattle.reply.proofs.Cases.{whole_response, whole_status, each_finding}

-- ---- reading what was written

fits_itself : (r : Reply) (rest : List ℕ) → writable_of r ≡ true → Ok r ≡ fitted r (bytes_of r ++ rest)
unfolding fitted
fits_itself r rest w = rw (w, (starts_is Decides-eqb (bytes_of r ++ rest) (bytes_of r) _ refl).1 rest refl)

-- the fields of a reply's bytes are its own
response_fields : (t : ℕ) (c : ReturnCode) (rest : List ℕ) → Response t c ≡ as_response (bytes_of (Response t c) ++ rest)
unfolding bytes_of
response_fields t c rest = ap (λ n. Response n c) (sym (div-add-mod' t 256))

none_is : (s : Sense) → is_none s ≡ true → s ≡ no_sense
none_is s h =
    let p = (and-eq-true_iff (eqb s.key 0) _).0 h in
    let q = (and-eq-true_iff (eqb s.code 0) _).0 p.1 in
    let e : sense s.key s.code s.qualifier ≡ no_sense = rw (eqb-true s.key 0 p.0, eqb-true s.code 0 q.0, eqb-true s.qualifier 0 q.1) in
    e

status_fields : (t : ℕ) (x : StatusByte) (s : Sense) (rest : List ℕ) (b : Bool) → eqb x.0 check_condition.0 ≡ b → writable_of (Status t x s) ≡ true → Status t x s ≡ as_status (bytes_of (Status t x s) ++ rest)
unfolding bytes_of writable_of
status_fields t x s rest true e w = rw e (ap (λ n. Status n x s) (sym (div-add-mod' t 256)))
status_fields t x s rest false e w =
    let n : s ≡ no_sense = none_is s ((and-eq-true_iff (is_none s) _).0 (rw e at w)).0 in
    rw (e, n) (ap (λ k. Status k x no_sense) (sym (div-add-mod' t 256)))

invalid_fields : (t : ℕ) (rest : List ℕ) → Invalid t ≡ as_status (bytes_of (Invalid t) ++ rest)
unfolding bytes_of
invalid_fields t rest = ap Invalid (sym (div-add-mod' t 256))

pub response_length_law : (t : ℕ) (c : ReturnCode) → length (bytes_of (Response t c)) ≡ response_length
unfolding bytes_of
response_length_law t c = refl

pub status_length_law : (t : ℕ) (x : StatusByte) (s : Sense) → length (bytes_of (Status t x s)) ≡ status_length
unfolding bytes_of
status_length_law t x s =
    cond_ind (λ l. length (sms_code ∷ scsi_status ∷ t / 256 ∷ t % 256 ∷ x.0 ∷ 0 ∷ 0 ∷ 0 ∷ l) ≡ status_length) (eqb x.0 check_condition.0)
    (λ _. refl) (λ _. refl)

pub invalid_length : (t : ℕ) → length (bytes_of (Invalid t)) ≡ status_length
unfolding bytes_of
invalid_length t = refl

pub no_reply_is_longer : NoReplyIsLonger
no_reply_is_longer (Response t c) = omega (arith, response_length_law t c)
no_reply_is_longer (Status t x s) = omega (arith, status_length_law t x s)
no_reply_is_longer (Invalid t) = omega (arith, invalid_length t)

read_back : (r : Reply) (rest : List ℕ) → writable_of r ≡ true → Ok r ≡ found_in (bytes_of r ++ rest)
unfolding bytes_of
read_back (Response t c) rest w =
    whole_response _ (omega arith) refl refl (omega arith) (response_fields t c rest) (fits_itself (Response t c) rest w)
read_back (Status t x s) rest w =
    whole_status _ (omega arith) refl (λ e. eqb-false 17 3 refl e) refl (omega (arith, length-append (bytes_of (Status t x s)) rest, status_length_law t x s))
    (status_fields t x s rest _ refl w) (fits_itself (Status t x s) rest w)
read_back (Invalid t) rest w =
    whole_status _ (omega arith) refl (λ e. eqb-false 17 3 refl e) refl (omega (arith, length-append (bytes_of (Invalid t)) rest, invalid_length t))
    (invalid_fields t rest) (fits_itself (Invalid t) rest w)

-- the writer's answer says which way it went
wrote : (a b : Bool) (n k : ℕ) (x y : List ℕ) → Ok n ≡ cond a (Err small_buffer) (cond b (Ok k) (Err not_writable)) → (b ≡ true) × (cond a x (cond b y x) ≡ y)
wrote true b n k x y e = absurd cc
wrote false true n k x y e = (refl, refl)
wrote false false n k x y e = absurd cc

kept : (a b : Bool) (n : Refusal) (k : ℕ) (x y : List ℕ) → Err n ≡ cond a (Err small_buffer) (cond b (Ok k) (Err not_writable)) → cond a x (cond b y x) ≡ x
kept true b n k x y e = refl
kept false true n k x y e = absurd cc
kept false false n k x y e = refl

pub reads_what_was_written : ReadsWhatWasWritten
unfolding written_of left_of
reads_what_was_written r buf left n w =
    let h = wrote (ltb (length buf) reply_room) (writable_of r) n _ buf (placed (bytes_of r) buf) w.answer in
    rw (w.buffer ∙ h.1) (sym (read_back r _ h.0))

pub refusal_leaves_the_buffer : RefusalLeavesTheBuffer
unfolding written_of left_of
refusal_leaves_the_buffer r buf left n w =
    w.buffer ∙ kept (ltb (length buf) reply_room) (writable_of r) n _ buf (placed (bytes_of r) buf) w.answer

-- ---- writing what was read

-- where r is found, it can be written, and its bytes are there
abbrev Good : List ℕ → Reply → (Result Reply Refusal) → Type 0
Good b r f = f ≡ Ok r → (writable_of r ≡ true) × (take (length (bytes_of r)) b ≡ bytes_of r)

module _ (b : List ℕ) (r : Reply) where
  no : (n : Refusal) → Good b r (Err n)
  no n e = absurd cc

  yes : (s : Reply) → Good b r (fitted s b)
  unfolding fitted
  yes s = cond_ind (Good b r) (writable_of s && starts_with eqb b (bytes_of s)) (λ h e.
      let q : s ≡ r = cc in
      let p = (and-eq-true_iff (writable_of s) _).0 h in
      let front : b ≡ bytes_of s ++ drop (length (bytes_of s)) b = (starts_is Decides-eqb b (bytes_of s) _ refl).0 p.1 in
      rw (← q) (p.0, ap (take (length (bytes_of s))) front ∙ take-append_seam (bytes_of s) _))
      (λ _. no not_writable)

stands_there : (b : List ℕ) (r : Reply) → Good b r (found_in b)
stands_there b r =
    each_finding (Good b r) b (no b r too_short) (λ _ _. no b r not_handled)
    (λ _ _ _ _. yes b r (as_response b)) (λ _ _ _ _ _. yes b r (as_status b)) (λ _ _ _ _. no b r not_handled)

pub writes_what_was_read : WritesWhatWasRead
unfolding written_of left_of
writes_what_was_read b buf left r w e l h =
    let g = stands_there b r e in
    let room = le-ltb (length buf) reply_room l in
    let filled : left ≡ placed (bytes_of r) buf = h.buffer ∙ simp (room, g.0) in
    (h.answer ∙ simp (room, g.0), ap (take (length (bytes_of r))) filled ∙ take-append_seam (bytes_of r) _ ∙ sym g.1)
