-- The header as the program reads it is the heading with nine of its ids, so it says what the heading says.
-- Assumes nothing.
use Rattle.std.proofs.Common.{ℕ, Bool, false, zero, suc, ◌≤◌, ◌<◌, ◌≡◌, refl, sym, ap, ◌∙◌, true, List, [], ◌∷◌, ◌++◌, append-nil, length, take, drop, replicate, length-append, arith}
use Rattle.std.proofs.lemmas.List.{take_all, take-append-le, length-take, length-take-le}
use Rattle.std.proofs.Math.Seq.{take-append_seam}
use mathlib.Core.Bool.{or-true, false≢true}
use lib.Seq.{append_snoc}
use lib.Dec.{ltb, eqb}
use borrow.Author.Tests.{ltb-true, ltb-false, lt-ltb}
use Rattle.std.specs.Prelude.{Option, None, Some}
use Rattle.std.proofs.lemmas.Option.{none-some, same_Some}
use Rattle.arrayvec.specs.ArrayVec.{ArrayVec}
use Rattle.table.specs.Setup.{bad_list}
use Rattle.input.specs.Numbers.{number_at, byte_at, id_at, given}
use Rattle.input.specs.Header.{Heading, malformed, heading, ids_then, heading_of}
use Rattle.input.specs.Reading.{kept_with, ids_from, padded, header_of}
use Rattle.input.specs.Promises.{Alike, Says}
use Rattle.input.specs.declared.header.Header.{Header}

-- ---- nine of the ids

abbrev nine_of : List ℕ → ArrayVec ℕ
nine_of ids = record { items = take 9 ids }

few_kept : (ids : List ℕ) → length ids < 9 → take 9 ids ≡ ids
few_kept ids h = take_all 9 ids (omega arith)

many_kept : (ids : List ℕ) → 9 ≤ length ids → length (take 9 ids) ≡ 9
many_kept ids h = length-take-le 9 ids h

nine_at_most : (ids : List ℕ) → length (take 9 ids) ≤ 9
nine_at_most ids = omega (arith, length-take 9 ids)

-- the ids are those at the front of the places
padded_front : (ids : List ℕ) → length ids ≤ 9 → take (length ids) (padded ids) ≡ ids
padded_front ids h = rw (take_all 9 ids h) (take-append_seam ids (drop (length ids) (replicate 9 0)))

-- nine of so many, and one more, are nine of all
kept_next : (ids : List ℕ) (id : ℕ) → kept_with (take 9 ids) id ≡ take 9 (ids ++ id ∷ [])
kept_next ids id = by_length (ltb (length ids) 9) refl
  where
    by_length : (b : Bool) → ltb (length ids) 9 ≡ b → kept_with (take 9 ids) id ≡ take 9 (ids ++ id ∷ [])
    by_length true t =
        let few : length ids < 9 = ltb-true _ _ t in
        let room : length (ids ++ id ∷ []) ≤ 9 = simp length-append (omega arith) in
        rw (few_kept ids few, lt-ltb _ _ few, take_all 9 (ids ++ id ∷ []) room)
    by_length false t =
        let many : 9 ≤ length ids = ltb-false _ _ t in
        rw (many_kept ids many, take-append-le 9 ids (id ∷ []) many)

-- ---- lists of ids

long_bad : (ids : List ℕ) → 8 < length ids → bad_list ids ≡ true
unfolding bad_list
long_bad ids h = rw (lt-ltb _ _ h) (or-true (eqb (length ids) 0))

alike : (ids : List ℕ) → Alike (take 9 ids) ids
alike ids = by_length (ltb (length ids) 9) refl
  where
    by_length : (b : Bool) → ltb (length ids) 9 ≡ b → Alike (take 9 ids) ids
    by_length true t =
        let e = few_kept ids (ltb-true _ _ t) in
        (ap bad_list e, λ f. e)
    by_length false t =
        let many : 9 ≤ length ids = ltb-false _ _ t in
        let bad : bad_list ids ≡ true = long_bad ids (omega arith) in
        let kept : bad_list (take 9 ids) ≡ true = long_bad (take 9 ids) (omega (arith, many_kept ids many)) in
        (kept ∙ sym bad, λ f. absurd (false≢true (sym f ∙ bad)))

-- ---- the header

-- what the code keeps of a heading
abbrev kept_of : Heading → Option Header
kept_of malformed = None
kept_of (heading ids mask first next) =
    Some (record { first = first; next = next; count = length (take 9 ids); ids = padded (take 9 ids); mask = mask })

-- what follows from what was read, told in two ways
given_both :
    {T : Type 0} (r : Option (T × ℕ)) (f : T → ℕ → Heading) (g : T → ℕ → Option Header) → ((v : T) (next : ℕ) → kept_of (f v next) ≡ g v next)
    → kept_of (given malformed r f) ≡ given None r g
unfolding given
given_both None f g k = refl
given_both (Some (v, next)) f g k = k v next

given_twice :
    {T U : Type 0} (r : Option (T × ℕ)) (f : T → ℕ → Heading) (h : T → ℕ → Option (U × ℕ)) (g : U → ℕ → Option Header)
    → ((v : T) (next : ℕ) → kept_of (f v next) ≡ given None (h v next) g) → kept_of (given malformed r f) ≡ given None (given None r h) g
unfolding given
given_twice None f h g k = refl
given_twice (Some (v, next)) f h g k = k v next

module _ (s : List ℕ) where
  ids_both :
      (n at : ℕ) (front : List ℕ) (f : List ℕ → ℕ → Heading) (g : ArrayVec ℕ → ℕ → Option Header)
      → ((ids : List ℕ) (next : ℕ) → kept_of (f ids next) ≡ g (nine_of (front ++ ids)) next)
      → kept_of (ids_then n s at f) ≡ given None (ids_from n s at (take 9 front)) g
  unfolding ids_then ids_from given
  ids_both zero at front f g k = k [] at ∙ rw append-nil
  ids_both (suc n) at front f g k =
      given_twice (id_at s at) _ _ g
      (λ id next. rw (kept_next front id)
      (ids_both n next (front ++ id ∷ []) _ g (λ ids after. k (id ∷ ids) after ∙ rw append_snoc)))

  pub header_kept : kept_of (heading_of s) ≡ header_of s
  unfolding heading_of header_of
  header_kept =
      given_both (byte_at s 0) _ _ (λ count a.
      ids_both count a [] _ _ (λ ids b.
      given_both (byte_at s b) _ _ (λ mask c.
      given_both (number_at s c) _ _ (λ first next. refl))))

said : (h : Heading) → Says h (kept_of h)
said malformed = refl
said (heading ids mask first next) = (refl, refl, refl, rw (padded_front (take 9 ids) (nine_at_most ids)) (alike ids))

pub header_read : (s : List ℕ) → Says (heading_of s) (header_of s)
header_read s = rw (← header_kept s) (said (heading_of s))

pub at_most_nine : (s : List ℕ) (h : Header) → header_of s ≡ Some h → h.count ≤ 9
at_most_nine s h e = by_heading (heading_of s) (header_kept s ∙ e)
  where
    by_heading : (k : Heading) → kept_of k ≡ Some h → h.count ≤ 9
    by_heading malformed q = absurd (none-some h q)
    by_heading (heading ids mask first next) q = rw (← same_Some _ h q) (nine_at_most ids)
