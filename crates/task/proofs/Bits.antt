-- Bits of a number of any width: by halves, of `&`, `|`, `!` and a power, and of the map of what a test picks.
-- Assumes nothing.
use Prim.Native.Nat.{ℕ, zero, suc, ◌+◌, ◌-◌, ◌*◌, ◌/◌, ◌%◌, ◌^◌, ◌≤◌, ◌<◌, min, max, suc-le-suc}
use mathlib.Core.Path.{◌≡◌, refl, sym, ap, ap₂, ◌∙◌, fun_ext}
use mathlib.Core.Bool.{Bool, true, false, cond, not, ◌||◌, ◌&&◌}
use native.Mathlib.Nat.{pow-suc, mod-lt, div-one, zero-div, one-mul, div-eq_of_lt, lt_of_lt_of_le, le_of_suc-le-suc}
use native.Mathlib.Numerals.{one-add}
use native.Mathlib.Omega.{arith}
use lib.Dec.{eqb, lit<}
use lib.Pow.{pow_mono, shl-shr, shr-shr}
use lib.Arith.{lt-one}
use lib.Bits.{bit_and, bit_or, and_shr, and_step, or_shr, or_step}
use lib.Count.{count_trailing_zeros, under, ones, ones_step}
use Rattle.task.specs.Index.{first, sum, count, one, map_of}
use Rattle.task.specs.Map.{is_live, is_free}
use Rattle.task.proofs.Places.{sum_suc}

-- ---- digits

each_digit : (P : ℕ → Type 0) → P 0 → P 1 → (d : ℕ) → d < 2 → P d
each_digit P u v zero h = u
each_digit P u v (suc zero) h = v
each_digit P u v (suc (suc d)) h = absurd (omega arith)

each_pair : (P : ℕ → ℕ → Type 0) → P 0 0 → P 0 1 → P 1 0 → P 1 1 → (x y : ℕ) → x < 2 → y < 2 → P x y
each_pair P s t u v x y h l = each_digit (λ (x : ℕ). P x y) (each_digit (P 0) s t y l) (each_digit (P 1) u v y l) x h

-- a digit is told by its test
digit : (d : ℕ) → d < 2 → d ≡ one (eqb d 1)
digit = each_digit (λ (d : ℕ). d ≡ one (eqb d 1)) refl refl

digit_and : (x y : ℕ) → x < 2 → y < 2 → eqb (min x y) 1 ≡ (eqb x 1 && eqb y 1)
digit_and = each_pair (λ (x y : ℕ). eqb (min x y) 1 ≡ (eqb x 1 && eqb y 1)) refl refl refl refl

digit_or : (x y : ℕ) → x < 2 → y < 2 → eqb (max x y) 1 ≡ (eqb x 1 || eqb y 1)
digit_or = each_pair (λ (x y : ℕ). eqb (max x y) 1 ≡ (eqb x 1 || eqb y 1)) refl refl refl refl

digit_not : (d : ℕ) → d < 2 → eqb (1 - d) 1 ≡ not (eqb d 1)
digit_not = each_digit (λ (d : ℕ). eqb (1 - d) 1 ≡ not (eqb d 1)) refl refl

one_is : (b : Bool) → eqb (one b) 1 ≡ b
one_is true = refl
one_is false = refl

one_lt : (b : Bool) → one b < 2
one_lt true = lit< tt
one_lt false = lit< tt

odd_lt : (a : ℕ) → a % 2 < 2
odd_lt a = mod-lt a (lit< tt)

-- ---- by halves

pub live_zero : (a : ℕ) → is_live a zero ≡ eqb (a % 2) 1
live_zero a = ap (λ (n : ℕ). eqb (n % 2) 1) (div-one a)

pub live_suc : (a i : ℕ) → is_live a (suc i) ≡ is_live (a / 2) i
live_suc a i = rw (← one-add i, ← shr-shr a 1 i)

-- the number with b as its lowest bit over the bits of m
pub live_low : (b : Bool) (m : ℕ) → is_live (one b + 2 * m) zero ≡ b
live_low b m =
    let e : (one b + 2 * m) % 2 ≡ one b = omega (arith, one_lt b) in
    live_zero (one b + 2 * m) ∙ ap (λ (n : ℕ). eqb n 1) e ∙ one_is b

pub live_high : (b : Bool) (m i : ℕ) → is_live (one b + 2 * m) (suc i) ≡ is_live m i
live_high b m i =
    let e : (one b + 2 * m) / 2 ≡ m = omega (arith, one_lt b) in
    live_suc (one b + 2 * m) i ∙ ap (λ (n : ℕ). is_live n i) e

-- ---- a number below 2 ^ k is its lowest k bits

pub dead_past : (k a i : ℕ) → a < 2 ^ k → k ≤ i → is_live a i ≡ false
dead_past k a i h l = ap (λ (n : ℕ). eqb (n % 2) 1) (div-eq_of_lt (lt_of_lt_of_le h (pow_mono l)))

pub dead_zero : (i : ℕ) → is_live 0 i ≡ false
dead_zero i = ap (λ (n : ℕ). eqb (n % 2) 1) (zero-div (2 ^ i))

pub ext_live : (k a b : ℕ) → a < 2 ^ k → b < 2 ^ k → ((i : ℕ) → i < k → is_live a i ≡ is_live b i) → a ≡ b
ext_live zero a b h l e = lt-one h ∙ sym (lt-one l)
ext_live (suc k) a b h l e =
    let low : one (eqb (a % 2) 1) ≡ one (eqb (b % 2) 1) = ap one (sym (live_zero a) ∙ e zero (omega arith) ∙ live_zero b) in
    let high : a / 2 ≡ b / 2 =
    ext_live k (a / 2) (b / 2) (omega (arith, pow-suc 2 k)) (omega (arith, pow-suc 2 k))
    (λ i m. sym (live_suc a i) ∙ e (suc i) (suc-le-suc m) ∙ live_suc b i) in
    omega (arith, digit (a % 2) (odd_lt a), digit (b % 2) (odd_lt b))

-- ---- &, |, ! and a power

pub live_and : (a b i : ℕ) → is_live (bit_and a b) i ≡ (is_live a i && is_live b i)
live_and a b i =
    let e : bit_and a b / 2 ^ i % 2 ≡ min (a / 2 ^ i % 2) (b / 2 ^ i % 2) = omega (arith, and_shr a b i, and_step (a / 2 ^ i) (b / 2 ^ i)) in
    ap (λ (n : ℕ). eqb n 1) e ∙ digit_and (a / 2 ^ i % 2) (b / 2 ^ i % 2) (odd_lt (a / 2 ^ i)) (odd_lt (b / 2 ^ i))

pub live_or : (a b i : ℕ) → is_live (bit_or a b) i ≡ (is_live a i || is_live b i)
live_or a b i =
    let e : bit_or a b / 2 ^ i % 2 ≡ max (a / 2 ^ i % 2) (b / 2 ^ i % 2) = omega (arith, or_shr a b i, or_step (a / 2 ^ i) (b / 2 ^ i)) in
    ap (λ (n : ℕ). eqb n 1) e ∙ digit_or (a / 2 ^ i % 2) (b / 2 ^ i % 2) (odd_lt (a / 2 ^ i)) (odd_lt (b / 2 ^ i))

not_half : (k a : ℕ) → a < 2 ^ suc k → (2 ^ suc k - 1 - a) / 2 ≡ 2 ^ k - 1 - a / 2
not_half k a h = omega (arith, pow-suc 2 k)

not_odd : (k a : ℕ) → a < 2 ^ suc k → (2 ^ suc k - 1 - a) % 2 ≡ 1 - a % 2
not_odd k a h = omega (arith, pow-suc 2 k)

pub live_not : (k a i : ℕ) → a < 2 ^ k → i < k → is_live (2 ^ k - 1 - a) i ≡ not (is_live a i)
live_not zero a i h l = absurd (omega arith)
live_not (suc k) a zero h l =
    live_zero (2 ^ suc k - 1 - a) ∙ ap (λ (n : ℕ). eqb n 1) (not_odd k a h) ∙ digit_not (a % 2) (odd_lt a) ∙ ap not (sym (live_zero a))
live_not (suc k) a (suc i) h l =
    live_suc (2 ^ suc k - 1 - a) i ∙ ap (λ (n : ℕ). is_live n i) (not_half k a h)
    ∙ live_not k (a / 2) i (omega (arith, pow-suc 2 k)) (le_of_suc-le-suc l) ∙ ap not (sym (live_suc a i))

pub live_pow_same : (i : ℕ) → is_live (2 ^ i) i ≡ true
live_pow_same i = ap (λ (n : ℕ). is_live n i) (sym (one-mul (2 ^ i))) ∙ ap (λ (n : ℕ). eqb (n % 2) 1) (shl-shr 1 i)

pub live_pow_other : (i j : ℕ) → (j ≡ i → ⊥) → is_live (2 ^ i) j ≡ false
live_pow_other zero zero n = absurd (n refl)
live_pow_other zero (suc j) n = live_suc 1 j ∙ dead_zero j
live_pow_other (suc i) zero n =
    let e : 2 ^ suc i % 2 ≡ 0 = omega (arith, pow-suc 2 i) in live_zero (2 ^ suc i) ∙ ap (λ (m : ℕ). eqb m 1) e
live_pow_other (suc i) (suc j) n =
    let e : 2 ^ suc i / 2 ≡ 2 ^ i = omega (arith, pow-suc 2 i) in
    live_suc (2 ^ suc i) j ∙ ap (λ (m : ℕ). is_live m j) e ∙ live_pow_other i j (λ e. n (ap suc e))

-- ---- the map of what a test picks

pub map_of_lt : (n : ℕ) (p : ℕ → Bool) → map_of n p < 2 ^ n
unfolding map_of
map_of_lt zero p = lit< tt
map_of_lt (suc n) p = omega (arith, pow-suc 2 n, one_lt (p zero), map_of_lt n (λ i. p (suc i)))

pub live_map_of : (n i : ℕ) (p : ℕ → Bool) → i < n → is_live (map_of n p) i ≡ p i
unfolding map_of
live_map_of zero i p l = absurd (omega arith)
live_map_of (suc n) zero p l = live_low (p zero) (map_of n (λ i. p (suc i)))
live_map_of (suc n) (suc i) p l = live_high (p zero) (map_of n (λ i. p (suc i))) i ∙ live_map_of n i (λ i. p (suc i)) (le_of_suc-le-suc l)

-- a number below 2 ^ k is the map of what is picked where its bits say so
pub is_map_of : (k a : ℕ) (p : ℕ → Bool) → a < 2 ^ k → ((i : ℕ) → i < k → is_live a i ≡ p i) → a ≡ map_of k p
is_map_of k a p h e = ext_live k a (map_of k p) h (map_of_lt k p) (λ i l. e i l ∙ sym (live_map_of k i p l))

-- ---- ones and trailing zeros, by places

ones_zero : ones 0 ≡ 0
unfolding ones
ones_zero = refl

-- the ones of a number below 2 ^ k are as many as its live places
pub ones_count : (k a : ℕ) → a < 2 ^ k → ones a ≡ count k (is_live a)
unfolding sum
ones_count zero a h = ap ones (lt-one h) ∙ ones_zero
ones_count (suc k) a h =
    ones_step a
    ∙ ap₂ ◌+◌
    (digit (a % 2) (odd_lt a) ∙ ap one (sym (live_zero a)))
    (ones_count k (a / 2) (omega (arith, pow-suc 2 k)) ∙ ap (count k) (fun_ext (λ i. sym (live_suc a i))))
    ∙ sym (sum_suc k (λ i. one (is_live a i)))

under_not : (x d : ℕ) → d < 2 → under (1 - d) x ≡ cond (not (eqb d 1)) zero (suc x)
under_not x = each_digit (λ (d : ℕ). under (1 - d) x ≡ cond (not (eqb d 1)) zero (suc x)) refl refl

-- the trailing zeros of the inverted number are its lowest free place
pub trailing_first : (k a : ℕ) → a < 2 ^ k → count_trailing_zeros k (2 ^ k - 1 - a) ≡ first k (is_free a)
unfolding count_trailing_zeros first
trailing_first zero a h = refl
trailing_first (suc k) a h =
    ap₂ (λ (d x : ℕ). under d (count_trailing_zeros k x)) (not_odd k a h) (not_half k a h)
    ∙ ap (under (1 - a % 2)) (trailing_first k (a / 2) (omega (arith, pow-suc 2 k)) ∙ ap (first k) (fun_ext (λ i. ap not (sym (live_suc a i)))))
    ∙ under_not (first k (λ i. is_free a (suc i))) (a % 2) (odd_lt a)
    ∙ ap (λ (b : Bool). cond (not b) zero (suc (first k (λ i. is_free a (suc i))))) (sym (live_zero a))
