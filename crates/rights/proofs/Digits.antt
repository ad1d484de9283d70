-- A set's rights as binary digits: `has` at the lowest digit and at the others, of what `|` and `^` give, of a power of two, of ones alone
-- and of a sum of two blocks; and that a number is known by its digits. The laws of sets follow from these.
use mathlib.Core.Path.{◌≡◌, refl, sym, ap, ap₂, ◌∙◌}
use mathlib.Core.Bool.{Bool, true, false, cond, xor, ◌||◌}
use Prim.Native.Nat.{ℕ, zero, suc, ◌+◌, ◌-◌, ◌*◌, ◌/◌, ◌%◌, ◌^◌, ◌≤◌, ◌<◌, min}
use native.Mathlib.Nat.{mod-lt, not-suc-le-zero, zero-lt-suc, le_of_suc-le-suc, add_comm, min-zero, div-add-mod', div-eq_of_lt, lt_of_lt_of_le}
use native.Mathlib.Numerals.{one-add}
use native.Mathlib.Omega.{arith}
use lib.Arith.{lt-one, bin_ind}
use lib.Dec.{eqb, ltb, eqb-suc-suc, eqb-zero-suc, eqb-suc-zero, leb-suc-zero, leb-suc-suc}
use borrow.Author.Tests.{lt-ltb}
use lib.Bits.{bit_and, bit_or, bit_xor, and_step, and_zero_r, and_mask, or_shr, or_mod, or_add_and, or_comm, xor_shr, xor_mod, xor_add_and, block_half, block_odd}
use lib.Pow.{pow_pos, pow_mono, shr-shr, high}
use Rattle.rights.specs.Sets.{has}

-- a statement about a digit holds if it holds of 0 and of 1
pub bits : (P : ℕ → Type 0) → P 0 → P 1 → (x : ℕ) → P (x % 2)
bits P a b x = go (x % 2) (mod-lt x (zero-lt-suc 1))
  where
    go : (d : ℕ) → d < 2 → P d
    go zero h = a
    go (suc zero) h = b
    go (suc (suc d)) h = absurd (omega arith)

-- ---- the lowest digit, and the others

pub has_first : (x : ℕ) → has x 0 ≡ eqb (x % 2) 1
unfolding has
has_first x = let e : x / 1 ≡ x = omega arith in ap (λ (n : ℕ). eqb (n % 2) 1) e

pub has_suc : (x r : ℕ) → has x (suc r) ≡ has (x / 2) r
unfolding has
has_suc x r = ap (λ (n : ℕ). eqb (x / 2 ^ n % 2) 1) (sym (one-add r)) ∙ ap (λ (n : ℕ). eqb (n % 2) 1) (sym (shr-shr x 1 r))

pub first_digit : (x : ℕ) → x % 2 ≡ cond (has x 0) 1 0
first_digit x = bits (λ (d : ℕ). d ≡ cond (eqb d 1) 1 0) refl refl x ∙ ap (λ b. cond b 1 0) (sym (has_first x))

pub has_zero : (r : ℕ) → has 0 r ≡ false
has_zero zero = has_first 0
has_zero (suc r) = has_suc 0 r ∙ has_zero r

pub has_above : (k set r : ℕ) → k ≤ r → set < 2 ^ k → has set r ≡ false
unfolding has
has_above k set r h l = rw (div-eq_of_lt (lt_of_lt_of_le l (pow_mono h)))

pub same_set : (k x y : ℕ) → x < 2 ^ k → y < 2 ^ k → ((r : ℕ) → r < k → has x r ≡ has y r) → x ≡ y
same_set zero x y hx hy f = lt-one hx ∙ sym (lt-one hy)
same_set (suc k) x y hx hy f =
    let low : x % 2 ≡ y % 2 = first_digit x ∙ ap (λ b. cond b 1 0) (f 0 (omega arith)) ∙ sym (first_digit y) in
    let high : x / 2 ≡ y / 2 = same_set k (x / 2) (y / 2) (omega arith) (omega arith) (λ r h. sym (has_suc x r) ∙ f (suc r) (omega arith) ∙ has_suc y r) in
    omega arith

-- ---- `|` and `^`

pub has_or : (a b r : ℕ) → has (bit_or a b) r ≡ (has a r || has b r)
unfolding has
has_or a b r =
    ap (λ (x : ℕ). eqb (x % 2) 1) (or_shr a b r) ∙ ap (λ (x : ℕ). eqb x 1) (or_mod (a / 2 ^ r) (b / 2 ^ r) 1)
    ∙ bits (λ (x : ℕ). eqb (bit_or x (b / 2 ^ r % 2)) 1 ≡ (eqb x 1 || eqb (b / 2 ^ r % 2) 1)) refl
    (bits (λ (y : ℕ). eqb (bit_or 1 y) 1 ≡ true) refl refl (b / 2 ^ r)) (a / 2 ^ r)

pub has_xor : (a b r : ℕ) → has (bit_xor a b) r ≡ xor (has a r) (has b r)
unfolding has xor
has_xor a b r =
    ap (λ (x : ℕ). eqb (x % 2) 1) (xor_shr a b r) ∙ ap (λ (x : ℕ). eqb x 1) (xor_mod (a / 2 ^ r) (b / 2 ^ r) 1)
    ∙ bits (λ (x : ℕ). eqb (bit_xor x (b / 2 ^ r % 2)) 1 ≡ xor (eqb x 1) (eqb (b / 2 ^ r % 2) 1))
    (bits (λ (y : ℕ). eqb (bit_xor 0 y) 1 ≡ xor false (eqb y 1)) refl refl (b / 2 ^ r))
    (bits (λ (y : ℕ). eqb (bit_xor 1 y) 1 ≡ xor true (eqb y 1)) refl refl (b / 2 ^ r)) (a / 2 ^ r)

absorb : (a b : ℕ) → bit_and (bit_or a b) a ≡ a
absorb a =
    bin_ind (λ (n : ℕ). (b : ℕ) → bit_and (bit_or n b) n ≡ n) (λ b. and_zero_r (bit_or 0 b))
    (λ n ih b. and_step (bit_or n b) n
    ∙ ap₂ (λ (x y : ℕ). bit_and x (n / 2) * 2 + min y (n % 2)) (or_shr n b 1) (or_mod n b 1)
    ∙ ap₂ (λ (x y : ℕ). x * 2 + y) (ih (b / 2)) (under n b)
    ∙ div-add-mod' n 2) a
  where
    under : (n b : ℕ) → min (bit_or (n % 2) (b % 2)) (n % 2) ≡ n % 2
    under n b =
        bits (λ (x : ℕ). min (bit_or x (b % 2)) x ≡ x) (min-zero (b % 2)) (bits (λ (y : ℕ). min (bit_or 1 y) 1 ≡ 1) refl refl b) n

-- `(a | b) ^ a` takes a out of `a | b`
pub taken : (a b : ℕ) → bit_xor (bit_or a b) a + a ≡ bit_or a b
taken a b = omega (arith, xor_add_and (bit_or a b) a, absorb a b)

-- ---- a power of two, and ones alone

pub has_pow : (r q : ℕ) → has (2 ^ r) q ≡ eqb q r
has_pow zero zero = has_first 1
has_pow zero (suc q) = has_suc 1 q ∙ has_zero q ∙ sym (eqb-suc-zero q)
has_pow (suc r) zero =
    let e : 2 ^ suc r % 2 ≡ 0 = omega arith in has_first (2 ^ suc r) ∙ ap (λ (x : ℕ). eqb x 1) e ∙ sym (eqb-zero-suc r)
has_pow (suc r) (suc q) =
    let e : 2 ^ suc r / 2 ≡ 2 ^ r = omega arith in has_suc (2 ^ suc r) q ∙ ap (λ (x : ℕ). has x q) e ∙ has_pow r q ∙ sym (eqb-suc-suc q r)

pub has_ones : (k r : ℕ) → has (2 ^ k - 1) r ≡ ltb r k
has_ones zero r = has_zero r ∙ sym (leb-suc-zero r)
has_ones (suc k) zero =
    let e : (2 ^ suc k - 1) % 2 ≡ 1 = omega (arith, pow_pos k) in
    has_first (2 ^ suc k - 1) ∙ ap (λ (x : ℕ). eqb x 1) e ∙ sym (lt-ltb 0 (suc k) (omega arith))
has_ones (suc k) (suc r) =
    let e : (2 ^ suc k - 1) / 2 ≡ 2 ^ k - 1 = omega (arith, pow_pos k) in
    has_suc (2 ^ suc k - 1) r ∙ ap (λ (x : ℕ). has x r) e ∙ has_ones k r ∙ sym (leb-suc-suc (suc r) k)

and_pow : (x r : ℕ) → bit_and x (2 ^ r) ≡ cond (has x r) (2 ^ r) 0
and_pow x zero = and_mask x 1 ∙ first_digit x
and_pow x (suc r) =
    let e : 2 ^ suc r / 2 ≡ 2 ^ r = omega arith in
    let f : 2 ^ suc r % 2 ≡ 0 = omega arith in
    and_step x (2 ^ suc r) ∙ ap₂ (λ (a b : ℕ). bit_and (x / 2) a * 2 + min (x % 2) b) e f
    ∙ ap₂ (λ (a b : ℕ). a * 2 + b) (and_pow (x / 2) r) (min-zero (x % 2)) ∙ twice (has (x / 2) r)
    ∙ ap (λ b. cond b (2 ^ suc r) 0) (sym (has_suc x r))
  where
    twice : (b : Bool) → cond b (2 ^ r) 0 * 2 + 0 ≡ cond b (2 ^ suc r) 0
    twice true = let e : 2 ^ r * 2 + 0 ≡ 2 ^ suc r = omega arith in e
    twice false = refl

pub or_pow : (x r : ℕ) → bit_or x (2 ^ r) ≡ cond (has x r) x (x + 2 ^ r)
or_pow x r = go (has x r) (and_pow x r)
  where
    go : (b : Bool) → bit_and x (2 ^ r) ≡ cond b (2 ^ r) 0 → bit_or x (2 ^ r) ≡ cond b x (x + 2 ^ r)
    go true e = omega (arith, or_add_and x (2 ^ r))
    go false e = omega (arith, or_add_and x (2 ^ r))

pub out_pow : (x r : ℕ) → bit_xor (bit_or x (2 ^ r)) (2 ^ r) ≡ cond (has x r) (x - 2 ^ r) x
out_pow x r = go (has x r) (or_pow x r) (rw or_comm at (taken (2 ^ r) x))
  where
    go : (b : Bool) → bit_or x (2 ^ r) ≡ cond b x (x + 2 ^ r) → bit_xor (bit_or x (2 ^ r)) (2 ^ r) + 2 ^ r ≡ bit_or x (2 ^ r)
        → bit_xor (bit_or x (2 ^ r)) (2 ^ r) ≡ cond b (x - 2 ^ r) x
    go true e t = omega arith
    go false e t = omega arith

-- ---- two blocks of digits

pub has_low : (d n x r : ℕ) → r < n → has (d * 2 ^ n + x) r ≡ has x r
has_low d zero x r h = absurd (not-suc-le-zero h)
has_low d (suc n) x zero h = has_first (d * 2 ^ suc n + x) ∙ ap (λ (y : ℕ). eqb y 1) (block_odd d n x) ∙ sym (has_first x)
has_low d (suc n) x (suc r) h =
    has_suc (d * 2 ^ suc n + x) r ∙ ap (λ (y : ℕ). has y r) (block_half d n x) ∙ has_low d n (x / 2) r (le_of_suc-le-suc h) ∙ sym (has_suc x r)

pub has_high : (d n x r : ℕ) → x < 2 ^ n → has (d * 2 ^ n + x) (r + n) ≡ has d r
unfolding has
has_high d n x r h =
    ap (λ (y : ℕ). eqb ((d * 2 ^ n + x) / 2 ^ y % 2) 1) (add_comm r n)
    ∙ ap (λ (y : ℕ). eqb (y % 2) 1) (sym (shr-shr (d * 2 ^ n + x) n r))
    ∙ ap (λ (y : ℕ). eqb (y / 2 ^ r % 2) 1) (high d n h)
