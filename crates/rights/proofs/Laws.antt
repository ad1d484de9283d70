-- What entering, deleting and complementing do to a set, right by right and as numbers. Each is a bit operation too: that is how the code
-- computes it, and how these laws come from the digits'.
use mathlib.Core.Path.{◌≡◌, refl, sym, ap, ◌∙◌}
use mathlib.Core.Bool.{Bool, true, false, not, cond, xor, ◌&&◌, ◌||◌, and-true, and-false}
use Prim.Native.Nat.{ℕ, ◌+◌, ◌-◌, ◌%◌, ◌^◌, ◌≤◌, ◌<◌, min}
use native.Mathlib.Nat.{add-zero, sub-zero, sub-le, le_refl, mod-lt, mod-eq_of_lt, min-eq_left}
use native.Mathlib.Omega.{arith}
use lib.Dec.{eqb, ltb}
use borrow.Author.Tests.{lt-ltb}
use lib.Bits.{bit_or, bit_xor, and_mask, or_add_and, or_lt, or_zero_r, xor_zero_r}
use lib.Pow.{pow_pos, pow-lt}
use Rattle.rights.specs.Sets.{has, single, enter_right, delete_right, all_rights, complement}
use Rattle.rights.proofs.Digits.{has_zero, has_pow, has_ones, has_or, has_xor, or_pow, out_pow, taken}

-- ---- as bit operations

by_single : (P : ℕ → Type 0) (r : ℕ) → P (2 ^ r) → P 0 → P (single r)
unfolding single
by_single P r p z = go (ltb r 64)
  where
    go : (b : Bool) → P (cond b (2 ^ r) 0)
    go true = p
    go false = z

pub enter_or : (r set : ℕ) → enter_right r set ≡ bit_or set (single r)
unfolding enter_right
enter_or r set =
    by_single (λ (one : ℕ). cond (has set r) set (set + one) ≡ bit_or set one) r (sym (or_pow set r)) (same (has set r) ∙ sym (or_zero_r set))
  where
    same : (b : Bool) → cond b set (set + 0) ≡ set
    same true = refl
    same false = add-zero set

pub delete_xor : (r set : ℕ) → delete_right r set ≡ bit_xor (bit_or set (single r)) (single r)
unfolding delete_right
delete_xor r set =
    by_single (λ (one : ℕ). cond (has set r) (set - one) set ≡ bit_xor (bit_or set one) one) r (sym (out_pow set r))
    (same (has set r) ∙ sym (xor_zero_r (bit_or set 0) ∙ or_zero_r set))
  where
    same : (b : Bool) → cond b (set - 0) set ≡ set
    same true = sub-zero set
    same false = refl

pub complement_xor : (n set : ℕ) → complement n set ≡ bit_xor (bit_or set (all_rights n)) set
unfolding complement all_rights
complement_xor n set = to (min n 64)
  where
    to : (k : ℕ) → 2 ^ k - 1 - set % 2 ^ k ≡ bit_xor (bit_or set (2 ^ k - 1)) set
    to k = omega (arith, taken set (2 ^ k - 1), or_add_and set (2 ^ k - 1), and_mask set k, mod-lt set (pow_pos k))

-- ---- right by right

pub has_single : (r q : ℕ) → has (single r) q ≡ (eqb q r && ltb r 64)
unfolding single
has_single r q = go (ltb r 64)
  where
    go : (b : Bool) → has (cond b (2 ^ r) 0) q ≡ (eqb q r && b)
    go true = has_pow r q ∙ sym (and-true (eqb q r))
    go false = has_zero q ∙ sym (and-false (eqb q r))

pub has_all : (n r : ℕ) → has (all_rights n) r ≡ ltb r (min n 64)
unfolding all_rights
has_all n r = has_ones (min n 64) r

take_out : (a b : Bool) → xor (a || b) b ≡ (a && not b)
unfolding xor
take_out true true = refl
take_out true false = refl
take_out false true = refl
take_out false false = refl

leave_out : (a b : Bool) → xor (a || b) a ≡ (b && not a)
unfolding xor
leave_out true true = refl
leave_out true false = refl
leave_out false true = refl
leave_out false false = refl

pub has_enter : (r set q : ℕ) → has (enter_right r set) q ≡ (has set q || (eqb q r && ltb r 64))
has_enter r set q = ap (λ (x : ℕ). has x q) (enter_or r set) ∙ has_or set (single r) q ∙ ap (λ b. has set q || b) (has_single r q)

pub has_delete : (r set q : ℕ) → has (delete_right r set) q ≡ (has set q && not (eqb q r && ltb r 64))
has_delete r set q =
    ap (λ (x : ℕ). has x q) (delete_xor r set) ∙ has_xor (bit_or set (single r)) (single r) q
    ∙ ap (λ b. xor b (has (single r) q)) (has_or set (single r) q) ∙ take_out (has set q) (has (single r) q)
    ∙ ap (λ b. has set q && not b) (has_single r q)

pub has_complement : (n set r : ℕ) → has (complement n set) r ≡ (ltb r (min n 64) && not (has set r))
has_complement n set r =
    ap (λ (x : ℕ). has x r) (complement_xor n set) ∙ has_xor (bit_or set (all_rights n)) set r
    ∙ ap (λ b. xor b (has set r)) (has_or set (all_rights n) r) ∙ leave_out (has set r) (has (all_rights n) r)
    ∙ ap (λ b. b && not (has set r)) (has_all n r)

-- ---- as numbers

pub enter_keeps : (r set : ℕ) → has set r ≡ true → enter_right r set ≡ set
unfolding enter_right
enter_keeps r set e = rw e

pub enter_adds : (r set : ℕ) → r < 64 → has set r ≡ false → enter_right r set ≡ set + 2 ^ r
unfolding enter_right single
enter_adds r set h e = rw (e, lt-ltb r 64 h)

pub delete_keeps : (r set : ℕ) → has set r ≡ false → delete_right r set ≡ set
unfolding delete_right
delete_keeps r set e = rw e

pub enter_lt : (n r set : ℕ) → r < n → set < 2 ^ n → enter_right r set < 2 ^ n
enter_lt n r set h l = rw enter_or (or_lt n set (single r) l (by_single (λ (one : ℕ). one < 2 ^ n) r (pow-lt h) (pow_pos n)))

pub delete_le : (r set : ℕ) → delete_right r set ≤ set
unfolding delete_right
delete_le r set = go (has set r)
  where
    go : (b : Bool) → cond b (set - single r) set ≤ set
    go true = sub-le set (single r)
    go false = le_refl set

pub complement_number : (n set : ℕ) → n ≤ 64 → set < 2 ^ n → complement n set ≡ 2 ^ n - 1 - set
unfolding complement all_rights
complement_number n set h l = rw (min-eq_left h, mod-eq_of_lt l)
