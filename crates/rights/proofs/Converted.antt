-- The converted set: gained right by right it is the number that has all partners at once, and what it holds follows from that.
use mathlib.Core.Path.{◌≡◌, refl, sym, ap, ◌∙◌}
use mathlib.Core.Bool.{Bool, true, false, not, cond, ◌&&◌}
use Prim.Native.Nat.{ℕ, zero, suc, ◌+◌, ◌-◌, ◌*◌, ◌/◌, ◌%◌, ◌^◌, ◌≤◌, ◌<◌, min}
use native.Mathlib.Nat.{two-mul, mul-add, min-eq_left, min-le_left, mod-lt}
use native.Mathlib.Numerals.{one-add}
use native.Mathlib.Omega.{arith}
use lib.Arith.{digits_lt}
use lib.Dec.{eqb, ltb}
use borrow.Author.Tests.{lt-ltb, le-ltb}
use lib.Pow.{pow_pos, pow-add, mod-pow-add}
use Rattle.rights.specs.Sets.{has, all_rights, complement, gained, converted}
use Rattle.rights.specs.Promises.{AtOnce}
use Rattle.rights.proofs.Digits.{bits, has_low, has_high}
use Rattle.rights.proofs.Laws.{has_complement, enter_adds, complement_number}

-- ---- partners right by right, and at once

-- of no right none is lacking
complement_none : (set : ℕ) → complement 0 set ≡ 0
unfolding complement all_rights
complement_none set = omega arith

-- of one right more that one too, unless the set has it
complement_next : (k set : ℕ) → k < 64 → complement (suc k) set ≡ complement k set + cond (has set k) 0 (2 ^ k)
unfolding complement all_rights has
complement_next k set h =
    let longer : min (suc k) 64 ≡ suc k = min-eq_left h in
    let shorter : min k 64 ≡ k = min-eq_left (omega arith) in
    let digits : set % 2 ^ suc k ≡ (set / 2 ^ k % 2) * 2 ^ k + set % 2 ^ k = ap (λ (x : ℕ). set % 2 ^ x) (sym (one-add k)) ∙ mod-pow-add set 1 k in
    rw (longer, shorter, digits) (bits (λ (d : ℕ). 2 ^ suc k - 1 - (d * 2 ^ k + set % 2 ^ k) ≡ 2 ^ k - 1 - set % 2 ^ k + cond (eqb d 1) 0 (2 ^ k))
    (omega (arith, mod-lt set (pow_pos k))) (omega (arith, mod-lt set (pow_pos k))) (set / 2 ^ k))

-- the set below, the partners above it: two blocks of digits
blocks : (n k set : ℕ) → set + 2 ^ n * complement k set ≡ complement k set * 2 ^ n + set
blocks n k set = omega arith

partner_at : (n k set r : ℕ) → set < 2 ^ n → has (set + 2 ^ n * complement k set) (r + n) ≡ (ltb r (min k 64) && not (has set r))
partner_at n k set r l = rw blocks (has_high (complement k set) n set r l ∙ has_complement k set r)

-- one right more: its partner isn't there yet, and is added unless the set has the right
at_once_next : (n k set : ℕ) → suc k + n ≤ 64 → set < 2 ^ n → gained n k set ≡ set + 2 ^ n * complement k set →
    gained n (suc k) set ≡ set + 2 ^ n * complement (suc k) set
unfolding gained
at_once_next n k set h l g = go (has set k) refl
  where
    now : ℕ
    now = set + 2 ^ n * complement k set

    fresh : has now (k + n) ≡ false
    fresh = partner_at n k set k l ∙ ap (λ b. b && not (has set k)) (le-ltb k (min k 64) (min-le_left k 64))

    go : (b : Bool) → has set k ≡ b → gained n (suc k) set ≡ set + 2 ^ n * complement (suc k) set
    go true e = rw (complement_next k set (omega arith), e, g) (omega arith)
    go false e =
        rw (complement_next k set (omega arith), e, g, mul-add) (omega (arith, enter_adds (k + n) now (omega arith) fresh, pow-add 2 k n))

pub at_once : AtOnce
unfolding gained
at_once n zero set h l = rw complement_none (omega arith)
at_once n (suc k) set h l = at_once_next n k set h l (at_once n k set (omega arith) l)

-- ---- the converted set: the plain rights as they were, a partner exactly where its right is lacking, and no other right
module _ (n set : ℕ) (h : n ≤ 32) (l : set < 2 ^ n) where
  pub converted_number : converted n set ≡ set + 2 ^ n * complement n set
  unfolding converted
  converted_number = at_once n n set (omega arith) l

  pub converted_lt : converted n set < 2 ^ (2 * n)
  converted_lt =
      let small : complement n set < 2 ^ n = rw (complement_number n set (omega arith) l) (omega (arith, pow_pos n)) in
      rw (converted_number, blocks, two-mul, pow-add) (digits_lt small l)

  pub converted_plain : (r : ℕ) → r < n → has (converted n set) r ≡ has set r
  converted_plain r i = rw (converted_number, blocks) (has_low (complement n set) n set r i)

  pub converted_partner : (r : ℕ) → r < n → has (converted n set) (r + n) ≡ not (has set r)
  converted_partner r i = rw converted_number (partner_at n n set r l ∙ ap (λ b. b && not (has set r)) (lt-ltb r (min n 64) (omega arith)))
