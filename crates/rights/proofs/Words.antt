-- What the code's machine words come to: a shifted 1, what `|` and `^` make of two sets, and the count of a word's ones. Over plain numbers,
-- so that a function's proof names no place of its context.
use mathlib.Core.Path.{◌≡◌, refl, sym, ap, ◌∙◌}
use mathlib.Core.Bool.{cond}
use Prim.Native.Nat.{ℕ, zero, suc, ◌+◌, ◌-◌, ◌*◌, ◌/◌, ◌%◌, ◌^◌, ◌≤◌, ◌<◌, min}
use native.Mathlib.Nat.{one-mul, add_assoc, add_comm, min-eq_right, lt_of_lt_of_le}
use native.Mathlib.Omega.{arith}
use lib.Arith.{lt-one}
use lib.Bits.{bit_or, bit_xor}
use lib.Count.{ones, ones_step}
use lib.Dec.{eqb, ltb, leb, lit<}
use borrow.Author.Tests.{lt-ltb, le-ltb, le-leb}
use lib.Pow.{pow_pos, pow_mono, shl_exact}
use Rattle.rights.specs.Numberings.{right, partner_of}
use Rattle.rights.specs.Sets.{partner, has, single, enter_right, delete_right, all_rights, complement, within, count_to, count_rights}
use Rattle.rights.proofs.Digits.{has_suc, first_digit, has_above}
use Rattle.rights.proofs.Laws.{enter_or, delete_xor, complement_xor}

shifted : (r w : ℕ) → r < w → (1 * 2 ^ r) % 2 ^ w ≡ 2 ^ r
shifted r w h = shl_exact 1 r w (lit< tt) (omega arith) ∙ one-mul (2 ^ r)

pub shifted_pos : (r w : ℕ) → r < w → 0 < (1 * 2 ^ r) % 2 ^ w
shifted_pos r w h = rw (shifted r w h) (pow_pos r)

-- ---- what `single`, `all` and `is_within` shift, within the word's width and beyond it

pub single_word : (r : ℕ) → r < 64 → (1 * 2 ^ r) % 2 ^ 64 ≡ single r
unfolding single
single_word r h = rw (lt-ltb r 64 h) (shifted r 64 h)

pub single_none : (r : ℕ) → 64 ≤ r → 0 ≡ single r
unfolding single
single_none r h = rw (le-ltb r 64 h)

pub all_word : (n : ℕ) → n < 64 → (1 * 2 ^ n) % 2 ^ 64 - 1 ≡ all_rights n
unfolding all_rights
all_word n h = let e : min n 64 ≡ n = omega arith in rw (e, shifted n 64 h)

pub all_full : (n : ℕ) → 64 ≤ n → 2 ^ 64 - 1 ≡ all_rights n
unfolding all_rights
all_full n h = rw (min-eq_right h)

pub within_word : (m set : ℕ) → m < 64 → ltb set ((1 * 2 ^ m) % 2 ^ 64) ≡ within m set
unfolding within
within_word m set h = rw (shifted m 64 h)

pub within_full : (m set : ℕ) → 64 ≤ m → set < 2 ^ 64 → leb 64 m ≡ within m set
unfolding within
within_full m set h l = rw (le-leb 64 m h) (sym (lt-ltb set (2 ^ m) (lt_of_lt_of_le l (pow_mono h))))

-- ---- what `has_bit` shifts, within the word's width and beyond it

pub has_word : (set r : ℕ) → eqb (set / 2 ^ r % 2) 1 ≡ has set r
unfolding has
has_word set r = refl

pub has_none : (set r : ℕ) → 64 ≤ r → set < 2 ^ 64 → ltb r 64 ≡ has set r
has_none set r h l = rw (le-ltb r 64 h) (sym (has_above 64 set r h l))

-- ---- what `enter`, `delete` and `complement` compute from the set that a call gave them

pub enter_word : (r set one : ℕ) → one ≡ single r → bit_or set one ≡ enter_right r set
enter_word r set one e = rw e (sym (enter_or r set))

pub delete_word : (r set one : ℕ) → one ≡ single r → bit_xor (bit_or set one) one ≡ delete_right r set
delete_word r set one e = rw e (sym (delete_xor r set))

pub complement_word : (n set every : ℕ) → every ≡ all_rights n → bit_xor (bit_or set every) set ≡ complement n set
complement_word n set every e = rw e (sym (complement_xor n set))

-- ---- the count

-- `count_to` takes the highest digit first, `ones` the lowest
count_low : (k x : ℕ) → count_to (suc k) x ≡ x % 2 + count_to k (x / 2)
unfolding count_to
count_low zero x = add_comm 0 (cond (has x 0) 1 0) ∙ ap (λ (d : ℕ). d + 0) (sym (first_digit x))
count_low (suc k) x =
    ap (λ (c : ℕ). c + cond (has x (suc k)) 1 0) (count_low k x)
    ∙ ap (λ b. x % 2 + count_to k (x / 2) + cond b 1 0) (has_suc x k)
    ∙ add_assoc (x % 2) (count_to k (x / 2)) (cond (has (x / 2) k) 1 0)

count_ones : (k x : ℕ) → x < 2 ^ k → ones x ≡ count_to k x
unfolding ones count_to
count_ones zero x h = ap ones (lt-one h)
count_ones (suc k) x h = ones_step x ∙ ap (λ (c : ℕ). x % 2 + c) (count_ones k (x / 2) (omega arith)) ∙ sym (count_low k x)

pub count_word : (set : ℕ) → set < 2 ^ 64 → ones set ≡ count_rights set
unfolding count_rights
count_word set h = count_ones 64 set h

-- ---- the partner

pub partner_word : (n r sum : ℕ) → sum ≡ min (r + n) 255 → right sum ≡ partner_of n (right r)
unfolding partner
partner_word n r sum e = ap right e
