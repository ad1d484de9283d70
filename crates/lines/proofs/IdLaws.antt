-- A word read digit by digit: what stands behind the digits that were read decides the id, and five digits fit a word of 32 bits. Assumes nothing.
use Prim.Native.Nat.{ℕ, ◌+◌, ◌-◌, ◌*◌, ◌^◌, ◌≤◌, ◌<◌}
use native.Mathlib.Numerals.{add-one}
use native.Mathlib.Omega.{arith}
use mathlib.Core.Bool.{true, false, cond}
use mathlib.Core.List.{List}
use Rattle.std.specs.Prelude.{Option, Some, None, Result, Ok, Err, OkIff}
use Rattle.std.specs.Result.{result_unwrap_or}
use mathlib.Core.Path.{◌≡◌, refl, sym, ◌∙◌}
use lib.Dec.{leb, leb→le}
use lib.ListN.{length, drop, get_or}
use borrow.Author.Tests.{le-leb, lt-leb}
use Rattle.laws.specs.Check.{all, between}
use Rattle.laws.proofs.Bools.{from_true, and_right}
use Rattle.laws.proofs.Walks.{turn, ended}
use Rattle.lines.specs.Ids.{is_digit, number_from, as_id, id_in}

-- the id, if the bytes that are left go on behind digits that stand for n
unfoldable pub id_from : ℕ → List ℕ → Option ℕ
id_from n bytes = cond (all is_digit bytes) (Some (as_id (number_from n bytes))) None

pub id_small : (n : ℕ) → n ≤ 65535 → n ≡ as_id n
unfolding as_id
id_small n h = rw (le-leb n 65535 h)

pub id_large : (n : ℕ) → 65535 < n → 0 ≡ as_id n
unfolding as_id
id_large n h = rw (lt-leb n 65535 h)

-- the number, if a word of 16 bits holds it, and 0 if not
pub id_of : {E : Type 0} (n : ℕ) (r : Result ℕ E) → OkIff r (n < 2 ^ 16) n → result_unwrap_or r 0 ≡ as_id n
id_of n (Ok x) h = h.1 ∙ id_small n (omega arith)
id_of n (Err e) h = id_large n (omega (arith, h))

digit_high : (byte : ℕ) → is_digit byte ≡ true → byte ≤ 57
unfolding is_digit between
digit_high byte is = leb→le byte 57 (and_right (leb 48 byte) (leb byte 57) (from_true is))

-- ---- how long the word is

module _ (word : List ℕ) where
  pub id_empty : length word ≡ 0 → id_in word ≡ None
  unfolding id_in between
  id_empty e = rw e

  pub id_long : 5 < length word → id_in word ≡ None
  unfolding id_in between
  id_long h = rw (le-leb 1 (length word) (omega arith), lt-leb (length word) 5 h)

  pub id_fits : 1 ≤ length word → length word ≤ 5 → id_from 0 word ≡ id_in word
  unfolding id_in id_from between
  id_fits l h = rw (le-leb 1 (length word) l, le-leb (length word) 5 h)

-- ---- the word read to place i: what was read stands for n

pub record Read (word : List ℕ) (n i : ℕ) : Type 0 where
  pub near : i ≤ length word
  pub small : n < 10 ^ i
  pub left : id_from n (drop i word) ≡ id_in word

pub read_none : (word : List ℕ) → 1 ≤ length word → length word ≤ 5 → Read word 0 0
read_none word l h = record { near = omega arith; small = omega arith; left = id_fits word l h }

module _ {word : List ℕ} {n i : ℕ} (r : Read word n i) where
  pub read_on : i < length word → is_digit (get_or word i 0) ≡ true → Read word (10 * n + (get_or word i 0 - 48)) (i + 1)
  unfolding id_from number_from all
  read_on h is = record {
    near = omega arith;
    small = rw (add-one i) (omega (arith, r.small, digit_high (get_or word i 0) is));
    left = rw (turn word (length word) refl i 0 h, is) at r.left;
  }

  pub read_other : i < length word → is_digit (get_or word i 0) ≡ false → id_in word ≡ None
  unfolding id_from all
  read_other h is = sym (rw (turn word (length word) refl i 0 h, is) at r.left)

  pub read_all : length word ≤ i → id_in word ≡ Some (as_id n)
  unfolding id_from number_from all
  read_all h = sym (rw (ended word (length word) refl i h) at r.left)
