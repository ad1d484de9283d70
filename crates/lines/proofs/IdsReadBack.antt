-- What `Promises` states of ids: the digits of a number stand for it, and there are no more of them than the number needs. Assumes nothing.
use Prim.Native.Nat.{ℕ, zero, suc, ◌+◌, ◌-◌, ◌*◌, ◌/◌, ◌%◌, ◌^◌, ◌≤◌, ◌<◌}
use native.Mathlib.Decide.{dec_lt}
use native.Mathlib.Omega.{arith}
use mathlib.Core.Bool.{Bool, true, ◌&&◌}
use mathlib.Core.List.{List, [], ◌∷◌, ◌++◌}
use mathlib.Core.Path.{◌≡◌, refl, sym, ap, ◌∙◌}
use lib.ListN.{length, length-append}
use borrow.Author.Tests.{lt-ltb, le-ltb, le-leb}
use Rattle.laws.specs.Check.{all, between}
use Rattle.lines.specs.Lines.{decimal_in, decimal}
use Rattle.lines.specs.Ids.{is_digit, number_from}
use Rattle.lines.specs.Promises.{IdsReadBack}
use Rattle.lines.proofs.IdLaws.{id_from, id_small, id_fits}

-- ---- one digit more

number_more : (n : ℕ) (xs : List ℕ) (byte : ℕ) → number_from n (xs ++ byte ∷ []) ≡ 10 * number_from n xs + (byte - 48)
unfolding number_from
number_more n [] byte = refl
number_more n (x ∷ xs) byte = number_more (10 * n + (x - 48)) xs byte

all_more : (xs : List ℕ) (byte : ℕ) → is_digit byte ≡ true → all is_digit (xs ++ byte ∷ []) ≡ all is_digit xs
unfolding all
all_more [] byte is = rw is
all_more (x ∷ xs) byte is = ap (λ (b : Bool). is_digit x && b) (all_more xs byte is)

is_digit_lem : (d : ℕ) → d < 10 → is_digit (48 + d) ≡ true
unfolding is_digit between
is_digit_lem d h = rw (le-leb 48 (48 + d) (omega arith), le-leb (48 + d) 57 (omega arith))

-- ---- the digits of a number: of n < 10 ^ j, with room for k

record Digits (j n : ℕ) (text : List ℕ) : Type 0 where
  some : 1 ≤ length text
  few : length text ≤ j
  digits : all is_digit text ≡ true
  number : number_from 0 text ≡ n

last_digit : (j n : ℕ) → n < 10 → Digits (suc j) n ((48 + n) ∷ [])
unfolding all number_from
last_digit j n h = record { some = omega arith; few = omega arith; digits = rw (is_digit_lem n h); number = omega arith }

digit_more : (j n : ℕ) (text : List ℕ) → Digits j (n / 10) text → Digits (suc j) n (text ++ (48 + n % 10) ∷ [])
digit_more j n text d =
    let l = length-append text ((48 + n % 10) ∷ []) in record {
      some = omega (arith, l);
      few = omega (arith, l);
      digits = all_more text (48 + n % 10) (is_digit_lem (n % 10) (omega arith)) ∙ d.digits;
      number = number_more 0 text (48 + n % 10) ∙ omega (arith, d.number);
    }

digits_of : (k j n : ℕ) → j ≤ k → n < 10 ^ suc j → Digits (suc j) n (decimal_in (suc k) n)
unfolding decimal_in
digits_of k zero n l h = rw (lt-ltb n 10 h) (last_digit 0 n h)
digits_of zero (suc j) n l h = absurd (omega arith)
digits_of (suc k) (suc j) n l h = by (dec_lt n 10) (digits_of k j (n / 10) (omega arith) (omega arith))
  where
    by : Dec (n < 10) → Digits (suc j) (n / 10) (decimal_in (suc k) (n / 10)) → Digits (suc (suc j)) n (decimal_in (suc (suc k)) n)
    by (yes s) d = rw (lt-ltb n 10 s) (last_digit (suc j) n s)
    by (no s) d = rw (le-ltb n 10 (omega (arith, s))) (digit_more (suc j) n _ d)

pub ids_read_back : IdsReadBack
unfolding decimal id_from
ids_read_back id h =
    let d = digits_of 19 4 id (omega arith) (omega arith) in
    sym (id_fits (decimal id) d.some d.few) ∙ rw (d.digits, d.number, ← id_small id h)
