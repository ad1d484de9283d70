-- A line number by number, and how long it is at most. Assumes nothing.
use Prim.Native.Nat.{ℕ, ◌+◌, ◌*◌, ◌≤◌, ◌<◌}
use native.Mathlib.Omega.{arith}
use mathlib.Core.Path.{◌≡◌, refl, sym}
use mathlib.Core.List.{List, [], ◌∷◌, ◌++◌}
use lib.ListN.{length, drop, get_or, length-append}
use lib.Seq.{append_snoc}
use Rattle.laws.proofs.Walks.{turn, ended}
use Rattle.lines.specs.Lines.{decimal, line}
use Rattle.lines.proofs.Decimals.{few_digits}

-- of no numbers there is no line
pub line_none : (ns : List ℕ) → length ns ≡ 0 → line ns ≡ []
unfolding line
line_none [] e = refl
line_none (x ∷ xs) e = absurd (omega arith)

-- a number with one behind it
line_front : (x : ℕ) (zs : List ℕ) (y : ℕ) → line (x ∷ (zs ++ y ∷ [])) ≡ (decimal x ++ 32 ∷ []) ++ line (zs ++ y ∷ [])
unfolding line
line_front x [] y = sym (append_snoc (decimal x) 32 (line (y ∷ [])))
line_front x (z ∷ zs) y = sym (append_snoc (decimal x) 32 (line (z ∷ (zs ++ y ∷ []))))

-- what is left of a line whose last number is y, at number j of those before it, and behind all of these
module _ (before : List ℕ) (j y : ℕ) where
  pub line_on : j < length before
      → line (drop j before ++ y ∷ []) ≡ (decimal (get_or before j 0) ++ 32 ∷ []) ++ line (drop (j + 1) before ++ y ∷ [])
  line_on h = rw (turn before (length before) refl j 0 h) (line_front (get_or before j 0) (drop (j + 1) before) y)

  pub line_end : length before ≤ j → line (drop j before ++ y ∷ []) ≡ decimal y ++ 10 ∷ []
  unfolding line
  line_end h = rw (ended before (length before) refl j h)

-- ---- a number and the byte behind it have at most 21 bytes

pub few_with : (n end : ℕ) → length (decimal n ++ end ∷ []) ≤ 21
few_with n end = omega (arith, few_digits n, length-append (decimal n) (end ∷ []))

pub few_in_line : (ns : List ℕ) → length (line ns) ≤ 21 * length ns
unfolding line
few_in_line [] = omega arith
few_in_line (x ∷ []) = few_with x 10
few_in_line (x ∷ y ∷ zs) = omega (arith, few_digits x, length-append (decimal x) (32 ∷ line (y ∷ zs)), few_in_line (y ∷ zs))
