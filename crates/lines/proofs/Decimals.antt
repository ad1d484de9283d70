-- Numbers in decimal: the last digit and those before it, and how long they are at most. Assumes nothing.
use Prim.Native.Nat.{ℕ, zero, suc, ◌+◌, ◌/◌, ◌%◌, ◌^◌, ◌≤◌, ◌<◌}
use native.Mathlib.Omega.{arith}
use mathlib.Core.Bool.{Bool, true, false, cond}
use mathlib.Core.Path.{◌≡◌, ap, ◌∙◌}
use mathlib.Core.List.{List, [], ◌∷◌, ◌++◌}
use lib.Dec.{ltb}
use lib.ListN.{length, length-append}
use borrow.Author.Tests.{lt-ltb, le-ltb}
use Rattle.lines.specs.Lines.{decimal_in, decimal}

abbrev before : ℕ → ℕ → List ℕ
before k n = decimal_in k (n / 10) ++ (48 + n % 10) ∷ []

-- more room than a number needs changes nothing
wider : (k n : ℕ) → n < 10 ^ suc k → decimal_in (suc k) n ≡ decimal_in (suc (suc k)) n
unfolding decimal_in
wider zero n h = rw (lt-ltb n 10 h)
wider (suc k) n h =
    let i : n / 10 < 10 ^ suc k = omega arith in
    ap (λ (x : List ℕ). cond (ltb n 10) ((48 + n) ∷ []) (x ++ (48 + n % 10) ∷ [])) (wider k (n / 10) i)

pub one_digit : (n : ℕ) → n < 10 → decimal n ≡ (48 + n) ∷ []
unfolding decimal decimal_in
one_digit n h = rw (lt-ltb n 10 h)

opened : (k n : ℕ) → 10 ≤ n → decimal_in (suc k) n ≡ before k n
unfolding decimal_in
opened k n h = rw (le-ltb n 10 h)

pub more_digits : (n : ℕ) → 10 ≤ n → n < 10 ^ 20 → decimal n ≡ decimal (n / 10) ++ (48 + n % 10) ∷ []
unfolding decimal
more_digits n h l = opened 19 n h ∙ ap (λ (x : List ℕ). x ++ (48 + n % 10) ∷ []) (wider 18 (n / 10) (omega arith))

short : (k n : ℕ) → length (decimal_in k n) ≤ k
unfolding decimal_in
short zero n = omega arith
short (suc k) n = go (ltb n 10) (short k (n / 10))
  where
    go : (b : Bool) → length (decimal_in k (n / 10)) ≤ k → length (cond b ((48 + n) ∷ []) (before k n)) ≤ suc k
    go true h = omega arith
    go false h = omega (arith, length-append (decimal_in k (n / 10)) ((48 + n % 10) ∷ []))

pub few_digits : (n : ℕ) → length (decimal n) ≤ 20
unfolding decimal
few_digits n = short 20 n
