-- Numbers and lines as text, in ASCII codes. Assumes nothing.
use Rattle.std.specs.Prelude.{ℕ, zero, suc, ◌+◌, ◌/◌, ◌%◌, cond, List, [], ◌∷◌, ◌++◌, ltb}

-- a number in decimal; 20 digits hold every number of a machine's word
unfoldable pub decimal_in : ℕ → ℕ → List ℕ
decimal_in zero n = []
decimal_in (suc k) n = cond (ltb n 10) ((48 + n) ∷ []) (decimal_in k (n / 10) ++ (48 + n % 10) ∷ [])

unfoldable pub decimal : ℕ → List ℕ
decimal n = decimal_in 20 n

-- numbers with a space between them, then the line's end; of no numbers there is no line
unfoldable pub line : List ℕ → List ℕ
line [] = []
line (x ∷ []) = decimal x ++ 10 ∷ []
line (x ∷ y ∷ zs) = decimal x ++ 32 ∷ line (y ∷ zs)
