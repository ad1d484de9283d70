-- The id that a word names: one to five digits, in ASCII codes. Assumes nothing.
use Rattle.std.specs.Prelude.{ℕ, ◌+◌, ◌-◌, ◌*◌, Bool, cond, ◌&&◌, List, [], ◌∷◌, leb, length, Option, Some, None}
use Rattle.laws.specs.Check.{all, between}

unfoldable pub is_digit : ℕ → Bool
is_digit byte = between 48 57 byte

-- the number that digits stand for, behind those that stand for n
unfoldable pub number_from : ℕ → List ℕ → ℕ
number_from n [] = n
number_from n (byte ∷ bytes) = number_from (10 * n + (byte - 48)) bytes

-- no thing has an id above 65535, nor the id 0, which stands for all of these
unfoldable pub as_id : ℕ → ℕ
as_id n = cond (leb n 65535) n 0

unfoldable pub id_in : List ℕ → Option ℕ
id_in word = cond (between 1 5 (length word) && all is_digit word) (Some (as_id (number_from 0 word))) None
