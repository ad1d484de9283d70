-- So many bytes from a position on, where there are as many.
-- Assumes nothing.
use Rattle.std.specs.Prelude.{ℕ, ◌+◌, cond, List, leb, length, take, drop, Option, Some, None}

abbrev pub bytes_in : ℕ → List ℕ → ℕ → Option (List ℕ)
bytes_in n s i = cond (leb (i + n) (length s)) (Some (take n (drop i s))) None
