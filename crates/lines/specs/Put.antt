-- A text put in a buffer from a position on: the position behind it, and what the buffer then holds. Assumes nothing.
use Rattle.std.specs.Prelude.{ℕ, ◌+◌, min, List, length}
use Rattle.std.proofs.lemmas.List.Edits.{sets}

-- the largest position (usize); no buffer is longer
abbrev pub largest : ℕ
largest = 18446744073709551615

-- bytes past the buffer's end are dropped, and the position stops at the largest
unfoldable pub put_text : List ℕ → ℕ → List ℕ → ℕ × List ℕ
put_text out at text = (min (at + length text) largest, sets out at text)
