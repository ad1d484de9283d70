-- What is promised of the words that are read; the proof stands in proofs/. Assumes nothing.
use Rattle.std.specs.Prelude.{ℕ, ◌≤◌, ◌≡◌, Some}
use Rattle.lines.specs.Lines.{decimal}
use Rattle.lines.specs.Ids.{id_in}

-- An id is read as it is printed.
abbrev pub IdsReadBack : Type 0
IdsReadBack = (id : ℕ) → id ≤ 65535 → id_in (decimal id) ≡ Some id
