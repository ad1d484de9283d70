-- The answers of the functions: how long the image is that was written at the start of the lent buffer; or a refusal, which leaves that buffer as it was.
-- Assumes nothing.
use Rattle.std.specs.Prelude.{ℕ, List, [], ◌∷◌, Result, Ok, Err}
use Rattle.model.specs.Accepted.{accepted_scheme}
use Rattle.model.specs.declared.Scheme.{Scheme}
use Rattle.records.specs.Reading.{Read, got, fault}
use Rattle.records.specs.Front.{Refusal, against}
use Rattle.records.specs.Results.{refused}
use Rattle.records.specs.Writing.{write_bytes}
use Rattle.records.specs.Told.{Told, told}
use Rattle.records.specs.Outcome.Writing.{Writing}
use Rattle.records.specs.Outcome.Writing as writing
use Rattle.records.specs.declared.Refused as result
use Rattle.moving.specs.Moves.{forward, back}
use Rattle.moving.specs.Outcome.Moved.{Moved}
use Rattle.moving.specs.Outcome.Moved.{Done, Refused}

-- 9 is at no position of the image
abbrev pub after_writing : Writing → Moved
after_writing (writing.Done n) = Done n
after_writing (writing.Refused k) = Refused k 0

abbrev pub by_writing : Writing × List ℕ → Moved × List ℕ
by_writing w = (after_writing w.0, w.1)

abbrev pub as_moved : List ℕ → Read ℕ Refusal (List ℕ) → Moved × List ℕ
as_moved out (got image end) = by_writing (write_bytes out 0 image)
as_moved out (fault f) = (Refused f.number f.at, out)

-- 27, the reading's own numbers (and 23, on the way back), then 9
unfoldable pub forward_into : List ℕ → Scheme → List ℕ → Moved × List ℕ
forward_into old s out = as_moved out (against (accepted_scheme s) (forward s.head old 0))

unfoldable pub back_into : List ℕ → Scheme → List ℕ → Moved × List ℕ
back_into new s out = as_moved out (against (accepted_scheme s) (back s.head new 0))

-- what the functions give for it, with what the lent buffer then holds
abbrev pub moved_result : Moved → Result ℕ result.Refused
moved_result (Done n) = Ok n
moved_result (Refused k at) = Err (refused k at)

abbrev pub moved_into : Moved × List ℕ → Result ℕ result.Refused × List ℕ
moved_into m = (moved_result m.0, m.1)

-- what an answer tells: its number, 0 for success, and the length or the position
abbrev pub of_moved : Moved → Told
of_moved (Done n) = told 0 (n ∷ [])
of_moved (Refused k at) = told k (at ∷ [])
