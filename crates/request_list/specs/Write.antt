-- Writing a list of requests: which can be written, and one call of `write_request` behind the other.
-- Assumes nothing.
use Rattle.std.specs.Prelude.{ℕ, ◌<◌, ◌≤◌, List, [], ◌∷◌, length, get_or}
use Rattle.model.specs.Request.{Request}
use Rattle.records.specs.Outcome.Writing.{Writing}
use Rattle.records.specs.Outcome.Writing.{Done, Refused}
use Rattle.request_bytes.specs.Write.{write_request}

-- what can be handed to `write_request`: a command number of one byte, and any number of ids of two bytes
pub record Sized (q : Request) : Type 0 where
  pub command : q.command < 256
  pub ids : (i : ℕ) → get_or q.ids i 0 < 65536

-- what it takes, where there is room: at most 8 ids
pub record Writable (q : Request) : Type 0 where
  pub sized : Sized q
  pub few : length q.ids ≤ 8

-- on behind a request that was written; a refusal ends the writing
abbrev pub on_written : (ℕ → List ℕ → Writing × List ℕ) → Writing × List ℕ → Writing × List ℕ
on_written rest (Done next, left) = rest next left
on_written rest (Refused k, left) = (Refused k, left)

-- each at the position that the one before gave
unfoldable pub write_list : List ℕ → ℕ → List Request → Writing × List ℕ
write_list out at [] = (Done at, out)
write_list out at (q ∷ qs) = on_written (λ next left. write_list left next qs) (write_request out at q.command q.ids)
