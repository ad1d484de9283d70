-- The starred examples of the outline, all of them, as one list of claims: on paper, in memory, and as the functions' contracts give them.
-- Assumes nothing.
use Rattle.std.specs.Prelude.{ℕ, ◌*◌, Bool, false, ◌&&◌, List, [], ◌∷◌, ◌++◌, map, T, eqb, length, take, replicate}
use Rattle.laws.specs.Check.{all}
use Rattle.model.specs.Answers.{reply_width, reply_bytes}
use Rattle.model.specs.Papers.{papers}
use Rattle.model.specs.Seats.{Matrix, seats, stands_for, known}
use Rattle.model.specs.KeyExample.{key_scheme, key_matrix, ask, says, stops_at, is, same_numbers, cell_is, is_true, starred, Claim as Asked}
use Rattle.model.specs.declared.Scheme.{Scheme}
use Rattle.records.specs.Bytes.{each_bytes}
use Rattle.records.specs.Outcome.Writing.{Writing}
use Rattle.records.specs.Outcome.Writing as writing
use Rattle.request_list.specs.List.{list_bytes}
use Rattle.engine.specs.List.{Result, run_on}
use Rattle.convert.specs.Convert.{converted_scheme, converted_cells, convert_scheme_into}

-- a claim speaks of requests to the office or to the robot (of their answers, of cells and of things afterwards), or of a converted scheme's bytes
pub data Claim : Type 0 where
  office : Asked → Claim
  robot : Asked → Claim
  written : Scheme → ℕ → List ℕ → Claim

-- ---- requests, by `run_list` on their bytes
unfoldable pub ran_so : Asked → Result → Bool
ran_so c r =
    let m : Matrix = record { things = r.ran.things; cells = r.cells } in
    same_numbers r.replies (each_bytes reply_bytes c.replies) && all (cell_is seats m) c.cells && all (known m.things) c.things

unfoldable pub holds_from : Matrix → Asked → Bool
holds_from m c =
    is_true papers (stands_for m) c && is_true seats m c
    && ran_so c (run_on c.of m (list_bytes c.requests) (replicate (reply_width * length c.requests) 0))

-- ---- conversion, by `converted_scheme`, `converted_cells` and `convert_scheme`
unfoldable pub robot_matrix : Scheme → Matrix → Matrix
robot_matrix s m = record { things = m.things; cells = (converted_cells s m).1 }

unfoldable pub by_robot : Asked → Asked
by_robot c = record { of = (converted_scheme c.of).scheme; requests = c.requests; replies = c.replies; cells = c.cells; things = c.things }

abbrev pub wrote_so : ℕ → List ℕ → Writing × List ℕ → Bool
wrote_so n front (writing.Done k, left) = eqb k n && same_numbers (take (length front) left) front
wrote_so n front (writing.Refused k, left) = false

unfoldable pub holds_of : Claim → Bool
holds_of (office c) = holds_from key_matrix c
holds_of (robot c) = holds_from (robot_matrix c.of key_matrix) (by_robot c)
holds_of (written s n front) = wrote_so n front (convert_scheme_into (replicate 64 0) s)

unfoldable pub all_starred : List Claim
all_starred =
    map office starred
    -- the converted start: [5, 9] = 225, [9, 12] = 210, the other four cells 240
    ++ robot (record {
      of = key_scheme;
      requests = [];
      replies = [];
      cells = is 5 9 225 ∷ is 9 12 210 ∷ is 5 5 240 ∷ is 5 12 240 ∷ is 9 5 240 ∷ is 9 9 240 ∷ [];
      things = 5 ∷ 9 ∷ 12 ∷ [];
    })
    -- after the two accepted requests: [9, 12] = 90, [9, 9] = 180
    ∷ robot (record {
      of = key_scheme;
      requests = ask 1 (9 ∷ 12 ∷ []) ∷ ask 0 (5 ∷ 9 ∷ []) ∷ [];
      replies = says 0 4 ∷ says 0 3 ∷ [];
      cells = is 9 12 90 ∷ is 9 9 180 ∷ [];
      things = [];
    })
    -- and then the robot can't load again: stopped by the same test as the office
    ∷ robot (record {
      of = key_scheme;
      requests = ask 1 (9 ∷ 12 ∷ []) ∷ ask 0 (5 ∷ 9 ∷ []) ∷ ask 1 (9 ∷ 12 ∷ []) ∷ [];
      replies = says 0 4 ∷ says 0 3 ∷ stops_at 1 2 ∷ [];
      cells = [];
      things = [];
    })
    -- the converted scheme: 55 bytes, head 05 00 01 00 08 03 03 00 02
    ∷ written key_scheme 55 (5 ∷ 0 ∷ 1 ∷ 0 ∷ 8 ∷ 3 ∷ 3 ∷ 0 ∷ 2 ∷ [])
    ∷ []

-- Every starred example of the outline holds.
abbrev pub Starred : Type 0
Starred = T (all holds_of all_starred)
