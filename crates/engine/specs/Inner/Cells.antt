-- The tests and the operations on the cells, where the parameters' seats are known.
-- Assumes nothing.
use Rattle.std.specs.Prelude.{ℕ, suc, ◌+◌, ◌*◌, Bool, cond, not, List, [], ◌∷◌, get_or, set}
use Rattle.std.proofs.Math.Option.{Option, none}
use Rattle.rights.specs.Sets.{has, enter_right, delete_right}
use Rattle.rights.specs.declared.Parameter.{Parameter}
use Rattle.laws.specs.Check.{◌or_else◌, must}
use Rattle.model.specs.Request.{at}
use Rattle.model.specs.Seats.{blank}
use Rattle.model.specs.declared.Test.{Test}
use Rattle.model.specs.declared.Code.{Code}
use Rattle.model.specs.declared.Code.TheVariants.{Enter, Delete, Create, Destroy}
use Rattle.model.specs.declared.Operation.{Operation}
use Rattle.model.specs.declared.Refusal.{Refusal}
use Rattle.plan.specs.Plan.{seat_at}

unfoldable pub place_at : List ℕ → Parameter → Parameter → ℕ
place_at spots i j = seat_at spots i * 48 + seat_at spots j

-- ---- the tests
unfoldable pub holds_at : List ℕ → List ℕ → Test → Bool
holds_at cells spots t =
    let there = has (get_or cells (place_at spots t.row t.column) 0) t.right.0 in
    cond t.present there (not there)

-- from place p on
unfoldable pub first_false : List ℕ → List ℕ → ℕ → List Test → Option Refusal
first_false cells spots p [] = none
first_false cells spots p (t ∷ ts) = must (holds_at cells spots t) (at 14 p) or_else first_false cells spots (suc p) ts

-- ---- the operations
unfoldable pub change_at : (ℕ → ℕ) → ℕ → List ℕ → List ℕ
change_at f k cells = set cells k (f (get_or cells k 0))

unfoldable pub cells_by : List ℕ → Operation → List ℕ → Code → List ℕ
cells_by spots o cells Enter = change_at (enter_right o.right.0) (place_at spots o.row o.column) cells
cells_by spots o cells Delete = change_at (delete_right o.right.0) (place_at spots o.row o.column) cells
cells_by spots o cells Create = cells
cells_by spots o cells Destroy = blank (seat_at spots o.row) 0 cells

unfoldable pub cells_after : List ℕ → List Operation → List ℕ → List ℕ
cells_after spots [] cells = cells
cells_after spots (o ∷ os) cells = cells_after spots os (cells_by spots o cells o.code)
