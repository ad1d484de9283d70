-- The seats of the parameters' things, or the first fault of their ids (12, 13, 18).
-- Assumes nothing.
use Rattle.std.specs.Prelude.{ℕ, suc, Bool, cond, List, [], ◌∷◌, replicate, Result, Ok, Err}
use Rattle.std.proofs.Math.Option.{Option, none, some}
use Rattle.std.proofs.lemmas.List.Edits.{sets}
use Rattle.rights.specs.Numberings.{parameter}
use Rattle.rights.specs.declared.ThingType.{ThingType}
use Rattle.model.specs.Scheme.{is_new}
use Rattle.model.specs.Request.{places_fault}
use Rattle.model.specs.Seats.{Matrix, matrix_of, seats, find}
use Rattle.model.specs.declared.Operation.{Operation}
use Rattle.model.specs.declared.Refusal.{Refusal}
use Rattle.model.specs.declared.Things.{Things}

-- things with no cells: the checks of the places look at no cell
abbrev pub bare : Things → Matrix
bare th = matrix_of th []

-- the seat of an id; a new parameter's is not known yet
abbrev pub seat_of : Things → Bool → ℕ → ℕ
seat_of th new x = cond new 0 (find th.ids x)

-- for each place from p on
unfoldable pub seats_from : Things → List Operation → ℕ → List ThingType → List ℕ → List ℕ
seats_from th os p [] xs = []
seats_from th os p (t ∷ ts) [] = []
seats_from th os p (t ∷ ts) (x ∷ xs) = seat_of th (is_new os (parameter p)) x ∷ seats_from th os (suc p) ts xs

-- the spots: the seats in an array of 8, by the parameter's place
abbrev pub no_spots : List ℕ
no_spots = replicate 8 0

unfoldable pub spots_of : Things → List Operation → List ThingType → List ℕ → List ℕ
spots_of th os types ids = sets no_spots 0 (seats_from th os 0 types ids)

-- what is found, unless there is a fault
abbrev pub unless : {A : Type 0} → A → Option Refusal → Result A Refusal
unless found none = Ok found
unless found (some r) = Err r

unfoldable pub located : Things → List Operation → List ThingType → List ℕ → Result (List ℕ) Refusal
located th os types ids = unless (spots_of th os types ids) (places_fault seats (bare th) os 0 types ids)

-- the answer, and the spots that were lent: zeros where there is a fault
abbrev pub located_into : Result (List ℕ) Refusal → Result (Unit {0}) Refusal × List ℕ
located_into (Ok spots) = (Ok tt, spots)
located_into (Err r) = (Err r, no_spots)
