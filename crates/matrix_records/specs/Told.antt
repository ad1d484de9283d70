-- What an answer tells: for each of its cases the outline's number, 0 for success, and the values that go with it.
-- Assumes nothing.
use Rattle.std.specs.Prelude.{ℕ, List, [], ◌∷◌, ◌++◌, Result, Ok, Err}
use Rattle.faults.specs.Numbers.{number_of}
use Rattle.rights.specs.Numberings.{type_byte}
use Rattle.records.specs.Told.{Told, told}
use Rattle.records.specs.declared.Refused.{Refused}
use Rattle.matrix_records.specs.declared.answers.FoundHead.{FoundHead}
use Rattle.matrix_records.specs.declared.answers.FoundThing.{FoundThing}
use Rattle.matrix_records.specs.declared.answers.FoundCell.{FoundCell}

-- what a record says and the next position; or the number and the record's position
module _ {A : Type 0} (values : A → List ℕ) where
  abbrev pub of_found : Result (A × ℕ) Refused → Told
  of_found (Ok (a, next)) = told 0 (values a ++ next ∷ [])
  of_found (Err r) = told (number_of r.fault) (r.at ∷ [])

abbrev pub of_head : Result (FoundHead × ℕ) Refused → Told
of_head = of_found (λ h. h.kind ∷ h.count ∷ h.highest ∷ [])

abbrev pub of_thing : Result (FoundThing × ℕ) Refused → Told
of_thing = of_found (λ t. t.kind ∷ t.id ∷ type_byte t.of ∷ [])

abbrev pub of_cell : Result (FoundCell × ℕ) Refused → Told
of_cell = of_found (λ c. c.kind ∷ c.row ∷ c.column ∷ c.place ∷ c.rights ∷ [])
