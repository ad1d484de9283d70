-- What the library's inner functions give: what a call did, or why it was refused and where; and what that tells.
-- Assumes nothing.
use Rattle.std.specs.Prelude.{ℕ, cond, List, [], ◌∷◌, eqb, replicate, Result, Ok, Err, Option, Some, None}
use Rattle.faults.specs.Numbers.{number_of, fault_of}
use Rattle.faults.specs.declared.Fault.{Fault}
use Rattle.model.specs.Seats.{no_things}
use Rattle.model.specs.Arrays.{no_scheme}
use Rattle.model.specs.declared.Head.{Head}
use Rattle.model.specs.declared.Scheme.{Scheme}
use Rattle.model.specs.declared.Things.{Things}
use Rattle.records.specs.Outcome.Reading.{Reading}
use Rattle.records.specs.Outcome.Reading.{Done, Refused}
use Rattle.records.specs.declared.Refused.{Refused as Refusal}
use Rattle.scheme_bytes.specs.Answers.{read_scheme}
use Rattle.matrix_bytes.specs.Answers.{read_matrix_by_head}
use Rattle.robot.specs.Library.{Called, call, cut_short, Wrote, Ran}
use Rattle.robot.specs.declared.report.Place.{Place}
use Rattle.robot.specs.declared.report.Place.TheVariants as place
use Rattle.robot.specs.declared.report.Failure.{Failure}
use Rattle.robot.specs.declared.report.Numbers.{Numbers}
use Rattle.robot.specs.declared.report.Success.{Success}

abbrev pub place_number : Place → ℕ
place_number place.Scheme = 1
place_number place.Matrix = 2
place_number place.List = 3
place_number place.Answers = 4
place_number place.Output = 5

-- ---- what it tells
abbrev pub told_done : Option Refusal → Success → Called
told_done None s = call 0 0 s.at s.count s.written
told_done (Some r) s = cut_short (number_of r.fault) r.at s.count s.written

abbrev pub told : Result Success Failure → Called
told (Ok s) = told_done s.cut s
told (Err f) = call (number_of f.fault) (place_number f.place) f.at 0 0

-- the five numbers in the report's order
abbrev pub listed : Numbers → List ℕ
listed n = n.place ∷ n.at ∷ n.count ∷ n.written ∷ n.cut ∷ []

-- with what the lent buffers then hold
abbrev pub Filled : Type 0
Filled = Called × List ℕ

abbrev pub filled : Wrote → Filled
filled w = (w.called, w.out)

abbrev pub Answered : Type 0
Answered = Called × List ℕ × List ℕ

abbrev pub answered : Ran → Answered
answered r = (r.called, r.answers, r.out)

-- ---- what was stored: 9 lies in the output, any other number in what the caller says
abbrev pub stored_told : ℕ → Result ℕ Fault → Called
stored_told other (Ok n) = call 0 0 0 0 n
stored_told other (Err f) = call (number_of f) (cond (eqb (number_of f) 9) 5 other) 0 0 0

abbrev pub moved_told : Result ℕ Refusal → Called
moved_told (Ok n) = call 0 0 0 0 n
moved_told (Err r) = call (number_of r.fault) (cond (eqb (number_of r.fault) 9) 5 2) r.at 0 0

-- ---- what was read, with its length
module _ {A : Type 0} (p : Place) (a : A) where
  abbrev pub found : Reading → Result (A × ℕ) Failure
  found (Done n) = Ok (a, n)
  found (Refused k at) = Err (record { fault = fault_of k; place = p; at = at })

unfoldable pub scheme_found : List ℕ → Result (Scheme × ℕ) Failure
scheme_found bytes = let r = read_scheme bytes no_scheme in found place.Scheme r.scheme r.answer

-- into cells that hold nothing yet
unfoldable pub matrix_found : List ℕ → Head → Result (Things × ℕ) Failure × List ℕ
matrix_found bytes h =
    let r = read_matrix_by_head bytes h no_things (replicate 2304 0) in
    (found place.Matrix r.0.things r.0.answer, r.1)
