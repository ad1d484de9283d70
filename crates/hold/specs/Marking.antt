-- Hold and release: the office sets and clears the mark of a thing, by its id, on paper and in memory; 12 where there is no such thing.
-- What is marked so already stays as it is. Assumes nothing.
use Rattle.std.specs.Prelude.{ℕ, Bool, true, false, ◌&&◌, List, [], set, Result, Ok, Err}
use Rattle.std.proofs.Math.Option.{Option, none, some}
use Rattle.faults.specs.Numbers.{fault_of}
use Rattle.faults.specs.declared.Fault.{Fault}
use Rattle.laws.specs.Check.{must}
use Rattle.model.specs.Request.{Thing, at, Outcome, done, refused, unless_fault}
use Rattle.model.specs.Papers.{State, now_has}
use Rattle.model.specs.Seats.{known, seat, matrix_of}
use Rattle.model.specs.Accepted.{accepted_scheme, accepted_matrix}
use Rattle.model.specs.declared.Scheme.{Scheme}
use Rattle.model.specs.declared.Things.{Things}
use Rattle.records.specs.Told.{Told, told}
use Rattle.hold.specs.Outcome.Marked.{Marked}
use Rattle.hold.specs.Outcome.Marking.{Marking}
use Rattle.hold.specs.Outcome.Marking.{Done, Refused}

-- ---- on paper: X is what it was, with this mark

unfoldable pub marked_if : Bool → ℕ → State → Option Thing → Outcome State
marked_if b x m none = refused (at 12 0)
marked_if b x m (some t) = done (record { things = now_has x (some (record { type = t.type; on_hold = b })) m.things; rights = m.rights })

unfoldable pub mark_on_paper : Bool → ℕ → State → Outcome State
mark_on_paper b x m = marked_if b x m (m.things.thing x)

-- ---- in memory: one mark is set, by seat

unfoldable pub mark_seat : Bool → ℕ → Things → Things
mark_seat b p th = record { ids = th.ids; types = th.types; marks = set th.marks p b; highest = th.highest }

unfoldable pub mark_thing : Bool → ℕ → Things → Outcome Things
mark_thing b x th = unless_fault (must (known th x) (at 12 0)) (done (mark_seat b (seat th x) th))

-- ---- what the functions give: the things afterwards and the answer; 27 before all

abbrev pub as_marked : Things → Outcome Things → Marked
as_marked th (done now) = record { things = now; answer = Done }
as_marked th (refused r) = record { things = th; answer = Refused r.number }

abbrev pub marking_result : Marking → Result Unit Fault
marking_result Done = Ok tt
marking_result (Refused k) = Err (fault_of k)

-- in the code: the things are lent, and a refusal is a fault
abbrev pub marked_result : Marked → Result Unit Fault × Things
marked_result m = (marking_result m.answer, m.things)

-- what the answer tells: nothing but the number of the refusal, 0 for success
abbrev pub of_marking : Marking → Told
of_marking Done = told 0 []
of_marking (Refused k) = told k []

unfoldable pub marked_by : Bool → Scheme → Things → List ℕ → ℕ → Marked
marked_by b s th cells x =
    as_marked th (unless_fault (must (accepted_scheme s && accepted_matrix s.head (matrix_of th cells)) (at 27 0)) (mark_thing b x th))

abbrev pub hold : Scheme → Things → List ℕ → ℕ → Marked
hold = marked_by true

abbrev pub release : Scheme → Things → List ℕ → ℕ → Marked
release = marked_by false
