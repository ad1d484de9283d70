-- The outline's refusal numbers: the number of each fault, and the fault of each number. A number and its fault are one thing said twice (`NumbersKept` of
-- Promises), so that definitions go on speaking of numbers, as the outline does, and functions give faults by name.
-- Assumes nothing.
use Rattle.std.specs.Prelude.{ℕ, cond, eqb}
use Rattle.faults.specs.declared.Fault.{Fault}
use Rattle.faults.specs.declared.Fault.TheVariants as fault

abbrev pub number_of : Fault → ℕ
number_of fault.Truncated = 1
number_of fault.WrongKind = 2
number_of fault.BodyEnd = 3
number_of fault.Count = 4
number_of fault.Range = 5
number_of fault.Form = 6
number_of fault.Order = 7
number_of fault.Leftover = 8
number_of fault.NoRoom = 9
number_of fault.NoCommand = 10
number_of fault.IdCount = 11
number_of fault.NoThing = 12
number_of fault.OtherType = 13
number_of fault.FalseTest = 14
number_of fault.IdTaken = 15
number_of fault.NoSeat = 16
number_of fault.Gone = 17
number_of fault.OnHold = 18
number_of fault.CreatesOrDestroys = 20
number_of fault.TooManyRights = 21
number_of fault.TooManyOperations = 22
number_of fault.HighestLost = 23
number_of fault.NotAccepted = 27
number_of (fault.Other n) = n

-- a number that the outline gives to nothing stays what it is
unfoldable pub fault_of : ℕ → Fault
fault_of n =
    cond (eqb n 1) fault.Truncated
    (cond (eqb n 2) fault.WrongKind
    (cond (eqb n 3) fault.BodyEnd
    (cond (eqb n 4) fault.Count
    (cond (eqb n 5) fault.Range
    (cond (eqb n 6) fault.Form
    (cond (eqb n 7) fault.Order
    (cond (eqb n 8) fault.Leftover
    (cond (eqb n 9) fault.NoRoom
    (cond (eqb n 10) fault.NoCommand
    (cond (eqb n 11) fault.IdCount
    (cond (eqb n 12) fault.NoThing
    (cond (eqb n 13) fault.OtherType
    (cond (eqb n 14) fault.FalseTest
    (cond (eqb n 15) fault.IdTaken
    (cond (eqb n 16) fault.NoSeat
    (cond (eqb n 17) fault.Gone
    (cond (eqb n 18) fault.OnHold
    (cond (eqb n 20) fault.CreatesOrDestroys
    (cond (eqb n 21) fault.TooManyRights
    (cond (eqb n 22) fault.TooManyOperations
    (cond (eqb n 23) fault.HighestLost
    (cond (eqb n 27) fault.NotAccepted
    (fault.Other n)))))))))))))))))))))))
