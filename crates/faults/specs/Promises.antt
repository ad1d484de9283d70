-- What is promised of faults and their numbers; the proof stands in proofs/NumberLaws.antt.
-- Assumes nothing.
use Rattle.std.specs.Prelude.{ℕ, ◌≡◌}
use Rattle.faults.specs.Numbers.{number_of, fault_of}

-- No number is lost: the fault of a number has just that number. So what is said of a fault determines the number that the outline gives.
abbrev pub NumbersKept : Type 0
NumbersKept = (n : ℕ) → number_of (fault_of n) ≡ n
