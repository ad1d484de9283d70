-- What is promised of a converted set; the proof stands in proofs/Converted.antt.
-- Assumes nothing.
use Rattle.std.specs.Prelude.{ℕ, ◌+◌, ◌*◌, ◌^◌, ◌≤◌, ◌<◌, ◌≡◌}
use Rattle.rights.specs.Sets.{complement, gained}

-- All partners at once. The definition gains them right by right; in one number, without a look at any single right, it is the same set: what stood
-- there plus 2 to the n times the complement of it. With k = n that is the converted set, which the code works out so and stores once.
abbrev pub AtOnce : Type 0
AtOnce = (n k set : ℕ) → k + n ≤ 64 → set < 2 ^ n → gained n k set ≡ set + 2 ^ n * complement k set
