-- The parts of a command as the private functions read them.
-- Assumes nothing.
use Rattle.std.specs.Prelude.{ℕ, Bool, List}
use Rattle.rights.specs.Numberings.{right, parameter}
use Rattle.rights.specs.declared.Parameter.{Parameter}
use Rattle.records.specs.Reading.{Body, ◌>>=◌, ◌>>◌, done, check, field}
use Rattle.command_bytes.specs.declared.fields.Named.{Named}

-- `named` and `thing` in one: a right below n, a row below k that fits, a column below m; x is the fault of a right and of a column out of range
abbrev pub three : (n k m x : ℕ) → (Parameter → Bool) → Body Named
three n k m x fits = do
  r ← field 0 n x
  row ← field 0 k 5
  check (fits (parameter row)) 6
  column ← field 0 m x
  done (record { right = right r; row = parameter row; column = parameter column })

-- a list that is read, as its array holds it
abbrev pub in_array : {A B : Type 0} → (List A → B) → Body (List A) → Body B
in_array from p = do
  xs ← p
  done (from xs)
