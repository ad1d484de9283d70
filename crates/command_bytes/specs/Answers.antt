-- What the functions give, from what `Read` gives; and what that tells.
-- Assumes nothing.
use Rattle.std.specs.Prelude.{ℕ, List, [], ◌∷◌, Result, Ok, Err}
use Rattle.faults.specs.Numbers.{number_of}
use Rattle.model.specs.Accepted.{accepted_head}
use Rattle.model.specs.Arrays.{no_command}
use Rattle.model.specs.declared.Command.{Command}
use Rattle.model.specs.declared.Head.{Head}
use Rattle.records.specs.Front.{against}
use Rattle.records.specs.Results.{item_of}
use Rattle.records.specs.Told.{Told, told}
use Rattle.records.specs.declared.Refused.{Refused}
use Rattle.command_bytes.specs.Read.{head_at, command_at}

-- the functions: the head, and a command against a head, at a position
unfoldable pub read_head : List ℕ → ℕ → Result (Head × ℕ) Refused
read_head bytes at = item_of (head_at bytes at)

unfoldable pub read_command : List ℕ → ℕ → Head → Result (Command × ℕ) Refused
read_command bytes at h = item_of (against (accepted_head h) (command_at bytes h at))

-- the function's result, with what the lent command then holds: where it is refused, one of zeros
abbrev pub command_lent : Result (Command × ℕ) Refused → Result ℕ Refused × Command
command_lent (Ok (c, next)) = (Ok next, c)
command_lent (Err r) = (Err r, no_command)

-- the head's fields and the next position; or the number and the record's position
abbrev pub of_head_at : Result (Head × ℕ) Refused → Told
of_head_at (Ok (h, next)) = told 0 (h.rights ∷ h.types ∷ h.subjects.0 ∷ h.count ∷ next ∷ [])
of_head_at (Err r) = told (number_of r.fault) (r.at ∷ [])

-- the position behind the command; or the number and the record's position
abbrev pub of_command_at : Result (Command × ℕ) Refused → Told
of_command_at (Ok (c, next)) = told 0 (next ∷ [])
of_command_at (Err r) = told (number_of r.fault) (r.at ∷ [])
