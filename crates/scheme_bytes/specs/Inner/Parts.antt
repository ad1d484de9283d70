-- The commands as the private functions read them; and what they read into what is lent.
-- Assumes nothing.
use Rattle.std.specs.Prelude.{ℕ, ◌-◌, List, ◌++◌, length, replicate}
use Rattle.model.specs.Arrays.{no_command}
use Rattle.model.specs.declared.Command.{Command}
use Rattle.records.specs.Reading.{Read, bind, done}
use Rattle.records.specs.Front.{Refusal}

-- commands that are read, in their array, with nothing behind them
abbrev pub in_places : Read ℕ Refusal (List Command) → Read ℕ Refusal (List Command)
in_places m = bind m (λ cs. done (cs ++ replicate (32 - length cs) no_command))
