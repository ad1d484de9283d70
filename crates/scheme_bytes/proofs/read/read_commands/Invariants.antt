-- `read::read_commands` meets its contract: after so many turns so many commands are read, and stand at the start of the places in use.
-- Assumes nothing.
use Prim.Native.Nat.{◌-◌}
use mathlib.Core.List.{◌++◌, map}
use mathlib.Core.Path.{◌≡◌}
use lib.ListN.{length, replicate}
use Rattle.model.specs.Arrays.{no_command}
use Rattle.model.specs.declared.Command.{Command}
use Rattle.records.proofs.Loop.{Looped}
use Rattle.command_bytes.specs.Read.{command_at}
use Rattle.scheme_bytes.proofs.read.read_commands.Given as goal

abbrev pub invariant-loop-place : goal.invariant-loop-place
invariant-loop-place l =
    (v : Looped (λ (u : Unit {0}). command_at l.s l.h) (λ u x. u) l.h.count tt l.at l.place-index tt l.next) ×
    (l.place-items ≡ map (λ (x : Command). x) v.items ++ replicate (l.h.count - l.place-index) no_command) ×
    (length l.place-items ≡ l.h.count)
