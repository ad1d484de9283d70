-- `write::commands_length` meets its contract: after so many turns, the sum and the records that are left are as long as all of them.
-- Assumes nothing.
use Prim.Native.Nat.{◌+◌}
use mathlib.Core.Path.{◌≡◌}
use lib.ListN.{length, drop}
use Rattle.model.specs.Scheme.{commands_of}
use Rattle.records.specs.Bytes.{each_bytes}
use Rattle.scheme_write.proofs.WriteLaws.{command_record}
use Rattle.scheme_write.proofs.write.commands_length.Given as goal

abbrev pub invariant-loop-c : goal.invariant-loop-c
invariant-loop-c l =
    l.sum + length (each_bytes command_record (drop l.c-index (commands_of l.s))) ≡ length (each_bytes command_record (commands_of l.s))
