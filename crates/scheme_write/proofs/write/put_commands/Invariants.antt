-- `write::put_commands` meets its contract: after so many turns, placing the records that are left behind the last one gives all of them.
-- Assumes nothing.
use Rattle.model.specs.Scheme.{commands_of}
use Rattle.scheme_write.proofs.WriteLaws.{command_record, Placing}
use Rattle.scheme_write.proofs.write.put_commands.Given as goal

abbrev pub invariant-loop-c : goal.invariant-loop-c
invariant-loop-c l = Placing command_record (commands_of l.s) l.initial.out l.at l.out l.p l.c-index
