-- `write::put_commands` meets its contract: after so many turns, placing the records that are left behind the last one gives all of them.
-- Assumes nothing.
use native.Mathlib.Omega.{arith}
use Rattle.scheme_write.proofs.WriteLaws.{placing_start, placing_end, command_room, command_on, turn_small}
use Rattle.scheme_write.proofs.write.put_commands.Goals as goal

pub loop-c-init : goal.loop-c-init
loop-c-init c = placing_start c.requires.1

pub put_command-requires : goal.put_command-requires
put_command-requires c = turn_small _ c.requires.0 _ c.loop-c-test.true

pub overflow_add-p : goal.overflow_add-p
overflow_add-p c = omega (arith, command_room c.loop-c.invariant c.loop-c-test.true)

pub command_length-requires : goal.command_length-requires
command_length-requires c = turn_small _ c.requires.0 _ c.loop-c-test.true

pub overflow_add-p-in-loop-c : goal.overflow_add-p-in-loop-c
overflow_add-p-in-loop-c c = omega (arith, command_room c.loop-c.invariant c.loop-c-test.true)

pub loop-c-preserved : goal.loop-c-preserved
loop-c-preserved c = command_on c.loop-c.invariant c.loop-c-test.true _ _ (omega arith) (rw c.put_command.ensures)

pub returns : goal.returns
returns c = placing_end c.loop-c.invariant c.loop-c-test.false
