-- `write::commands_length` meets its contract: after so many turns, the sum and the records that are left are as long as all of them.
-- Assumes nothing.
use native.Mathlib.Omega.{arith}
use mathlib.Core.Path.{ap}
use lib.ListN.{length}
use Rattle.scheme_write.proofs.WriteLaws.{command_record, each_none, commands_few, turn_small, commands_next}
use Rattle.scheme_write.proofs.write.commands_length.Goals as goal

pub command_length-requires : goal.command_length-requires
command_length-requires c = turn_small _ c.requires _ c.loop-c-test.true

pub overflow_add-sum : goal.overflow_add-sum
overflow_add-sum c = omega (arith, commands_few _ c.requires, c.loop-c.invariant, commands_next _ c.requires _ c.loop-c-test.true)

pub overflow_add-sum-in-loop-c : goal.overflow_add-sum-in-loop-c
overflow_add-sum-in-loop-c c = omega (arith, commands_few _ c.requires, c.loop-c.invariant, c.command_length.ensures, commands_next _ c.requires _ c.loop-c-test.true)

pub loop-c-preserved : goal.loop-c-preserved
loop-c-preserved c = omega (arith, c.loop-c.invariant, c.command_length.ensures, commands_next _ c.requires _ c.loop-c-test.true)

pub returns : goal.returns
returns c =
    let none = ap length (each_none command_record _ _ c.loop-c-test.false) in
    (omega (arith, c.loop-c.invariant), omega (arith, c.loop-c.invariant, commands_few _ c.requires))
