-- `write::put_command` meets its contract: a front and three lists, each behind its count, stored one behind the other are a command's record.
-- Assumes nothing.
use native.Mathlib.Omega.{arith}
use mathlib.Core.Path.{◌∙◌}
use Rattle.scheme_write.proofs.WriteLaws.{length_command, length_types, length_tests, tests_long, operations_long, command_stored}
use Rattle.scheme_write.proofs.write.put_command.Goals as goal

pub overflow_cast-command_length : goal.overflow_cast-command_length
overflow_cast-command_length c = omega (arith, length_command _ c.requires)

pub put_list-operations-requires : goal.put_list-operations-requires
put_list-operations-requires c = (omega (arith, length_types _ c.requires, c.put_list-tests.ensures.behind), omega (arith, tests_long _ c.requires))

pub put_list-requires : goal.put_list-requires
put_list-requires c = (
  omega (arith, length_types _ c.requires, length_tests _ c.requires, c.put_list-tests.ensures.behind, c.put_list-operations.ensures.behind),
  omega (arith, operations_long _ c.requires),
)

pub returns : goal.returns
returns c =
    c.put_list.ensures.stored
    ∙ rw (c.put_list-operations.ensures.stored, c.put_list-tests.ensures.stored, c.put_front.ensures)
    (command_stored c.args.c.now c.requires _ _ c.command_length.ensures _ _ (omega (arith, c.put_list-tests.ensures.behind))
    (omega (arith, c.put_list-operations.ensures.behind)))
