-- A command whose counts are within the outline's limits: what a writer of one may take for granted.
-- Assumes nothing.
use Rattle.std.specs.Prelude.{◌≤◌, length}
use Rattle.model.specs.declared.Command.{Command}

pub record Small (c : Command) : Type 0 where
  pub parameters : c.parameters.count ≤ 8
  pub tests : c.tests.count ≤ 16
  pub operations : c.operations.count ≤ 32
  pub type_room : 8 ≤ length c.parameters.types
  pub test_room : 16 ≤ length c.tests.list
  pub operation_room : 32 ≤ length c.operations.list
