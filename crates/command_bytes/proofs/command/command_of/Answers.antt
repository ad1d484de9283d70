-- `command::command_of` meets its contract: its lists have the places that their counts say.
-- Assumes nothing.
use mathlib.Core.Path.{sym}
use borrow.Author.Tests.{lt-ltb}
use Rattle.command_bytes.proofs.CommandLaws.{command_lines}
use Rattle.command_bytes.proofs.command.command_of.Goals as goal

pub returns-then-j-o : goal.returns-then-j-o
returns-then-j-o c =
    rw (
      command_lines c.args.head c.args.b.now,
      sym c.in_ok-k.ensures,
      sym c.in_ok-parameters.ensures,
      sym c.in_ok-t.ensures,
      sym c.in_ok-tests.ensures,
      sym c.in_ok-o.ensures,
      sym c.in_ok-operations.ensures,
      lt-ltb _ _ c.if-j-o.true,
    )
