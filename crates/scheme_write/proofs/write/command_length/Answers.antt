-- `write::command_length` meets its contract: the counts are the lengths of the lists.
-- Assumes nothing.
use mathlib.Core.Path.{sym}
use Rattle.scheme_write.proofs.WriteLaws.{length_command}
use Rattle.scheme_write.proofs.write.command_length.Goals as goal

pub returns : goal.returns
returns c = sym (length_command c.args.c.now c.requires)
