-- An operation is stored as its code, and what it names behind it.
-- Assumes nothing.
use mathlib.Core.Path.{refl, ◌∙◌}
use Rattle.command_bytes.specs.Write.{operation_bytes}
use Rattle.scheme_write.proofs.WriteLaws.{operation_stored}
use Rattle.scheme_write.proofs.write.OperationStored.put.Goals as goal

pub returns : goal.returns
unfolding operation_bytes
returns c = record { stored = c.put_named.ensures ∙ rw (c.put1.ensures, c.code_number.ensures) (operation_stored _ _ _); behind = refl }
