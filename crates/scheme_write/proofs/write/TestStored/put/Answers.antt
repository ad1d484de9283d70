-- A test is stored as its sense, and what it names behind it.
-- Assumes nothing.
use mathlib.Core.Path.{refl, ◌∙◌}
use Rattle.command_bytes.specs.Write.{test_bytes}
use Rattle.scheme_write.proofs.WriteLaws.{test_stored}
use Rattle.scheme_write.proofs.write.TestStored.put.Goals as goal

pub returns : goal.returns
unfolding test_bytes
returns c = record { stored = c.put_named.ensures ∙ rw c.put1.ensures (test_stored _ _ _); behind = refl }
