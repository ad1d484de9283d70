-- A type is stored as its byte.
-- Assumes nothing.
use Rattle.command_bytes.specs.Write.{type_bytes}
use borrow.Author.Rules.{rules}
use Rattle.scheme_write.proofs.write.ThingTypeStored.put.Goals as goal

pub returns : goal.returns
unfolding type_bytes
returns c = record { stored = rw (c.put1.ensures, c.byte.ensures); behind = search rules }
