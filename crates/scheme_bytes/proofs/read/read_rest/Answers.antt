-- The commands are read into the places of a table of none, which hold none.
-- Assumes nothing.
use Rattle.scheme_bytes.proofs.ReadLaws.{none_in_places}
use Rattle.scheme_bytes.proofs.read.read_rest.Goals as goal

pub read_commands-requires : goal.read_commands-requires
read_commands-requires c = (c.requires.0, none_in_places c.requires.1)
