-- `records::put2` meets its contract: the standard library's bytes of a number are `little_endian`.
-- Assumes nothing.
use mathlib.Core.Path.{ap, ◌∙◌}
use lib.Seq.{sets}
use Rattle.records.proofs.BytesLaws.{two_bytes_of}
use Rattle.records.proofs.put2.Goals as goal

pub returns : goal.returns
returns c = c.put_each.ensures ∙ ap (sets _ _) (c.to_le_bytes.ensures ∙ two_bytes_of c.args.v)
