-- `records::put_record` meets its contract: a front and a body stored one behind the other are a record's bytes.
-- Assumes nothing.
use mathlib.Core.Path.{refl, ◌∙◌}
use Rattle.records.proofs.BytesLaws.{record_stored}
use Rattle.records.proofs.put_record.Goals as goal

pub returns : goal.returns
returns c =
    let front = c.put_front.ensures in
    c.put_bytes.ensures ∙ rw front (record_stored _ _ _ _ refl)
