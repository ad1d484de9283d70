-- `records::put_front` meets its contract: the two stores, one after the other.
-- Assumes nothing.
use Rattle.records.proofs.put_front.Goals as goal

pub returns : goal.returns
returns c = rw (c.put2-2.ensures, c.put2.ensures)
