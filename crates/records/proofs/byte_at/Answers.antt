-- `records::byte_at` meets its contract: it is what the reader of a byte gives there.
-- Assumes nothing.
use mathlib.Core.Path.{sym, ap}
use Rattle.faults.specs.Numbers.{fault_of}
use Rattle.records.specs.Results.{value_of}
use Rattle.records.proofs.FieldLaws.{byte_end, byte_there}
use Rattle.records.proofs.byte_at.Goals as goal

pub returns-then-b-i : goal.returns-then-b-i
unfolding fault_of
returns-then-b-i c = sym (ap value_of (byte_end _ _ c.if-b-i.true))

pub returns : goal.returns
returns c = sym (ap value_of (byte_there _ _ c.if-b-i.false))
