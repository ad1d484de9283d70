-- `records::put1` meets its contract: past the end `set` changes nothing either.
-- Assumes nothing.
use mathlib.Core.Path.{sym}
use lib.Seq.{set_out}
use Rattle.records.proofs.put1.Goals as goal

pub returns-else-i-out : goal.returns-else-i-out
returns-else-i-out c = sym (set_out _ _ _ c.if-i-out.false)
