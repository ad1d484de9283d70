-- `lines::put_text` meets its contract: what is left to put is what remains of the text.
-- Assumes nothing.
use lib.ListN.{drop}
use Rattle.lines.proofs.PutLaws.{Left}
use Rattle.lines.proofs.put_text.Given as goal

abbrev pub invariant-loop-byte : goal.invariant-loop-byte
invariant-loop-byte l = Left l.initial.out l.at l.text l.out l.p (drop l.byte-index l.text)
