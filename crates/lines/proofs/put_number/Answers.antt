-- `lines::put_number` meets its contract: a number, then a byte.
-- Assumes nothing.
use native.Mathlib.Omega.{arith}
use mathlib.Core.Path.{◌∙◌}
use Rattle.lines.proofs.PutLaws.{put_then}
use Rattle.lines.proofs.put_number.Goals as goal

pub returns : goal.returns
returns c =
    c.put_byte.ensures ∙ put_then _ _ _ c.put_decimal-p.ensures (omega arith) _
