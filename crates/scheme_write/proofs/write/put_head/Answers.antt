-- `write::put_head` meets its contract: a front and the head's fields stored one behind the other are its record's bytes.
-- Assumes nothing.
use mathlib.Core.Path.{◌∙◌}
use Rattle.scheme_write.proofs.WriteLaws.{head_stored}
use Rattle.scheme_write.proofs.write.put_head.Goals as goal

pub returns : goal.returns
returns c =
    let front = c.put_front.ensures in
    c.put1-3.ensures ∙ rw (c.put2.ensures, c.put1-2.ensures, c.put1.ensures, front) (head_stored _ _)
