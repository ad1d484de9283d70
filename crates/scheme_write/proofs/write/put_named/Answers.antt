-- `write::put_named` meets its contract: three bytes stored one behind the other.
-- Assumes nothing.
use mathlib.Core.Path.{◌∙◌}
use Rattle.scheme_write.proofs.WriteLaws.{named_stored}
use Rattle.scheme_write.proofs.write.put_named.Goals as goal

pub returns : goal.returns
returns c =
    let a = c.args in
    c.put1-3.ensures ∙
    rw (c.put1-2.ensures, c.put1.ensures, c.byte-3.ensures, c.byte-2.ensures, c.byte.ensures)
    (named_stored a.part.now a.i a.right.0 a.row.0 a.column.0)
