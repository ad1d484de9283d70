-- `text::put_bad` meets its contract: the word, then the two numbers.
-- Assumes nothing.
use native.Mathlib.Omega.{arith}
use mathlib.Core.Path.{ap, ◌∙◌}
use Rattle.lines.specs.Put.{put_text}
use Rattle.lines.proofs.PutLaws.{put_then}
use Rattle.printout.specs.Text.{bad_line}
use Rattle.printout.proofs.text.put_bad.Goals as goal

pub returns : goal.returns
unfolding bad_line
returns c =
    c.put_line.ensures
    ∙ put_then _ _ _ c.put_text-p.ensures (omega arith) _
    ∙ ap (put_text _ _) (ap (bad_line c.args.refused.at) c.number.ensures)
