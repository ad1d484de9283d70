-- `text::put_end` meets its contract: the word, then the three numbers.
-- Assumes nothing.
use native.Mathlib.Omega.{arith}
use mathlib.Core.Path.{sym, ap, ◌∙◌}
use Rattle.lines.specs.Put.{put_text}
use Rattle.lines.proofs.PutLaws.{put_then}
use Rattle.totals.specs.Outcome.{outcome_of}
use Rattle.printout.specs.Text.{end_line}
use Rattle.printout.proofs.text.put_end.Goals as goal

pub returns-in-Ok : goal.returns-in-Ok
returns-in-Ok c =
    c.put_line.ensures
    ∙ put_then _ _ _ c.put_text-p.ensures (omega arith) _
    ∙ ap (put_text _ _) (ap end_line (ap outcome_of (sym c.in-Ok.is)))
