-- `lines::put_line` meets its contract: what is left to put is the line from there on.
-- Assumes nothing.
use native.Mathlib.Omega.{arith}
use mathlib.Core.Path.{sym}
use Rattle.lines.proofs.PutLaws.{left_on, left_last, put_none}
use Rattle.lines.proofs.LineLaws.{line_none, line_on, line_end}
use Rattle.lines.proofs.put_line.Goals as goal

pub returns-in_default : goal.returns-in_default
returns-in_default c = rw (line_none c.args.numbers.now c.in_default.ensures.cases) (sym (put_none _ _ (omega arith)))

pub loop-number-preserved : goal.loop-number-preserved
loop-number-preserved c =
    left_on c.loop-number.invariant (omega arith) _ _ c.put_number-p.ensures (line_on _ _ _ c.loop-number-test.true)

pub returns : goal.returns
returns c = left_last c.loop-number.invariant _ c.put_number.ensures (line_end _ _ _ c.loop-number-test.false)
