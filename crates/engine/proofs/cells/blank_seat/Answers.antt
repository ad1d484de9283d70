-- `blank` of the cells stays what it was, and after j turns the seat's cells at columns and rows below j are 0.
use mathlib.Core.Path.{sym, ◌∙◌}
use lib.ListN.{length-set}
use borrow.Author.Rules.{rules}
use Rattle.engine.proofs.CellLaws.{clear_turn, blank_turn, blank_end, blank_out}
use Rattle.engine.proofs.cells.blank_seat.Goals as goal

pub loop-j-preserved : goal.loop-j-preserved
loop-j-preserved c =
    let p = c.args.p in (
      simp length-set c.loop-j.invariant.0,
      blank_turn p c.loop-j.j c.loop-j.cells (search rules) (search rules) ∙ c.loop-j.invariant.1,
      clear_turn p c.loop-j.j c.loop-j.cells c.loop-j.invariant.2,
    )

pub returns-after-loop-j : goal.returns-after-loop-j
returns-after-loop-j c =
    sym (blank_end c.args.p c.loop-j.cells c.loop-j.invariant.0 c.loop-j.j (search rules) c.loop-j.invariant.2) ∙ c.loop-j.invariant.1

pub returns-else-p-lt-LIMIT : goal.returns-else-p-lt-LIMIT
returns-else-p-lt-LIMIT c = sym (blank_out c.args.p c.args.cells.now (search rules) (search rules))
