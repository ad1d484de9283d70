-- Each id passed that isn't 0 was found at its own seat; the first that isn't shows that two are one.
use Rattle.std.proofs.Common.{◌∙◌, arith, rules}
use Rattle.accepted_matrix.proofs.MatrixLaws.{once_out, once_end}
use Rattle.accepted_matrix.proofs.ids_apart.Goals as goal

pub returns-then-seat_of-i : goal.returns-then-seat_of-i
returns-then-seat_of-i c =
    once_out _ _ (search rules) (omega arith) c.if-x-ne0.true (λ e. c.if-seat_of-i.true (c.seat_of.ensures ∙ e))

pub returns : goal.returns
returns c = once_end _ _ (search rules) c.loop-i.invariant (omega arith)
