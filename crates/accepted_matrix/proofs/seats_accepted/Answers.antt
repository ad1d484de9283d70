-- The walk over the seats carries along whether all were accepted.
use Rattle.std.proofs.Common.{arith}
use Rattle.model.specs.Seats.{thing_in}
use Rattle.model.specs.Accepted.{zero_thing, accepted_seat}
use Rattle.accepted_matrix.proofs.MatrixLaws.{seats_on, seats_end}
use Rattle.accepted_matrix.proofs.seats_accepted.Goals as goal

pub loop-i-preserved : goal.loop-i-preserved
unfolding accepted_seat zero_thing thing_in
loop-i-preserved c = seats_on _ c.loop-i.invariant _ (omega arith) c.seat_accepted-fine.ensures

pub returns : goal.returns
returns c = seats_end _ c.loop-i.invariant (omega arith)
