-- The walk over the seats carries along whether all were accepted.
use Rattle.accepted_matrix.proofs.MatrixLaws.{seat_fine, Seats}
use Rattle.accepted_matrix.proofs.seats_accepted.Given as goal

abbrev pub invariant-loop-i : goal.invariant-loop-i
invariant-loop-i l = Seats (seat_fine l.h l.th) l.fine l.i
