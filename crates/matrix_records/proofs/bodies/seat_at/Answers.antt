-- `matrix_records::bodies::seat_at` meets its contract: an id of two bytes, not 0, which is found below n and below 48, or isn't known.
-- Assumes nothing.
use native.Mathlib.Omega.{arith}
use borrow.Author.Rules.{rules}
use Rattle.std.proofs.lemmas.Result.{err_from_is_err_and}
use Rattle.faults.specs.Numbers.{fault_of}
use Rattle.matrix_records.proofs.BodyLaws.{seat_lines, seat_unknown, seat_zero, seat_known}
use Rattle.matrix_records.proofs.bodies.seat_at.Goals as goal

pub returns-in_err-id : goal.returns-in_err-id
returns-in_err-id c =
    let p = err_from_is_err_and c.from_residual.result c.from_residual.ensures.1 in
    rw (p.1, p.2, seat_lines _ _ _ _, ← c.in_err-id.ensures)

pub returns-then-id-eq0 : goal.returns-then-id-eq0
unfolding fault_of
returns-then-id-eq0 c = seat_zero c.args.b.now c.args.i c.args.th c.args.n (search rules) _ c.in_ok-id.ensures c.if-id-eq0.true

pub returns-then-n-seat : goal.returns-then-n-seat
unfolding fault_of
returns-then-n-seat c =
    seat_unknown c.args.b.now c.args.i c.args.th c.args.n (search rules) _ c.in_ok-id.ensures
    (rw (← c.seat_in-seat.ensures) (omega (arith, c.then-n-seat.either)))

pub returns : goal.returns
returns c =
    rw c.seat_in-seat.ensures (seat_known c.args.b.now c.args.i c.args.th c.args.n (search rules) _ c.in_ok-id.ensures c.if-id-eq0.false
    (rw (← c.seat_in-seat.ensures) (omega arith)))
