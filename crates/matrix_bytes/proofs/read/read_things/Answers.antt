-- `matrix_bytes::read::read_things` meets its contract: after j turns j things are read, and sit at the first seats.
-- Assumes nothing.
use Rattle.std.proofs.lemmas.Result.{err_from_is_err_and}
use Rattle.records.proofs.Loop.{looped_none, looped_all}
use Rattle.matrix_bytes.proofs.ReadThings.{things_none, things_stopped, things_turned}
use Rattle.matrix_bytes.proofs.read.read_things.Goals as goal

pub loop-j-init : goal.loop-j-init
loop-j-init c = (looped_none, things_none _ _ c.no_things-th.ensures)

pub returns-in_err-found : goal.returns-in_err-found
returns-in_err-found c =
    let p = err_from_is_err_and c.from_residual.result c.from_residual.ensures.1 in
    rw (p.1, p.2) (things_stopped _ _ _ c.args.h.passes c.loop-j.invariant.0 c.loop-j-test.true c.in_err-found.ensures)

pub loop-j-preserved : goal.loop-j-preserved
loop-j-preserved c = things_turned _ _ _ c.args.h.passes c.loop-j.invariant.0 c.loop-j-test.true c.in_ok-found.ensures _ _ c.loop-j.invariant.1 c.put_thing-th.ensures

pub returns : goal.returns
returns c = let (v, et) = c.loop-j.invariant in rw (et, looped_all v c.loop-j-test.false)
