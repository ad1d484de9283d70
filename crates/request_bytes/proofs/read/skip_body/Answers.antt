-- `request_bytes::read::skip_body` meets its contract: the number of ids and the body's length decide.
-- Assumes nothing.
use mathlib.Core.Path.{sym}
use Rattle.faults.specs.Numbers.{fault_of}
use Rattle.std.proofs.lemmas.Result.{err_from_is_err_and}
use Rattle.request_bytes.proofs.Skip.{skip_fault, skip_off, skip_on}
use Rattle.request_bytes.proofs.read.skip_body.Goals as goal

pub returns-in_err-count : goal.returns-in_err-count
returns-in_err-count c =
    let p = err_from_is_err_and c.from_residual.result c.from_residual.ensures.1 in
    rw (p.1, p.2) (skip_fault _ (sym c.in_err-count.ensures))

pub returns-then-b-count : goal.returns-then-b-count
unfolding fault_of
returns-then-b-count c = skip_off _ _ (sym c.in_ok-count.ensures) c.if-b-count.true

pub returns : goal.returns
returns c = skip_on _ _ (sym c.in_ok-count.ensures) c.if-b-count.false
