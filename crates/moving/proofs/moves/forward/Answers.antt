-- `moving::moves::forward` meets its contract: 27, the reading of the old image, and what is written of it.
-- Assumes nothing.
use mathlib.Core.Path.{sym}
use Rattle.std.proofs.lemmas.Result.{err_from_is_err_and}
use Rattle.faults.specs.Numbers.{fault_of}
use Rattle.laws.proofs.Bools.{from_true}
use Rattle.matrix_bytes.proofs.RoundTrips.{head_passes}
use Rattle.moving.proofs.MoveLaws.{forward_27, forward_refused, forward_long, forward_done}
use Rattle.moving.proofs.OldReads.{started}
use Rattle.moving.proofs.moves.forward.Goals as goal

pub returns-then-not-scheme_accepted : goal.returns-then-not-scheme_accepted
unfolding fault_of
returns-then-not-scheme_accepted c = rw c.at_start.ensures (forward_27 _ _ _ c.if-not-scheme_accepted.ensures)

pub read_old-requires : goal.read_old-requires
read_old-requires c = head_passes _ (from_true (sym c.if-not-scheme_accepted.ensures))

pub returns-in_err-th : goal.returns-in_err-th
returns-in_err-th c =
    let p = err_from_is_err_and c.from_residual.result c.from_residual.ensures.1 in
    rw (p.1, p.2) (forward_refused _ _ _ c.if-not-scheme_accepted.ensures c.in_err-th.ensures)

pub write_new-requires : goal.write_new-requires
write_new-requires c = forward_long _ _ c.args.out.now c.if-not-scheme_accepted.ensures c.in_ok-th.ensures (λ i. (c.type_inv.old i).fits)

pub returns : goal.returns
returns c = rw (started _ c.map_err.ensures.cases) (forward_done _ _ _ c.if-not-scheme_accepted.ensures c.in_ok-th.ensures c.highest_listed.ensures c.write_new.ensures)
