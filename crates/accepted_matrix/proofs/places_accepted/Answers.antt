-- The walk over the places carries along whether all were accepted.
use Rattle.std.proofs.Common.{arith}
use Rattle.accepted_matrix.proofs.MatrixLaws.{places_start, place_empty, place_full, places_end}
use Rattle.accepted_matrix.proofs.places_accepted.Goals as goal
use Rattle.accepted_matrix.proofs.places_accepted.Goals.{else-c-ne0, then-c-ne0}

pub loop-k-init : goal.loop-k-init
loop-k-init c = places_start _ _ _ c.requires

pub loop-k-preserved : goal.loop-k-preserved
loop-k-preserved c =
    let l = c.loop-k in
    (elim c.if-c-ne0.branch [ then-c-ne0 w ↦ place_full l.invariant (omega arith) _ _ _ w.if-c-ne0.true w.is_standing.ensures w.within.ensures w.fine-is | else-c-ne0 w ↦ place_empty l.invariant (omega arith) _ w.if-c-ne0.false w.fine-is ])

pub returns : goal.returns
returns c = places_end c.loop-k.invariant (omega arith)
