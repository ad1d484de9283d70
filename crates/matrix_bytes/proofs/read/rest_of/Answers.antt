-- `matrix_bytes::read::rest_of` meets its contract: the things, then the cells where these end; both replace what was lent, or nothing does.
-- Assumes nothing.
use mathlib.Core.List.{List}
use mathlib.Core.Path.{◌≡◌, ap, ◌∙◌}
use Rattle.std.proofs.lemmas.Result.{err_from_is_err_and}
use Rattle.records.specs.Reading.{got}
use Rattle.records.proofs.Trip.{Bytes}
use Rattle.matrix_records.specs.Content.{ThingRecord}
use Rattle.matrix_records.proofs.Trips.{head_sized}
use Rattle.matrix_records.proofs.ReadBack.{item_back}
use Rattle.matrix_bytes.specs.Answers.{as_matrix, matrix_result}
use Rattle.matrix_bytes.specs.Content.{things_from}
use Rattle.matrix_bytes.specs.Inner.Parts.{cells_from}
use Rattle.matrix_bytes.specs.Read.{rest}
use Rattle.matrix_bytes.proofs.ReadCells.{finished, finish_refused, finish_done}
use Rattle.matrix_bytes.proofs.ReadMatrix.{rest_no_things, rest_done}
use Rattle.matrix_bytes.proofs.ReadThings.{things_read, things_end}
use Rattle.matrix_bytes.proofs.read.rest_of.Goals as goal
use Rattle.matrix_bytes.proofs.read.rest_of.Goals.{In_ok-th}

bytes : (c : In_ok-th) → Bytes c.args.s.now
bytes c = λ i. (c.type_inv.s i).fits

things_are : (c : In_ok-th) → let a = c.args in
    (ts : List ThingRecord) × (things_read a.s.now a.h.head a.highest a.count a.at ≡ got ts c.in_ok-th.start) × (c.in_ok-th.th ≡ things_from a.highest ts)
things_are c = let a = c.args in item_back (things_from a.highest) (things_read a.s.now a.h.head a.highest a.count a.at) c.in_ok-th.ensures

-- the cells decide, behind things that were read
cells_decide : (c : In_ok-th) → let a = c.args in
    finished a.count c.in_ok-th.th a.things.now a.cells.now (cells_from a.s.now a.h.head c.in_ok-th.th a.count c.in_ok-th.start)
    ≡ as_matrix a.things.now a.cells.now (rest a.h.head a.highest a.count a.s.now a.at)
cells_decide c =
    let (few, near, room) = c.requires in
    let (ts, g, t) = things_are c in
    rest_done _ _ _ _ _ _ _ ts _ g c.args.h.passes (bytes c) few near _ t

pub returns-in_err-th : goal.returns-in_err-th
returns-in_err-th c =
    let p = err_from_is_err_and c.from_residual.result c.from_residual.ensures.1 in
    rw (p.1, p.2) (rest_no_things _ _ _ _ _ _ _ c.in_err-th.ensures)

pub read_cells-requires : goal.read_cells-requires
read_cells-requires c =
    let a = c.args in
    let (few, near, room) = c.requires in
    let at = (goal.at.read_cells-requires c).In_ok-th in
    let (ts, g, t) = things_are at in
    (things_end a.s.now _ (head_sized _ a.h.passes) (bytes at) a.highest a.count _ near ts _ g).2

pub returns-in_err-next : goal.returns-in_err-next
returns-in_err-next c =
    let p = err_from_is_err_and c.from_residual-in_err-next.result c.from_residual-in_err-next.ensures.1 in
    rw (p.1, p.2) (finish_refused _ _ _ _ _ _ c.in_err-next.ensures ∙ ap matrix_result (cells_decide (goal.at.returns-in_err-next c).In_ok-th))

pub returns : goal.returns
returns c =
    rw c.copy_from_slice.ensures.after (finish_done _ _ c.args.things.now c.args.cells.now _ _ c.in_ok-next.ensures
    ∙ ap matrix_result (cells_decide (goal.at.returns c).In_ok-th))
