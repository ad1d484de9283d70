-- `request_bytes::read::ids_at` meets its contract: after j turns j ids are read, and stand at the array's start.
-- Assumes nothing.
use Prim.Native.Nat.{◌+◌, ◌*◌}
use native.Mathlib.Omega.{arith}
use native.Mathlib.Nat.{add-zero}
use mathlib.Core.List.{map-id}
use mathlib.Core.Path.{refl, sym}
use Rattle.std.proofs.lemmas.Result.{err_from_is_err_and}
use Rattle.records.proofs.FieldLaws.{number_value, fault_back}
use Rattle.records.proofs.Loop.{looped_none, looped_on, looped_stop, looped_all, fill_next}
use Rattle.request_bytes.proofs.read.ids_at.Goals as goal

pub loop-j-init : goal.loop-j-init
loop-j-init c = (omega arith, rw add-zero looped_none, refl)

pub returns-in_err-id : goal.returns-in_err-id
returns-in_err-id c =
    let p = err_from_is_err_and c.from_residual.result c.from_residual.ensures.1 in
    let (k, e, f) = fault_back _ (sym c.in_err-id.ensures) in
    rw (p.1, p.2, f, looped_stop c.loop-j.invariant.1 c.loop-j-test.true e)

pub loop-j-preserved : goal.loop-j-preserved
loop-j-preserved c =
    let l = c.loop-j in
    let a = c.args in
    let (m, v, e) = l.invariant in
    let f = number_value a.b.now (a.i + 2 * l.j) (a.i + 2 * (l.j + 1)) _ 2 (omega arith) (sym c.in_ok-id.ensures) in
    (omega arith, looped_on v c.loop-j-test.true f, fill_next (λ x. x) 0 8 v.items _ _ e v.count (omega arith))

pub returns : goal.returns
returns c =
    let (m, v, e) = c.loop-j.invariant in
    rw (looped_all v c.loop-j-test.false, e, map-id, v.count)
