-- `fields::Scope::tests_at` meets its contract: after j turns j tests are read, and stand at the array's start.
-- Assumes nothing.
use native.Mathlib.Omega.{arith}
use mathlib.Core.List.{map-id}
use mathlib.Core.Path.{◌≡◌, sym}
use Rattle.std.proofs.lemmas.Result.{err_from_is_err_and}
use Rattle.model.specs.Arrays.{tests_from}
use Rattle.command_bytes.proofs.ListLaws.{filled_none, filled_on, filled_stop, filled_all}
use Rattle.command_bytes.proofs.fields.Scope.tests_at.Goals as goal

pub loop-j-init : goal.loop-j-init
loop-j-init c = filled_none

pub returns-in_err-list : goal.returns-in_err-list
returns-in_err-list c =
    let p = err_from_is_err_and c.from_residual.result c.from_residual.ensures.1 in
    rw (p.1, p.2) (filled_stop c.loop-j.invariant (omega arith) (omega arith) tests_from (sym c.in_err-list.ensures))

pub loop-j-preserved : goal.loop-j-preserved
loop-j-preserved c = filled_on c.loop-j.invariant (omega arith) (omega arith) (omega arith) (sym c.in_ok-list.ensures)

pub returns : goal.returns
returns c =
    let v = c.loop-j.invariant in
    let d : c.loop-j.j ≡ c.args.k = omega arith in
    rw (filled_all v (omega arith) tests_from, v.held, map-id, v.turns.count, d)
