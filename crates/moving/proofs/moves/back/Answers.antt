-- `moving::moves::back` meets its contract: 27, the reading of the new image, 23, and what is written of it.
-- Assumes nothing.
use mathlib.Core.Path.{◌≡◌, ap, ◌∙◌}
use Rattle.std.proofs.lemmas.Result.{err_from_is_err_and}
use Rattle.std.specs.Prelude.{Ok}
use Rattle.faults.specs.Numbers.{fault_of}
use Rattle.matrix_bytes.specs.Answers.{matrix_result}
use Rattle.matrix_bytes.specs.Read.{matrix}
use Rattle.moving.specs.Inner.Parts.{things_of}
use Rattle.moving.proofs.MoveLaws.{back_27, back_opened, back_refused, back_lost, back_done}
use Rattle.moving.proofs.OldReads.{started, not_kept, kept}
use Rattle.moving.proofs.moves.back.Goals as goal
use Rattle.moving.proofs.moves.back.Goals.{In_ok-read_matrix_by_head}

were_read : (c : In_ok-read_matrix_by_head) → Ok c.read_matrix_by_head.new.things ≡ things_of (matrix c.args.s.head c.args.new.now 0)
were_read c =
    let opened = back_opened c.args.new.now _ c.args.out.now c.if-not-scheme_accepted.ensures c.no_things-th.result in
    kept _ _ _ _ _ (c.in_ok-read_matrix_by_head.ensures ∙ ap matrix_result opened)

pub returns-then-not-scheme_accepted : goal.returns-then-not-scheme_accepted
unfolding fault_of
returns-then-not-scheme_accepted c = rw c.at_start.ensures (back_27 _ _ _ c.if-not-scheme_accepted.ensures)

pub returns-in_err-read_matrix_by_head : goal.returns-in_err-read_matrix_by_head
returns-in_err-read_matrix_by_head c =
    let p = err_from_is_err_and c.from_residual.result c.from_residual.ensures.1 in
    let ok = c.if-not-scheme_accepted.ensures in
    let opened = back_opened c.args.new.now _ c.args.out.now ok c.no_things-th.result in
    rw (p.1, p.2) (back_refused _ _ _ ok (not_kept _ _ _ _ _ (c.in_err-read_matrix_by_head.ensures ∙ ap matrix_result opened)))

pub returns-then-th-highest_listed : goal.returns-then-th-highest_listed
unfolding fault_of
returns-then-th-highest_listed c =
    rw c.at_start-then-th-highest_listed.ensures
    (back_lost _ _ _ c.if-not-scheme_accepted.ensures (were_read (goal.at.returns-then-th-highest_listed c).In_ok-read_matrix_by_head) c.highest_listed.ensures
    c.if-th-highest_listed.true)

pub returns : goal.returns
returns c =
    rw (started _ c.map_err.ensures.cases)
    (back_done _ _ _ c.if-not-scheme_accepted.ensures (were_read (goal.at.returns c).In_ok-read_matrix_by_head) c.highest_listed.ensures
    c.if-th-highest_listed.false c.write_old.ensures)
