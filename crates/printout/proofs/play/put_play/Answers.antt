-- `play::put_play` meets its contract: the text of the scheme and the matrix that were read, or the refusal of what wasn't.
-- Assumes nothing.
use mathlib.Core.Path.{refl, ap, ◌∙◌}
use Rattle.std.proofs.lemmas.Result.{err_from_is_err_and}
use Rattle.lines.specs.Put.{put_text}
use Rattle.printout.proofs.PlayLaws.{scheme_bad, matrix_bad, accepted, matrix_good, few_input, low_input}
use Rattle.printout.proofs.play.put_play.Goals as goal

pub returns-in_err-read_scheme : goal.returns-in_err-read_scheme
returns-in_err-read_scheme c =
    let p = err_from_is_err_and c.from_residual.result c.from_residual.ensures.1 in
    rw (p.1, p.2)
    (ap (put_text _ _) (scheme_bad _ _ _ _ c.input.ensures _ c.no_scheme-s.ensures _ c.in_err-read_scheme.ensures _ refl))

pub returns-in_err-read_matrix : goal.returns-in_err-read_matrix
returns-in_err-read_matrix c =
    let p = err_from_is_err_and c.from_residual-in_err-read_matrix.result c.from_residual-in_err-read_matrix.ensures.1 in
    rw (p.1, p.2)
    (ap (put_text _ _)
    (matrix_bad _ _ _ _ c.input.ensures _ c.no_scheme-s.ensures _ c.in_ok-read_scheme.ensures _ refl _ c.input-2.ensures _ c.no_things-th.ensures _
    c.in_err-read_matrix.ensures _ refl))

pub put_run-requires : goal.put_run-requires
put_run-requires c =
    let (ok, of) =
    accepted _ _ c.args.requests.now _ c.input.ensures _ c.no_scheme-s.ensures _ c.in_ok-read_scheme.ensures _ refl _ c.input-2.ensures _ c.no_things-th.ensures _
    c.in_ok-read_matrix.ensures _ refl
    (low_input _ _ c.input-2.ensures (λ j. (c.type_inv.matrix j).fits)) in
    (ok, of, few_input _ _ c.input-3.ensures)

pub returns : goal.returns
returns c =
    c.put_run.ensures
    ∙ ap (put_text _ _)
    (matrix_good _ _ _ _ c.input.ensures _ c.no_scheme-s.ensures _ c.in_ok-read_scheme.ensures _ refl _ c.input-2.ensures _ c.no_things-th.ensures _
    c.in_ok-read_matrix.ensures _ refl _ c.input-3.ensures)
