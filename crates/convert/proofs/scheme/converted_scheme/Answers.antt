-- 27 before the three checks, then the scheme.
use Rattle.std.proofs.Common.{arith}
use Rattle.std.proofs.lemmas.Result.{err_from_is_err_and}
use Rattle.laws.proofs.Bools.{from_true}
use Rattle.convert.proofs.AnswerLaws.{scheme_27, convertible_if, scheme_refused, scheme_done}
use Rattle.convert.proofs.scheme.converted_scheme.Goals as goal

pub returns-then-not-scheme_accepted : goal.returns-then-not-scheme_accepted
returns-then-not-scheme_accepted c = scheme_27 _ (grind arith)

pub returns-in_err-conversion_fault : goal.returns-in_err-conversion_fault
returns-in_err-conversion_fault c =
    let p = err_from_is_err_and c.from_residual.result c.from_residual.ensures.1 in
    rw (p.1, p.2) (scheme_refused _ (grind arith) c.in_err-conversion_fault.ensures)

pub convert_all-requires : goal.convert_all-requires
convert_all-requires c =
    (from_true (grind arith), convertible_if _ c.in_ok-conversion_fault.ensures)

pub returns : goal.returns
returns c =
    scheme_done _ (grind arith) c.in_ok-conversion_fault.ensures _ c.convert_all.ensures
