-- The converted scheme is accepted, so nothing but room can refuse its writing.
use Rattle.std.proofs.lemmas.Result.{err_from_is_err_and}
use Rattle.conversion.proofs.Converted.{converts}
use Rattle.convert.proofs.AnswerLaws.{bytes_refused, bytes_done}
use Rattle.convert.proofs.bytes.convert_scheme.Goals as goal

pub returns-in_err-converted_scheme : goal.returns-in_err-converted_scheme
returns-in_err-converted_scheme c =
    let p = err_from_is_err_and c.from_residual.result c.from_residual.ensures.1 in
    rw (p.1, p.2) (bytes_refused _ _ c.converted_scheme.ensures c.in_err-converted_scheme.was)

pub returns : goal.returns
returns c = bytes_done _ _ c.converted_scheme.ensures converts c.in_ok-converted_scheme.was _ c.write_scheme.ensures
