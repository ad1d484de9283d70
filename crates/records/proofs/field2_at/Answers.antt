-- `records::field2_at` meets its contract: where there aren't two bytes, the body has ended.
-- Assumes nothing.
use Rattle.std.proofs.lemmas.Result.{err_from_is_err_and}
use Rattle.records.proofs.FieldLaws.{two_short}
use Rattle.records.proofs.field2_at.Goals as goal

pub returns-in_err-bytes : goal.returns-in_err-bytes
returns-in_err-bytes c =
    let p = err_from_is_err_and c.from_residual.result c.from_residual.ensures.1 in
    rw (p.1, p.2) (two_short _ _ c.bytes_at.ensures c.in_err-bytes.ensures.value)
