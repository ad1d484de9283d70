-- A scheme is read, and then what the function makes of it.
-- Assumes nothing.
use mathlib.Core.Path.{ap, ◌∙◌}
use Rattle.std.proofs.lemmas.Result.{err_from_is_err_and}
use Rattle.robot.specs.Library.{not_written, wrote, convert_scheme_bytes}
use Rattle.robot.specs.Inner.Calls.{filled}
use Rattle.robot.proofs.CallLaws.{scheme_read, scheme_refused, wrote_is}
use Rattle.convert.specs.Convert.{convert_scheme_into}
use Rattle.robot.proofs.convert_bytes.convert_scheme.Goals as goal

pub returns-in_err-scheme_of : goal.returns-in_err-scheme_of
unfolding convert_scheme_bytes
returns-in_err-scheme_of c =
    let p = err_from_is_err_and c.from_residual.result c.from_residual.ensures.1 in
    rw (p.1, p.2) (ap filled (scheme_refused (not_written _) (λ s n. wrote 1 (convert_scheme_into _ s)) _ c.in_err-scheme_of.ensures))

pub returns : goal.returns
unfolding convert_scheme_bytes
returns c = wrote_is 1 _ c.written.ensures c.convert_scheme.ensures ∙ ap filled (scheme_read (not_written _) (λ s n. wrote 1 (convert_scheme_into _ s)) _ c.in_ok-scheme_of.ensures)
