-- A scheme is read, and then what the function makes of it.
-- Assumes nothing.
use mathlib.Core.Path.{ap, ◌∙◌}
use Rattle.std.proofs.lemmas.Result.{err_from_is_err_and}
use Rattle.robot.specs.Library.{not_written, moved, forward_bytes}
use Rattle.robot.specs.Inner.Calls.{filled}
use Rattle.robot.proofs.CallLaws.{scheme_read, scheme_refused, moved_wrote}
use Rattle.moving.specs.Answers.{forward_into}
use Rattle.robot.proofs.move_bytes.forward.Goals as goal

pub returns-in_err-scheme_of : goal.returns-in_err-scheme_of
unfolding forward_bytes
returns-in_err-scheme_of c =
    let p = err_from_is_err_and c.from_residual.result c.from_residual.ensures.1 in
    rw (p.1, p.2) (ap filled (scheme_refused (not_written _) (λ s n. moved (forward_into _ s _)) _ c.in_err-scheme_of.ensures))

pub returns : goal.returns
unfolding forward_bytes
returns c = moved_wrote _ c.moved.ensures c.forward.ensures ∙ ap filled (scheme_read (not_written _) (λ s n. moved (forward_into _ s _)) _ c.in_ok-scheme_of.ensures)
