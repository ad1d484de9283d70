-- `request_bytes::write::put_request` meets its contract: a front, two bytes and the ids stored one behind the other are a request's bytes.
-- Assumes nothing.
use mathlib.Core.Path.{◌∙◌}
use Rattle.request_bytes.proofs.Laws.{request_stored}
use Rattle.request_bytes.proofs.write.put_request.Goals as goal

pub returns : goal.returns
returns c =
    let front = c.put_front.ensures in
    c.put_ids.ensures ∙ rw (c.put1-2.ensures, c.put1.ensures, front) (request_stored _ _ _)
