-- What one request on lent cells gives: 27 before all other checks, then the model's step.
-- Assumes nothing.
use Rattle.std.specs.Prelude.{ℕ, cond, ◌&&◌, List}
use Rattle.model.specs.Request.{Request, Outcome, refused, at, answer, after, step}
use Rattle.model.specs.Answers.{reply_to}
use Rattle.model.specs.Seats.{Matrix, seats}
use Rattle.model.specs.Accepted.{accepted_scheme, accepted_matrix}
use Rattle.model.specs.declared.Scheme.{Scheme}
use Rattle.engine.specs.Answers.{Stepped}

-- the reply with the things, and what the cells then hold; where it is refused, both as they were
abbrev pub answered : Scheme → Matrix → Request → Outcome Matrix → Stepped × List ℕ
answered s m q o = (record { answer = reply_to s q (answer o); things = (after m o).things }, (after m o).cells)

unfoldable pub request_on : Scheme → Matrix → ℕ → List ℕ → Stepped × List ℕ
request_on s m command ids =
    let q : Request = record { command = command; ids = ids } in
    cond (accepted_scheme s && accepted_matrix s.head m) (answered s m q (step seats s m q)) (answered s m q (refused (at 27 0)))
