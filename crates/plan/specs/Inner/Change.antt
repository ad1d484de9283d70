-- What one operation makes of a plan that is lent to it, and where a created thing sits.
-- Assumes nothing.
use Rattle.std.specs.Prelude.{ℕ, cond, Option, None, Some, Result}
use Rattle.model.specs.Answers.{verdict_of}
use Rattle.model.specs.Request.{Outcome, answer, after}
use Rattle.model.specs.Seats.{full, seat}
use Rattle.model.specs.declared.Refusal.{Refusal}
use Rattle.model.specs.declared.Things.{Things}
use Rattle.plan.specs.declared.plan.Plan.{Plan}

-- the answer, and the plan afterwards, which is as it was where it is refused
abbrev pub changed : Plan → Outcome Plan → Result (Unit {0}) Refusal × Plan
changed plan o = (verdict_of (answer o), after plan o)

-- the first free seat
unfoldable pub free_seat : Things → Option ℕ
free_seat th = cond (full th) None (Some (seat th 0))
