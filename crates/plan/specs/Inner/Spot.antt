-- The answer of one place.
-- Assumes nothing.
use Rattle.std.specs.Prelude.{ℕ, Bool, Result}
use Rattle.rights.specs.declared.ThingType.{ThingType}
use Rattle.model.specs.Request.{place_fault}
use Rattle.model.specs.Seats.{seats}
use Rattle.model.specs.declared.Refusal.{Refusal}
use Rattle.model.specs.declared.Things.{Things}
use Rattle.plan.specs.Locate.{bare, seat_of, unless}

unfoldable pub spot_of : Things → Bool → ThingType → ℕ → Result ℕ Refusal
spot_of th new t x = unless (seat_of th new x) (place_fault seats (bare th) new t x)
