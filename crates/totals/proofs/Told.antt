-- No outcome is lost in the result that tells it.
-- Assumes nothing.
use mathlib.Core.Path.{◌≡◌, refl, ap}
use Rattle.faults.proofs.NumberLaws.{numbered}
use Rattle.totals.specs.Outcome.{Outcome, Counted, Refused, as_totals, outcome_of}

pub outcome_back : (o : Outcome) → outcome_of (as_totals o) ≡ o
outcome_back (Counted things cells entries) = refl
outcome_back (Refused k) = ap Refused (numbered k)
