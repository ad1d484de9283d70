-- What is promised of the totals; the proof stands in proofs/.
-- Assumes nothing.
use Rattle.std.specs.Prelude.{◌≡◌, T}
use Rattle.model.specs.Seats.{Matrix, stands_for}
use Rattle.model.specs.Accepted.{accepted_scheme, accepted_matrix}
use Rattle.model.specs.declared.Scheme.{Scheme}
use Rattle.totals.specs.Totals.{paper_totals, totals_of}

-- What is counted is what the papers' matrix has: its things, its cells that aren't empty, its entries.
abbrev pub TrueTotals : Type 0
TrueTotals = (s : Scheme) (m : Matrix) → T (accepted_scheme s) → T (accepted_matrix s.head m) → totals_of s m ≡ paper_totals (stands_for m)
