-- The three numbers at the end of a printout: things, cells that aren't empty, entries (rights counted over all cells).
-- Assumes nothing.
use Rattle.std.specs.Prelude.{ℕ, zero, suc, ◌+◌, cond, ◌&&◌, List, [], ◌∷◌, eqb}
use Rattle.rights.specs.Sets.{count_rights}
use Rattle.model.specs.Papers.{State, how_many}
use Rattle.model.specs.Seats.{Matrix}
use Rattle.model.specs.Accepted.{accepted_scheme, accepted_matrix}
use Rattle.model.specs.declared.Scheme.{Scheme}
use Rattle.records.specs.Told.{Told, told}
use Rattle.totals.specs.Outcome.{Outcome, Counted, Refused}

-- ---- on paper: over all ids

unfoldable pub sum_ids : ℕ → (ℕ → ℕ) → ℕ
sum_ids zero f = 0
sum_ids (suc k) f = sum_ids k f + f (suc k)

unfoldable pub over_cells : (ℕ → ℕ) → State → ℕ
over_cells f m = sum_ids 65535 (λ x. sum_ids 65535 (λ y. f (m.rights x y)))

-- 1 for a cell that isn't empty
unfoldable pub filled : ℕ → ℕ
filled set = cond (eqb set 0) 0 1

unfoldable pub paper_totals : State → Outcome
paper_totals m = Counted (how_many m.things) (over_cells filled m) (over_cells count_rights m)

-- ---- in memory: over the seats, and over the list of cells

unfoldable pub sum_of : (ℕ → ℕ) → List ℕ → ℕ
sum_of f [] = 0
sum_of f (x ∷ xs) = f x + sum_of f xs

unfoldable pub memory_totals : Matrix → Outcome
memory_totals m = Counted (sum_of filled m.things.ids) (sum_of filled m.cells) (sum_of count_rights m.cells)

-- 27 before all
unfoldable pub totals_of : Scheme → Matrix → Outcome
totals_of s m = cond (accepted_scheme s && accepted_matrix s.head m) (memory_totals m) (Refused 27)

-- what that tells: the three numbers; or the number of the refusal
abbrev pub of_totals : Outcome → Told
of_totals (Counted things cells entries) = told 0 (things ∷ cells ∷ entries ∷ [])
of_totals (Refused k) = told k []
