-- Moving stored matrices: what is promised of both ways, against any accepted scheme; the proof stands in proofs/.
-- Assumes nothing.
use Rattle.std.specs.Prelude.{ℕ, ◌<◌, ◌≡◌, ◌≢◌, List, T, length, get_or}
use Rattle.model.specs.Seats.{Matrix}
use Rattle.model.specs.Accepted.{accepted_scheme, accepted_matrix}
use Rattle.model.specs.declared.Scheme.{Scheme}
use Rattle.records.specs.Reading.{got, fault}
use Rattle.matrix_bytes.specs.Read.{matrix}
use Rattle.matrix_bytes.specs.Write.{matrix_bytes}
use Rattle.moving.specs.Old.{highest_listed, by_listed, old_matrix}
use Rattle.moving.specs.Moves.{old_image, forward, back}

pub record Moving (s : Scheme) : Type 0 where
  -- What forward gives is the one encoding of the matrix that the old image held, and reads as it: the same things, marks and cells, with the highest listed id
  -- as the highest. That matrix is accepted.
  pub reads : (old : List ℕ) (m : Matrix) (end : ℕ) → ((i : ℕ) → get_or old i 0 < 256) → old_matrix s.head old 0 ≡ got m end →
      (forward s.head old 0 ≡ got (matrix_bytes s.head m) end)
      × (matrix s.head (matrix_bytes s.head m) 0 ≡ got m (length (matrix_bytes s.head m)))
      × (m.things.highest ≡ highest_listed m.things)
      × T (accepted_matrix s.head m)
  -- Old to new to old gives the first bytes again.
  pub there_and_back : (old new : List ℕ) (end : ℕ) → ((i : ℕ) → get_or old i 0 < 256) → forward s.head old 0 ≡ got new end →
      back s.head new 0 ≡ got old (length new)
  -- Where the way back is taken, going forward again gives the same image.
  pub back_and_there : (new old : List ℕ) (end : ℕ) → ((i : ℕ) → get_or new i 0 < 256) → back s.head new 0 ≡ got old end →
      forward s.head old 0 ≡ got new (length old)
  -- The way back is taken exactly where the stored highest is what forward would give, and refused by 23 exactly where it isn't: whatever the highest, the old
  -- image would come forward again as the same matrix by its highest listed id.
  pub taken : (new : List ℕ) (m : Matrix) (end : ℕ) → matrix s.head new 0 ≡ got m end → m.things.highest ≡ highest_listed m.things →
      back s.head new 0 ≡ got (old_image new) end
  pub refused : (new : List ℕ) (m : Matrix) (end : ℕ) → matrix s.head new 0 ≡ got m end → m.things.highest ≢ highest_listed m.things →
      back s.head new 0 ≡ fault (record { number = 23; at = 0 })
  pub forward_again : (new : List ℕ) (m : Matrix) (end : ℕ) → ((i : ℕ) → get_or new i 0 < 256) → matrix s.head new 0 ≡ got m end →
      forward s.head (old_image new) 0 ≡ got (matrix_bytes s.head (by_listed m)) (length (old_image new))

-- of every accepted scheme
abbrev pub MovesKeep : Type 0
MovesKeep = (s : Scheme) → T (accepted_scheme s) → Moving s
