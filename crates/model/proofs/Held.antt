-- What an accepted matrix is, place by place: the facts behind the computed test, as the proofs use them.
-- Assumes nothing.
use Prim.Native.Nat.{ℕ, ◌+◌, ◌*◌, ◌^◌, ◌≤◌, ◌<◌}
use mathlib.Core.Path.{◌≡◌}
use mathlib.Core.Logic.{◌≢◌}
use mathlib.Core.Bool.{not}
use mathlib.Core.List.{List}
use lib.Dec.{T}
use lib.ListN.{length, get_or}
use Rattle.model.specs.Seats.{Matrix, thing_in}
use Rattle.model.specs.Accepted.{accepted_seat, standing}
use Rattle.model.specs.declared.Head.{Head}
use Rattle.model.specs.declared.Things.{Things}

pub record HeldThings (s : Head) (th : Things) : Type 0 where
  pub id_room : length th.ids ≡ 48
  pub type_room : length th.types ≡ 48
  pub mark_room : length th.marks ≡ 48
  pub apart : (i j : ℕ) → i < 48 → j < 48 → get_or th.ids i 0 ≢ 0 → get_or th.ids i 0 ≡ get_or th.ids j 0 → i ≡ j
  pub reach : th.highest ≤ 65535
  -- what the test of one seat says is read off by the laws of `HeldLaws`; a new rule for seats needs no field here
  pub seat : (i : ℕ) → i < 48 → T (accepted_seat s th (get_or th.ids i 0) (thing_in th i))

pub record HeldCells (s : Head) (th : Things) (cells : List ℕ) : Type 0 where
  pub room : length cells ≡ 2304
  pub small : (k : ℕ) → get_or cells k 0 < 2 ^ s.rights
  pub bare : (i j : ℕ) → j < 48 → T (not (standing s th i j)) → get_or cells (i * 48 + j) 0 ≡ 0

pub record Held (s : Head) (m : Matrix) : Type 0 where
  pub things : HeldThings s m.things
  pub cells : HeldCells s m.things m.cells
