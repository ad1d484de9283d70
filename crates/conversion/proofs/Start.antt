-- At the start the robot mirrors the office: on paper too, each cell that exists holds the converted set.
-- Assumes nothing.
use Prim.Native.Nat.{◌≤◌}
use mathlib.Core.Path.{refl}
use lib.Dec.{T}
use Rattle.model.specs.Papers.{cell_exists}
use Rattle.model.specs.Seats.{Matrix, stands_for}
use Rattle.model.specs.Accepted.{accepted_matrix}
use Rattle.model.specs.declared.Head.{Head}
use Rattle.laws.proofs.Bools.{is_true}
use Rattle.model.proofs.HeldLaws.{held}
use Rattle.conversion.specs.Conversion.{convert_state, convert_matrix}
use Rattle.conversion.specs.Demand3.{Mirrors}
use Rattle.conversion.proofs.Mirror.{mirror_converted}
use Rattle.conversion.proofs.Converted.{small, joined}

pub start_mirrors : (h : Head) (m : Matrix) → h.rights ≤ 32 → T (accepted_matrix h m) → Mirrors h (stands_for m) (stands_for (convert_matrix h m))
unfolding convert_state
start_mirrors h m few of =
    rw (joined h m of) (record {
      same_things = refl;
      mirror = λ x y t.
          rw (is_true (cell_exists h (stands_for m) x y) t) (mirror_converted h.rights ((stands_for m).rights x y) few (small h m (held h m of) x y));
    })
