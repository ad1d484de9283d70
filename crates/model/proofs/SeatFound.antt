-- The seat that a search finds says whether an id is among the things, whether it is known and whether there is room.
-- Assumes nothing.
use Prim.Native.Nat.{ℕ, zero, suc, ◌≤◌, ◌<◌}
use mathlib.Core.Path.{◌≡◌, refl, sym, ◌∙◌}
use mathlib.Core.Bool.{Bool, true, false, cond, ◌||◌}
use mathlib.Core.List.{List, [], ◌∷◌}
use native.Mathlib.Omega.{arith}
use lib.Dec.{eqb, ltb, leb-suc-suc}
use lib.ListN.{length}
use borrow.Author.Tests.{lt-ltb, le-ltb, ne_eqb}
use Rattle.model.specs.Seats.{among, find, known, full}
use Rattle.model.specs.declared.Things.{Things}

among_length : (ids : List ℕ) (x : ℕ) → among ids x ≡ ltb (find ids x) (length ids)
unfolding among find
among_length [] x = refl
among_length (y ∷ ys) x = go (eqb y x) (among_length ys x)
  where
    go : (b : Bool) → among ys x ≡ ltb (find ys x) (length ys) → (b || among ys x) ≡ ltb (cond b zero (suc (find ys x))) (suc (length ys))
    go true e = sym (lt-ltb zero (suc (length ys)) (omega arith))
    go false e = e ∙ sym (leb-suc-suc (suc (find ys x)) (length ys))

module _ (th : Things) (room : length th.ids ≡ 48) where
  among_found : (x i : ℕ) → i ≡ find th.ids x → among th.ids x ≡ ltb i 48
  among_found x i e = rw (e, ← room) (among_length th.ids x)

  pub known_found : (x i : ℕ) → (x ≡ 0 → ⊥) → i ≡ find th.ids x → known th x ≡ ltb i 48
  unfolding known
  known_found x i nz e = rw (ne_eqb x 0 nz) (among_found x i e)

  pub full_found : (i : ℕ) → i ≡ find th.ids 0 → 48 ≤ i → full th ≡ true
  unfolding full
  full_found i e h = rw (among_found 0 i e, le-ltb i 48 h)

  pub free_found : (i : ℕ) → i ≡ find th.ids 0 → i < 48 → full th ≡ false
  unfolding full
  free_found i e h = rw (among_found 0 i e, lt-ltb i 48 h)
