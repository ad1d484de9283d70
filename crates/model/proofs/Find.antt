-- The search for an id among the seats: what it finds, and what a store to one seat leaves of it.
-- Assumes nothing.
use Prim.Native.Nat.{ℕ, zero, suc, ◌<◌}
use mathlib.Core.Path.{◌≡◌, refl, sym}
use mathlib.Core.Logic.{◌≢◌}
use mathlib.Core.Bool.{Bool, true, false, cond, ◌||◌}
use mathlib.Core.Option.{none, some}
use mathlib.Core.List.{List, [], ◌∷◌}
use native.Mathlib.Nat.{not-suc-le-zero, le_of_suc-le-suc}
use native.Mathlib.Omega.{arith}
use lib.Dec.{T, eqb, eqb→eq, eqb_refl}
use lib.ListN.{length, get_or, set}
use Rattle.model.specs.Request.{Thing}
use Rattle.laws.specs.Check.{is_some}
use Rattle.model.specs.Seats.{among, find, known, seat, thing_in, thing_at}
use Rattle.model.specs.declared.Head.{Head}
use Rattle.model.specs.declared.Things.{Things}
use Rattle.laws.proofs.Bools.{is_true, and_right, eqb_not}
use Rattle.model.proofs.Held.{HeldThings}

-- ---- in a list

pub find_lt : (ids : List ℕ) (x : ℕ) → T (among ids x) → find ids x < length ids
unfolding among find
find_lt [] x t = absurd t
find_lt (y ∷ ys) x t = go (eqb y x) (find_lt ys x) t
  where
    go : (b : Bool) → (T (among ys x) → find ys x < length ys) → T (b || among ys x) → cond b zero (suc (find ys x)) < suc (length ys)
    go true later t = omega arith
    go false later t = omega (arith, later t)

pub find_is : (ids : List ℕ) (x : ℕ) → T (among ids x) → get_or ids (find ids x) 0 ≡ x
unfolding among find
find_is [] x t = absurd t
find_is (y ∷ ys) x t = go (eqb y x) (eqb→eq y x) (find_is ys x) t
  where
    go : (b : Bool) → (T b → y ≡ x) → (T (among ys x) → get_or ys (find ys x) 0 ≡ x) → T (b || among ys x) →
        get_or (y ∷ ys) (cond b zero (suc (find ys x))) 0 ≡ x
    go true e later t = e tt
    go false e later t = later t

pub among_get : (ids : List ℕ) (i : ℕ) → i < length ids → T (among ids (get_or ids i 0))
unfolding among
among_get [] i h = absurd (not-suc-le-zero h)
among_get (y ∷ ys) zero h = rw (is_true (eqb y y) (eqb_refl y)) tt
among_get (y ∷ ys) (suc i) h = later (eqb y (get_or ys i 0)) (among_get ys i (le_of_suc-le-suc h))
  where
    later : (a : Bool) → T (among ys (get_or ys i 0)) → T (a || among ys (get_or ys i 0))
    later true t = tt
    later false t = t

-- a store changes nothing for an id that is neither the one stored nor the one that stood there
pub among_other : (ids : List ℕ) (p x a : ℕ) → x ≢ a → get_or ids p 0 ≢ a → among (set ids p x) a ≡ among ids a
unfolding among
among_other [] p x a n o = refl
among_other (y ∷ ys) zero x a n o = rw (eqb_not x a n, eqb_not y a o)
among_other (y ∷ ys) (suc p) x a n o = rw (among_other ys p x a n o)

pub find_other : (ids : List ℕ) (p x a : ℕ) → x ≢ a → get_or ids p 0 ≢ a → find (set ids p x) a ≡ find ids a
unfolding find
find_other [] p x a n o = refl
find_other (y ∷ ys) zero x a n o = rw (eqb_not x a n, eqb_not y a o)
find_other (y ∷ ys) (suc p) x a n o = rw (find_other ys p x a n o)

-- ---- of a thing

module _ (th : Things) (x : ℕ) where
  pub known_nonzero : T (known th x) → x ≢ 0
  unfolding known
  known_nonzero t e = rw e at t

  pub seat_is : T (known th x) → get_or th.ids (seat th x) 0 ≡ x
  unfolding known seat
  seat_is t = find_is th.ids x (search and_right)

  pub is_known : is_some (thing_at th x) ≡ known th x
  unfolding thing_at is_some
  is_known = go (known th x)
    where
      go : (b : Bool) → is_some (cond b (some (thing_in th (seat th x))) none) ≡ b
      go true = refl
      go false = refl

  pub some_known : T (is_some (thing_at th x)) → T (known th x)
  some_known t = rw is_known at t

  pub none_known : thing_at th x ≡ none → T (known th x) → ⊥
  unfolding thing_at
  none_known = go (known th x)
    where
      go : (b : Bool) → cond b (some (thing_in th (seat th x))) none ≡ none → T b → ⊥
      go true e t = let z : ◌≡◌ {A = ℕ} 0 1 = cc in omega arith
      go false e t = t

  pub some_thing : (t : Thing) → thing_at th x ≡ some t → thing_in th (seat th x) ≡ t
  unfolding thing_at
  some_thing t = go (known th x)
    where
      go : (b : Bool) → cond b (some (thing_in th (seat th x))) none ≡ some t → thing_in th (seat th x) ≡ t
      go true e = cc
      go false e = let z : ◌≡◌ {A = ℕ} 0 1 = cc in absurd (omega arith)

pub known_is : (th : Things) (x : ℕ) → x ≢ 0 → T (among th.ids x) → T (known th x)
unfolding known
known_is th x nz t = rw (eqb_not x 0 nz) t

module _ (s : Head) (th : Things) (ok : HeldThings s th) where
  pub seat_lt : (x : ℕ) → T (known th x) → seat th x < 48
  unfolding known seat
  seat_lt x t = rw ok.id_room at (find_lt th.ids x (search and_right))

  -- who sits at i is known, and sits at i
  pub known_at : (i : ℕ) → i < 48 → get_or th.ids i 0 ≢ 0 → T (known th (get_or th.ids i 0))
  known_at i h nz = known_is th _ nz (among_get th.ids i (rw ok.id_room h))

  pub seat_at : (i : ℕ) → i < 48 → get_or th.ids i 0 ≢ 0 → seat th (get_or th.ids i 0) ≡ i
  seat_at i h nz = let t = known_at i h nz in sym (ok.apart i _ h (seat_lt _ t) nz (sym (seat_is th _ t)))
