-- The answer of one place, and what a turn of the walk over the places decides: over plain lists and numbers, so that a function's proof names few places
-- of its context. Assumes nothing.
use Prim.Native.Nat.{ℕ, ◌+◌, min, ◌≤◌, ◌<◌}
use mathlib.Core.Path.{◌≡◌, refl, ap, ◌∙◌}
use mathlib.Core.Bool.{Bool, true, false, cond, ◌||◌}
use mathlib.Core.Option.{Option, none, some}
use mathlib.Core.List.{List, [], ◌∷◌}
use native.Mathlib.Numerals.{add-one}
use native.Mathlib.Omega.{arith}
use lib.Dec.{ltb}
use lib.ListN.{length, get_or, take, drop, set, length-drop}
use lib.Seq.{sets, drop-cons}
use mir.Syntax.{w16}
use mir.Val.{Fits}
use borrow.Author.Tests.{lt-ltb, le-ltb, le-leb}
use Rattle.rights.specs.Numberings.{parameter, same_type}
use Rattle.rights.specs.declared.ThingType.{ThingType}
use Rattle.laws.specs.Check.{◌or_else◌, must, any}
use Rattle.laws.proofs.Walks.{take_least}
use Rattle.rights.specs.declared.Parameter.{Parameter}
use Rattle.model.specs.declared.Operations.{Operations}
use Rattle.model.specs.Scheme.{operations_of, creates, is_new, no_type}
use Rattle.model.specs.Request.{at, is_id, type_fault, place_fault, places_fault}
use Rattle.model.specs.Seats.{seats, find, seat, thing_in, thing_at}
use Rattle.model.specs.declared.Operation.{Operation}
use Rattle.model.specs.declared.Refusal.{Refusal}
use Rattle.model.specs.declared.Things.{Things}
use Rattle.model.proofs.SeatFound.{known_found}
use Rattle.std.specs.List.{list_any}
use Rattle.std.specs.Prelude.{Result, Ok, Err}
use Rattle.plan.specs.Locate.{bare, seat_of, seats_from, unless}
use Rattle.plan.specs.Inner.Spot.{spot_of}

-- the library's test of a list is the outline's
any_is_lem : {A : Type 0} (f : A → Bool) (l : List A) → list_any f l ≡ any f l
unfolding any
any_is_lem f [] = refl
any_is_lem f (x ∷ xs) = ap (λ b. f x || b) (any_is_lem f xs)

-- a create of the parameter among the operations in use
pub is_new_lem : (o : Operations) (p : Parameter) → length o.list ≡ 32 → list_any (creates p) (take (min o.count 32) o.list) ≡ is_new (operations_of o) p
unfolding is_new
is_new_lem o p room = any_is_lem _ _ ∙ ap (any (creates p)) (take_least o.list 32 o.count room)

-- ---- one place

-- what a thing at its seat is told, where one of the type t is asked for
module _ (seat : ℕ) (of : ThingType) (mark : Bool) (t : ThingType) (b : Bool) (is : b ≡ same_type of t) where
  abbrev its_spot : Result ℕ Refusal
  its_spot = unless seat (type_fault t (some (record { type = of; on_hold = mark })))

  pub spot_wrong : b ≡ false → Err (at 13 0) ≡ its_spot
  unfolding type_fault must ◌or_else◌
  spot_wrong e = rw (← is, e)

  pub spot_held : b ≡ true → mark ≡ true → Err (at 18 0) ≡ its_spot
  unfolding type_fault must ◌or_else◌
  spot_held e on = rw (← is, e, on)

  pub spot_fits : b ≡ true → mark ≡ false → Ok seat ≡ its_spot
  unfolding type_fault must ◌or_else◌
  spot_fits e off = rw (← is, e, off)

module _ (th : Things) (new : Bool) (t : ThingType) (x : ℕ) where
  pub spot_0 : x ≡ 0 → Err (at 12 0) ≡ spot_of th new t x
  unfolding spot_of place_fault is_id must ◌or_else◌
  spot_0 e = rw e

  module _ (nz : x ≡ 0 → ⊥) (small : Fits w16 x) where
    -- an id is at most 65535 because it is a u16
    is_id_lem : is_id x ≡ true
    unfolding is_id
    is_id_lem = rw (le-leb 1 x (omega arith), le-leb x 65535 (omega arith))

    pub spot_new : new ≡ true → Ok 0 ≡ spot_of th new t x
    unfolding spot_of place_fault must ◌or_else◌
    spot_new e = rw (e, is_id_lem)

    module _ (old : new ≡ false) (room : length th.ids ≡ 48) (i : ℕ) (found : i ≡ find th.ids x) where
      spot_old : (b : Bool) → ltb i 48 ≡ b → unless i (type_fault t (cond b (some (thing_in th i)) none)) ≡ spot_of th new t x
      unfolding spot_of place_fault must ◌or_else◌ seats thing_at seat
      spot_old b e = rw (old, is_id_lem, known_found th room x i nz found, e, found)

      pub spot_unknown : 48 ≤ i → Err (at 12 0) ≡ spot_of th new t x
      unfolding type_fault
      spot_unknown h = spot_old false (le-ltb i 48 h)

      pub spot_there : i < 48 → unless i (type_fault t (some (record { type = get_or th.types i no_type; on_hold = get_or th.marks i false }))) ≡ spot_of th new t x
      unfolding thing_in
      spot_there h = spot_old true (lt-ltb i 48 h)

-- ---- all places

-- what is left at place i gives, on the spots so far
abbrev pub located_from : Things → List Operation → List ℕ → List ℕ → ℕ → List ThingType → Result (List ℕ) Refusal
located_from th os ids spots i ts =
    unless (sets spots i (seats_from th os i ts (drop i ids))) (places_fault seats (bare th) os i ts (drop i ids))

-- what a spot tells of its place
spot_done : (seat : ℕ) (f : Option Refusal) (found : ℕ) → Ok found ≡ unless seat f → (f ≡ none) × (seat ≡ found)
spot_done seat none found e = (refl, cc)
spot_done seat (some r) found e = cc

spot_stop : (seat : ℕ) (f : Option Refusal) (r : Refusal) → Err r ≡ unless seat f → f ≡ some r
spot_stop seat none r e = cc
spot_stop seat (some s) r e = cc

module _ (th : Things) (os : List Operation) (ids spots : List ℕ) (i : ℕ) where
  module _ (h : i < length ids) (t : ThingType) where
    abbrev its_seat : ℕ
    its_seat = seat_of th (is_new os (parameter i)) (get_or ids i 0)

    abbrev its_fault : Option Refusal
    its_fault = place_fault seats (bare th) (is_new os (parameter i)) t (get_or ids i 0)

    pub located_on : (found : ℕ) → Ok found ≡ spot_of th (is_new os (parameter i)) t (get_or ids i 0) → (ts : List ThingType) →
        located_from th os ids (set spots i found) (i + 1) ts ≡ located_from th os ids spots i (t ∷ ts)
    unfolding spot_of seats_from places_fault ◌or_else◌
    located_on found is ts =
        let (fits, seat) = spot_done its_seat its_fault found is in
        rw (drop-cons ids i 0 h, fits, ← seat, add-one i)

    pub located_stop : (r : Refusal) → Err r ≡ spot_of th (is_new os (parameter i)) t (get_or ids i 0) → (ts : List ThingType) →
        Err r ≡ located_from th os ids spots i (t ∷ ts)
    unfolding spot_of seats_from places_fault ◌or_else◌
    located_stop r is ts = rw (drop-cons ids i 0 h, spot_stop its_seat its_fault r is)

  none_left : (ts : List ThingType) (xs : List ℕ) → min (length ts) (length xs) ≡ 0 →
      Ok spots ≡ unless (sets spots i (seats_from th os i ts xs)) (places_fault seats (bare th) os i ts xs)
  unfolding seats_from places_fault
  none_left [] xs e = refl
  none_left (t ∷ ts) [] e = refl
  none_left (t ∷ ts) (x ∷ xs) e = absurd (omega arith)

  pub located_end : (ts : List ThingType) → min (length ts) (length ids) ≤ i → Ok spots ≡ located_from th os ids spots i (drop i ts)
  located_end ts h = none_left (drop i ts) (drop i ids) (simp length-drop (omega arith))
