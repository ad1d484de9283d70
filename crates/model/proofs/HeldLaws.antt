-- The computed test of a matrix and the facts of `Held` say the same, so that a proof may use whichever serves.
-- Each walk of the test is read place by place, also past the lists' ends, where everything is 0. Assumes nothing.
use Prim.Native.Nat.{ℕ, zero, suc, ◌+◌, ◌*◌, ◌/◌, ◌%◌, ◌^◌, ◌≤◌, ◌<◌, zero-le}
use mathlib.Core.Path.{◌≡◌, refl, sym, ap, ◌∙◌}
use mathlib.Core.Logic.{◌≢◌}
use mathlib.Core.Bool.{Bool, true, false, not, cond, ◌&&◌, ◌||◌}
use mathlib.Core.List.{List, [], ◌∷◌}
use native.Mathlib.Nat.{add-zero, add-suc, suc-add, zero-add, not-suc-le-zero, le_of_suc-le-suc}
use native.Mathlib.Decide.{dec_lt}
use native.Mathlib.Omega.{arith}
use lib.Dec.{T, eqb, leb, ltb, eqb→eq, leb→le, le→leb, ltb→lt, lt→ltb, not_T}
use lib.ListN.{length, get_or}
use lib.Pow.{pow_pos}
use borrow.Author.Tests.{eq-eqb, eqb-true, eqb-false}
use Rattle.model.specs.Request.{Thing}
use Rattle.model.specs.Seats.{Matrix, among, find, thing_in}
use Rattle.model.specs.Accepted.{apart, zero_thing, accepted_seat, all_from, accepted_things, standing, accepted_places, accepted_matrix}
use Rattle.model.specs.declared.Head.{Head}
use Rattle.model.specs.declared.Things.{Things}
use Rattle.laws.proofs.Bools.{from_true, and_left, and_right, and_both, not_both, eqb_not}
use Rattle.model.proofs.Held.{HeldThings, Held}
use Rattle.model.proofs.Find.{find_lt, find_is, among_get}

equal : (a b : ℕ) → a ≡ b → T (eqb a b)
equal a b e = from_true (eq-eqb a b e)

get_d_beyond : (l : List ℕ) (i d : ℕ) → length l ≤ i → get_or l i d ≡ d
get_d_beyond [] i d h = refl
get_d_beyond (x ∷ xs) zero d h = absurd (omega arith)
get_d_beyond (x ∷ xs) (suc i) d h = get_d_beyond xs i d (omega arith)

-- ---- no two things have one id

among_at : (xs : List ℕ) (x : ℕ) → T (among xs x) → (j : ℕ) × (j < length xs) × (get_or xs j 0 ≡ x)
among_at xs x t = (find xs x, find_lt xs x t, find_is xs x t)

-- what the test says of the first id
pub first_apart : (x : ℕ) (xs : List ℕ) → T (apart (x ∷ xs)) → x ≢ 0 → T (among xs x) → ⊥
unfolding apart
first_apart x xs t nz u = not_both (among xs x) u (rw (eqb_not x 0 nz) at (and_left (eqb x 0 || not (among xs x)) (apart xs) t))

apart_at : (xs : List ℕ) → T (apart xs) → (i j : ℕ) → i < length xs → j < length xs → get_or xs i 0 ≢ 0 → get_or xs i 0 ≡ get_or xs j 0 → i ≡ j
unfolding apart
apart_at [] t i j hi hj nz e = absurd (not-suc-le-zero hi)
apart_at (x ∷ xs) t zero zero hi hj nz e = refl
apart_at (x ∷ xs) t zero (suc j) hi hj nz e = absurd (first_apart x xs t nz (rw e (among_get xs j (le_of_suc-le-suc hj))))
apart_at (x ∷ xs) t (suc i) zero hi hj nz e =
    absurd (first_apart x xs t (λ z. nz (e ∙ z)) (rw (← e) (among_get xs i (le_of_suc-le-suc hi))))
apart_at (x ∷ xs) t (suc i) (suc j) hi hj nz e =
    ap suc (apart_at xs (and_right (eqb x 0 || not (among xs x)) (apart xs) t) i j (le_of_suc-le-suc hi) (le_of_suc-le-suc hj) nz e)

apart_all : (xs : List ℕ) → ((i j : ℕ) → i < length xs → j < length xs → get_or xs i 0 ≢ 0 → get_or xs i 0 ≡ get_or xs j 0 → i ≡ j) → T (apart xs)
unfolding apart
apart_all [] h = tt
apart_all (x ∷ xs) h =
    and_both (eqb x 0 || not (among xs x)) (apart xs) (go (eqb x 0) refl)
    (apart_all xs (λ i j hi hj nz e. let s : suc i ≡ suc j = h (suc i) (suc j) (omega arith) (omega arith) nz e in omega arith))
  where
    go : (b : Bool) → eqb x 0 ≡ b → T (b || not (among xs x))
    go true e = tt
    go false e = not_T (among xs x) (λ t.
        let r = among_at xs x t in
        let z : zero ≡ suc r.0 = h zero (suc r.0) (omega arith) (omega arith) (eqb-false x 0 e) (sym r.2) in
        omega arith)

-- ---- seats

pub from_at : (f : ℕ → Bool) (i k : ℕ) → T (all_from f i k) → (j : ℕ) → j < k → T (f (i + j))
unfolding all_from
from_at f i zero t j h = absurd (not-suc-le-zero h)
from_at f i (suc k) t zero h = rw (add-zero i) (and_left (f i) _ t)
from_at f i (suc k) t (suc j) h = rw (add-suc i j, ← (suc-add i j)) (from_at f (suc i) k (and_right (f i) _ t) j (le_of_suc-le-suc h))

from_all : (f : ℕ → Bool) (i k : ℕ) → ((j : ℕ) → j < k → T (f (i + j))) → T (all_from f i k)
unfolding all_from
from_all f i zero h = tt
from_all f i (suc k) h =
    and_both (f i) _ (rw (add-zero i) at (h zero (omega arith))) (from_all f (suc i) k (λ j l. rw (suc-add i j, ← (add-suc i j)) (h (suc j) (omega arith))))

-- what the test of a seat says, and what it takes
pub seat_below : (s : Head) (th : Things) (x : ℕ) (t : Thing) → T (accepted_seat s th x t) → x ≤ th.highest
unfolding accepted_seat
seat_below s th x t k = go (eqb x 0) refl k
  where
    go : (b : Bool) → eqb x 0 ≡ b → T (cond b (zero_thing t) (leb x th.highest && ltb t.type.0 s.types)) → x ≤ th.highest
    go true e u = rw (eqb-true x 0 e) zero-le
    go false e u = leb→le x th.highest (search and_left)

pub seat_typed : (s : Head) (th : Things) (x : ℕ) (t : Thing) → T (accepted_seat s th x t) → x ≢ 0 → t.type.0 < s.types
unfolding accepted_seat
seat_typed s th x t k nz = let u = rw (eqb_not x 0 nz) at k in ltb→lt t.type.0 s.types (and_right (leb x th.highest) (ltb t.type.0 s.types) u)

pub seat_ok : (s : Head) (th : Things) (x : ℕ) (t : Thing) → x ≢ 0 → x ≤ th.highest → t.type.0 < s.types → T (accepted_seat s th x t)
unfolding accepted_seat
seat_ok s th x t nz h typed =
    let low = le→leb x th.highest h in
    let type = lt→ltb t.type.0 s.types typed in
    rw (eqb_not x 0 nz) (search and_both)

pub ids_below : (s : Head) (th : Things) → HeldThings s th → (i : ℕ) → get_or th.ids i 0 ≤ th.highest
ids_below s th ok i = go (dec_lt i 48)
  where
    go : Dec (i < 48) → get_or th.ids i 0 ≤ th.highest
    go (yes l) = seat_below s th _ _ (ok.seat i l)
    go (no n) = rw (get_d_beyond th.ids i 0 (rw ok.id_room (omega arith))) zero-le

pub ids_small : (s : Head) (th : Things) → HeldThings s th → (i : ℕ) → get_or th.ids i 0 ≤ 65535
ids_small s th ok i = omega (arith, ids_below s th ok i, ok.reach)

-- ---- places of cells

place_ok : Head → Things → ℕ → ℕ → Bool
place_ok s th k c = cond (standing s th (k / 48) (k % 48)) (ltb c (2 ^ s.rights)) (eqb c 0)

place_zero : (s : Head) (th : Things) (k : ℕ) → T (place_ok s th k 0)
unfolding place_ok
place_zero s th k = go (standing s th (k / 48) (k % 48))
  where
    go : (b : Bool) → T (cond b (ltb 0 (2 ^ s.rights)) (eqb 0 0))
    go true = lt→ltb 0 (2 ^ s.rights) (pow_pos s.rights)
    go false = tt

places_at : (s : Head) (th : Things) (k : ℕ) (l : List ℕ) → T (accepted_places s th k l) → (i : ℕ) → T (place_ok s th (k + i) (get_or l i 0))
unfolding accepted_places place_ok
places_at s th k [] t i = place_zero s th (k + i)
places_at s th k (c ∷ cs) t zero = rw (add-zero k) (and_left (place_ok s th k c) (accepted_places s th (suc k) cs) t)
places_at s th k (c ∷ cs) t (suc i) =
    rw (add-suc k i, ← (suc-add k i)) (places_at s th (suc k) cs (and_right (place_ok s th k c) (accepted_places s th (suc k) cs) t) i)

places_all : (s : Head) (th : Things) (k : ℕ) (l : List ℕ) → ((i : ℕ) → T (place_ok s th (k + i) (get_or l i 0))) → T (accepted_places s th k l)
unfolding accepted_places place_ok
places_all s th k [] h = tt
places_all s th k (c ∷ cs) h =
    and_both (place_ok s th k c) (accepted_places s th (suc k) cs) (rw (add-zero k) at (h zero))
    (places_all s th (suc k) cs (λ i. rw (suc-add k i, ← (add-suc k i)) (h (suc i))))

place_small : (s : Head) (th : Things) (k c : ℕ) → T (place_ok s th k c) → c < 2 ^ s.rights
unfolding place_ok
place_small s th k c t = go (standing s th (k / 48) (k % 48)) t
  where
    go : (b : Bool) → T (cond b (ltb c (2 ^ s.rights)) (eqb c 0)) → c < 2 ^ s.rights
    go true u = ltb→lt c (2 ^ s.rights) u
    go false u = rw (eqb→eq c 0 u) (pow_pos s.rights)

place_bare : (s : Head) (th : Things) (i j c : ℕ) → j < 48 → T (not (standing s th i j)) → T (place_ok s th (i * 48 + j) c) → c ≡ 0
unfolding place_ok
place_bare s th i j c h n t =
    let ei : (i * 48 + j) / 48 ≡ i = omega arith in
    let ej : (i * 48 + j) % 48 ≡ j = omega arith in
    go (standing s th i j) n (rw (ei, ej) at t)
  where
    go : (b : Bool) → T (not b) → T (cond b (ltb c (2 ^ s.rights)) (eqb c 0)) → c ≡ 0
    go true m u = absurd m
    go false m u = eqb→eq c 0 u

place_ok_lem : (s : Head) (th : Things) (k c : ℕ) → c < 2 ^ s.rights → (T (not (standing s th (k / 48) (k % 48))) → c ≡ 0) → T (place_ok s th k c)
unfolding place_ok
place_ok_lem s th k c h bare = go (standing s th (k / 48) (k % 48)) bare
  where
    go : (b : Bool) → (T (not b) → c ≡ 0) → T (cond b (ltb c (2 ^ s.rights)) (eqb c 0))
    go true f = lt→ltb c (2 ^ s.rights) h
    go false f = equal c 0 (f tt)

-- ---- both ways

held_things : (s : Head) (th : Things) → T (accepted_things s th) → HeldThings s th
unfolding accepted_things
held_things s th t =
    let room : length th.ids ≡ 48 = eqb→eq (length th.ids) 48 (search (and_left, and_right)) in
    let types : length th.types ≡ 48 = eqb→eq (length th.types) 48 (search (and_left, and_right)) in
    let marks : length th.marks ≡ 48 = eqb→eq (length th.marks) 48 (search (and_left, and_right)) in
    let seats : T (all_from (λ i. accepted_seat s th (get_or th.ids i 0) (thing_in th i)) 0 48) = search (and_left, and_right) in
    record {
      id_room = room;
      type_room = types;
      mark_room = marks;
      apart = rw room at (apart_at th.ids (search (and_left, and_right)));
      reach = leb→le th.highest 65535 (search (and_left, and_right));
      seat = λ i l. rw (zero-add i) at (from_at (λ i. accepted_seat s th (get_or th.ids i 0) (thing_in th i)) 0 48 seats i l);
    }

pub ids_apart : (s : Head) (th : Things) → HeldThings s th → T (apart th.ids)
ids_apart s th h = apart_all th.ids (rw h.id_room h.apart)

accepted_things_lem : (s : Head) (th : Things) → HeldThings s th → T (accepted_things s th)
unfolding accepted_things
accepted_things_lem s th h =
    let room = equal (length th.ids) 48 h.id_room in
    let types = equal (length th.types) 48 h.type_room in
    let marks = equal (length th.marks) 48 h.mark_room in
    let one = ids_apart s th h in
    let reach = le→leb th.highest 65535 h.reach in
    let seats = from_all (λ i. accepted_seat s th (get_or th.ids i 0) (thing_in th i)) 0 48 (λ i l. rw (zero-add i) (h.seat i l)) in
    search and_both

pub held : (s : Head) (m : Matrix) → T (accepted_matrix s m) → Held s m
unfolding accepted_matrix
held s m t =
    let at = places_at s m.things 0 m.cells (search (and_left, and_right)) in
    let place : (k : ℕ) → T (place_ok s m.things k (get_or m.cells k 0)) = λ k. rw (zero-add k) at (at k) in
    record {
      things = held_things s m.things (search (and_left, and_right));
      cells = record {
        room = eqb→eq (length m.cells) 2304 (search (and_left, and_right));
        small = λ k. place_small s m.things k _ (place k);
        bare = λ i j h n. place_bare s m.things i j _ h n (place (i * 48 + j));
      };
    }

pub accepted : (s : Head) (m : Matrix) → Held s m → T (accepted_matrix s m)
unfolding accepted_matrix
accepted s m h =
    let things = accepted_things_lem s m.things h.things in
    let room = equal (length m.cells) 2304 h.cells.room in
    let places = places_all s m.things 0 m.cells (λ k. rw (zero-add k) (place_ok_lem s m.things k _ (h.cells.small k) (bare k))) in
    search and_both
  where
    bare : (k : ℕ) → T (not (standing s m.things (k / 48) (k % 48))) → get_or m.cells k 0 ≡ 0
    bare k n =
        let e : k / 48 * 48 + k % 48 ≡ k = omega arith in
        rw e at (h.cells.bare (k / 48) (k % 48) (omega arith) n)
