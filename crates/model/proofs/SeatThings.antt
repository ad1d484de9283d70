-- Create and destroy among the seats: both put something at one seat and leave its cells empty, and stand for what the papers do.
-- Assumes nothing.
use Prim.Native.Nat.{ℕ, zero, suc, ◌+◌, ◌*◌, ◌/◌, ◌%◌, ◌^◌, ◌≤◌, ◌<◌, max}
use mathlib.Core.Path.{◌≡◌, refl, sym, ap, ◌∙◌}
use mathlib.Core.Logic.{◌≢◌}
use mathlib.Core.Bool.{Bool, true, false, not, cond, ◌&&◌, ◌||◌}
use mathlib.Core.Option.{Option, none, some}
use mathlib.Core.List.{List, [], ◌∷◌}
use native.Mathlib.Nat.{suc-add, add-suc, add-zero, zero-add}
use native.Mathlib.Omega.{arith}
use lib.Dec.{T, eqb, leb, ltb, eqb→eq, eqb_refl, leb→le, le→leb, ltb→lt, not_T}
use lib.ListN.{length, get_or, length-set}
use lib.Seq.{get_or-set_same, get_or-set_other, ext_get_or}
use lib.Pow.{pow_pos}
use borrow.Author.Tests.{eqb-true, eqb-false}
use Rattle.rights.specs.declared.ThingType.{ThingType}
use Rattle.model.specs.Request.{Thing, of_type, is_id}
use Rattle.model.specs.Papers.{Population, may_create, now_is, now_has, reached, born, gone, emptied, papers}
use Rattle.model.specs.Seats.{Matrix, among, known, seat, thing_in, thing_at, may_take, paper_things, place, cell, put_thing, blank, add, remove, stands_for}
use Rattle.model.specs.Accepted.{zero_thing, accepted_seat, standing}
use Rattle.model.specs.declared.Head.{Head}
use Rattle.model.specs.declared.Things.{Things}
use Rattle.laws.proofs.Bools.{is_true, is_false, from_true, and_left, and_right, and_both, eqb_not}
use Rattle.model.proofs.Held.{HeldThings, HeldCells, Held}
use Rattle.model.proofs.Stands.{fresh}
use Rattle.model.proofs.Find.{is_known, find_lt, find_is, among_other, find_other, known_nonzero, seat_is, none_known, seat_lt, known_at, seat_at}
use Rattle.model.proofs.HeldLaws.{seat_ok, ids_below}
use Rattle.model.proofs.SeatChange.{things_eq, state_eq, stored, cond_when}
use Rattle.model.specs.Scheme.{no_type}

-- ---- blank

cond_same : (b : Bool) → ◌≡◌ {A = ℕ} 0 (cond b 0 0)
cond_same true = refl
cond_same false = refl

blank_from : (p k : ℕ) (l : List ℕ) (i : ℕ) → get_or (blank p k l) i 0 ≡ cond (eqb ((k + i) / 48) p || eqb ((k + i) % 48) p) 0 (get_or l i 0)
unfolding blank
blank_from p k [] i = cond_same (eqb ((k + i) / 48) p || eqb ((k + i) % 48) p)
blank_from p k (c ∷ cs) zero = rw (add-zero k)
blank_from p k (c ∷ cs) (suc i) = blank_from p (suc k) cs i ∙ rw (suc-add k i, add-suc k i)

length_blank : (p k : ℕ) (l : List ℕ) → length (blank p k l) ≡ length l
unfolding blank
length_blank p k [] = refl
length_blank p k (c ∷ cs) = ap suc (length_blank p (suc k) cs)

get_d_blank : (p : ℕ) (l : List ℕ) (k : ℕ) → get_or (blank p 0 l) k 0 ≡ cond (eqb (k / 48) p || eqb (k % 48) p) 0 (get_or l k 0)
get_d_blank p l k = blank_from p 0 l k ∙ rw (zero-add k)

blank_at : (p : ℕ) (l : List ℕ) (i j : ℕ) → j < 48 → get_or (blank p 0 l) (i * 48 + j) 0 ≡ cond (eqb i p || eqb j p) 0 (get_or l (i * 48 + j) 0)
blank_at p l i j lj =
    let ei : (i * 48 + j) / 48 ≡ i = omega arith in
    let ej : (i * 48 + j) % 48 ≡ j = omega arith in
    get_d_blank p l (i * 48 + j) ∙ rw (ei, ej)

-- ---- what is held

-- what sits at a seat after a put: all that the proofs need to know of the arrays
in_other : (th : Things) (p y : ℕ) (t : Thing) (i : ℕ) → i ≢ p → thing_in (put_thing p y t th) i ≡ thing_in th i
unfolding thing_in put_thing
in_other th p y t i n = rw (get_or-set_other th.types p i t.type no_type n, get_or-set_other th.marks p i t.on_hold false n)

in_here : (s : Head) (th : Things) (p y : ℕ) (t : Thing) → p < 48 → HeldThings s th → thing_in (put_thing p y t th) p ≡ t
unfolding thing_in put_thing
in_here s th p y t lp ok =
    rw (get_or-set_same th.types p t.type no_type (rw ok.type_room lp), get_or-set_same th.marks p t.on_hold false (rw ok.mark_room lp))

module _ (s : Head) (th : Things) (p y : ℕ) (t : Thing) (lp : p < 48) (ok : HeldThings s th) where
  -- a seat after a put is the one put to, or another
  put_at : (P : ℕ → Thing → Type 0) (i : ℕ) → (i ≡ p → P y t) → (i ≢ p → P (get_or th.ids i 0) (thing_in th i)) →
      P (get_or (put_thing p y t th).ids i 0) (thing_in (put_thing p y t th) i)
  unfolding put_thing
  put_at P i f g =
      let li : p < length th.ids = rw ok.id_room lp in
      stored (λ v. P v (thing_in (put_thing p y t th) i)) th.ids p y i 0 li
      (λ e. rw (e, in_here s th p y t lp ok) (f e)) (λ ne. rw (in_other th p y t i ne) (g ne))

  put_here : (P : ℕ → Thing → Type 0) → P y t → P (get_or (put_thing p y t th).ids p 0) (thing_in (put_thing p y t th) p)
  put_here P h = put_at P p (λ e. h) (λ ne. absurd (ne refl))

  -- the highest only rises, so what passed the test of a seat passes it after a put too
  same_seat : (v : ℕ) (w : Thing) → T (accepted_seat s th v w) → T (accepted_seat s (put_thing p y t th) v w)
  unfolding accepted_seat put_thing
  same_seat v w = go (eqb v 0)
    where
      go : (b : Bool) → T (cond b (zero_thing w) (leb v th.highest && ltb w.type.0 s.types)) →
          T (cond b (zero_thing w) (leb v (max th.highest y) && ltb w.type.0 s.types))
      go true k = k
      go false k =
          let low = leb→le v th.highest (search and_left) in
          let high = le→leb v (max th.highest y) (omega arith) in
          search (and_left, and_right, and_both)

  put_things : T (accepted_seat s (put_thing p y t th) y t) → y ≤ 65535 → (y ≢ 0 → (j : ℕ) → j < 48 → get_or th.ids j 0 ≢ y) → HeldThings s (put_thing p y t th)
  unfolding put_thing
  put_things fits small new = record {
    id_room = simp length-set ok.id_room;
    type_room = simp length-set ok.type_room;
    mark_room = simp length-set ok.mark_room;
    apart = λ i j li lj. put_at (λ v w. v ≢ 0 → v ≡ get_or (put_thing p y t th).ids j 0 → i ≡ j) i
        (λ ei nz. put_at (λ v w. y ≡ v → i ≡ j) j (λ ej e. omega arith) (λ ej e. absurd (new nz j lj (sym e))))
        (λ ei nz. put_at (λ v w. get_or th.ids i 0 ≡ v → i ≡ j) j (λ ej e. absurd (new (λ z. nz (e ∙ z)) i li e)) (λ ej e. ok.apart i j li lj nz e));
    reach = omega (arith, ok.reach);
    seat = λ i l. put_at (λ v w. T (accepted_seat s (put_thing p y t th) v w)) i (λ e. fits) (λ ne. same_seat _ _ (ok.seat i l));
  }

standing_other : (s : Head) (th : Things) (p y : ℕ) (t : Thing) (i j : ℕ) → i ≢ p → j ≢ p → standing s (put_thing p y t th) i j ≡ standing s th i j
unfolding standing put_thing
standing_other s th p y t i j ni nj =
    rw (get_or-set_other th.ids p i y 0 ni, get_or-set_other th.ids p j y 0 nj, get_or-set_other th.types p i t.type no_type ni)

put_cells : (s : Head) (th : Things) (l : List ℕ) (p y : ℕ) (t : Thing) → HeldCells s th l → HeldCells s (put_thing p y t th) (blank p 0 l)
put_cells s th l p y t ok =
    record {
      room = length_blank p 0 l ∙ ok.room;
      small = λ k. rw (get_d_blank p l k) (low (eqb (k / 48) p || eqb (k % 48) p) k);
      bare = λ i j lj n. blank_at p l i j lj ∙ go i j lj n (eqb i p) (eqb j p) (eqb-false i p) (eqb-false j p);
    }
  where
    low : (b : Bool) (k : ℕ) → cond b 0 (get_or l k 0) < 2 ^ s.rights
    low true k = pow_pos s.rights
    low false k = ok.small k

    go : (i j : ℕ) → j < 48 → T (not (standing s (put_thing p y t th) i j)) → (a b : Bool) → (a ≡ false → i ≢ p) → (b ≡ false → j ≢ p) →
        cond (a || b) 0 (get_or l (i * 48 + j) 0) ≡ 0
    go i j lj n true b f g = refl
    go i j lj n false true f g = refl
    go i j lj n false false f g = ok.bare i j lj (rw (standing_other s th p y t i j (f refl) (g refl)) at n)

-- a free seat's cells are empty
free_blank : (s : Head) (th : Things) (l : List ℕ) (p : ℕ) → HeldCells s th l → get_or th.ids p 0 ≡ 0 → blank p 0 l ≡ l
unfolding standing
free_blank s th l p ok e =
    ext_get_or 0 _ _ (length_blank p 0 l) (λ k h. get_d_blank p l k ∙ go k (eqb (k / 48) p) (eqb (k % 48) p) (eqb→eq _ p) (eqb→eq _ p))
  where
    row : (i j : ℕ) → T (standing s th i j) → get_or th.ids i 0 ≢ 0
    row i j st z = let h : T (not (eqb (get_or th.ids i 0) 0)) = search (and_left, and_right) in rw z at h

    column : (i j : ℕ) → T (standing s th i j) → get_or th.ids j 0 ≢ 0
    column i j st z = let h : T (not (eqb (get_or th.ids j 0) 0)) = search (and_left, and_right) in rw z at h

    empty : (k : ℕ) → (T (standing s th (k / 48) (k % 48)) → ⊥) → 0 ≡ get_or l k 0
    empty k n =
        let q : k / 48 * 48 + k % 48 ≡ k = omega arith in
        rw q at (sym (ok.bare (k / 48) (k % 48) (omega arith) (not_T (standing s th (k / 48) (k % 48)) n)))

    go : (k : ℕ) (a b : Bool) → (T a → k / 48 ≡ p) → (T b → k % 48 ≡ p) → cond (a || b) 0 (get_or l k 0) ≡ get_or l k 0
    go k true b f g = empty k (λ st. row _ _ st (rw (f tt) e))
    go k false true f g = empty k (λ st. column _ _ st (rw (g tt) e))
    go k false false f g = refl

-- ---- what it stands for: y is put where another sat, and of these two one is x and the other is nobody

unfoldable put : ℕ → ℕ → Thing → Matrix → Matrix
put p y t m = record { things = put_thing p y t m.things; cells = blank p 0 m.cells }

module _ (s : Head) (m : Matrix) (p y : ℕ) (t : Thing) (x : ℕ)
    (comes : (a : ℕ) → a ≢ 0 → a ≢ x → y ≢ a) (goes : (a : ℕ) → a ≢ 0 → a ≢ x → get_or m.things.ids p 0 ≢ a) where
  abbrev then : Things
  then = put_thing p y t m.things

  known_other : (a : ℕ) → a ≢ x → known then a ≡ known m.things a
  unfolding known put_thing
  known_other zero n = refl
  known_other (suc a) n = rw (among_other m.things.ids p y (suc a) (comes (suc a) (λ e. omega arith) n) (goes (suc a) (λ e. omega arith) n))

  seat_other : (a : ℕ) → a ≢ x → T (known m.things a) → seat then a ≡ seat m.things a
  unfolding seat put_thing
  seat_other a n h = let nz = known_nonzero m.things a h in find_other m.things.ids p y a (comes a nz n) (goes a nz n)

  thing_other : (a : ℕ) → a ≢ x → thing_at then a ≡ thing_at m.things a
  unfolding thing_at
  thing_other a n = rw (known_other a n) (cond_when (known m.things a) none (λ h. rw (seat_other a n h) (ap some
      (in_other m.things p y t _ (λ e. goes a (known_nonzero m.things a h) n (rw e at (seat_is m.things a h)))))))

  module _ (lp : p < 48) (ok : HeldThings s m.things) (held : HeldThings s then) (there : T (known then x) → seat then x ≡ p) where
    seat_put : (a : ℕ) → T (known then a) → eqb (seat then a) p ≡ eqb a x
    seat_put a h = go (eqb a x) refl
      where
        go : (b : Bool) → eqb a x ≡ b → eqb (seat then a) p ≡ b
        go true e = let q : a ≡ x = eqb-true a x e in rw (q, there (rw q at h)) (is_true (eqb p p) (eqb_refl p))
        go false e = eqb_not _ p (λ q. comes a (known_nonzero then a h) (eqb-false a x e)
            (put_here s m.things p y t lp ok (λ v w. y ≡ v) refl ∙ rw q at (seat_is then a h)))

    put_rights : (a b : ℕ) → (stands_for (put p y t m)).rights a b ≡ emptied x (stands_for m).rights a b
    unfolding stands_for emptied put cell place
    put_rights a b =
        cond_when both 0 (λ h.
        blank_at p m.cells (seat then a) (seat then b) (seat_lt s then held b (search and_right))
        ∙ rw (seat_put a (search and_left), seat_put b (search and_right)))
        ∙ go (eqb a x) (eqb b x) (eqb-false a x) (eqb-false b x)
      where
        both : Bool
        both = known then a && known then b

        go : (ea eb : Bool) → (ea ≡ false → a ≢ x) → (eb ≡ false → b ≢ x) →
            cond both (cond (ea || eb) 0 (get_or m.cells (seat then a * 48 + seat then b) 0)) 0 ≡ cond (ea || eb) 0 ((stands_for m).rights a b)
        go true eb f g = sym (cond_same both)
        go false true f g = sym (cond_same both)
        go false false f g = rw (known_other a (f refl), known_other b (g refl)) (cond_when (known m.things a && known m.things b) 0 (λ h.
            rw (seat_other a (f refl) (search and_left), seat_other b (g refl) (search and_right))))

    put_stands : (now : Option Thing) → thing_at then x ≡ now →
        stands_for (put p y t m) ≡ record { things = reached y (now_has x now (stands_for m).things); rights = emptied x (stands_for m).rights }
    unfolding stands_for paper_things put put_thing reached now_has now_is
    put_stands now e = state_eq _ _ (things_eq _ _ (λ a. go a (eqb a x) refl) refl) put_rights
      where
        go : (a : ℕ) (b : Bool) → eqb a x ≡ b → thing_at then a ≡ cond b now (thing_at m.things a)
        go a true q = let z : a ≡ x = eqb-true a x q in rw z e
        go a false q = thing_other a (eqb-false a x q)

-- ---- create: x takes a free seat

-- memory and papers agree on what may be created: no thing's id is above the highest
pub may_law : (s : Head) (th : Things) → HeldThings s th → (x : ℕ) → may_take th x ≡ may_create (paper_things th) x
unfolding may_take may_create paper_things
may_law s th ok x = go (known th x) (ltb th.highest x) refl refl ∙ rw (is_known th x)
  where
    go : (k l : Bool) → known th x ≡ k → ltb th.highest x ≡ l → ltb th.highest x ≡ (not (known th x) && ltb th.highest x)
    go true true e f =
        let is : get_or th.ids (seat th x) 0 ≡ x = seat_is th x (from_true e) in
        absurd (omega (arith, ids_below s th ok (seat th x), ltb→lt th.highest x (from_true f)))
    go true false e f = rw (e, f)
    go false l e f = rw e

module _ (s : Head) (m : Matrix) (ok : Held s m) (x : ℕ) (t : ThingType) (id : T (is_id x)) (typed : t.0 < s.types)
    (new : thing_at m.things x ≡ none) (free : T (among m.things.ids 0)) where
  abbrev at0 : ℕ
  at0 = seat m.things 0

  at0_lt : at0 < 48
  unfolding seat
  at0_lt = rw ok.things.id_room at (find_lt m.things.ids 0 free)

  at0_free : get_or m.things.ids at0 0 ≡ 0
  unfolding seat
  at0_free = find_is m.things.ids 0 free

  id_nonzero : x ≢ 0
  unfolding is_id
  id_nonzero e = rw e at id

  put_free : put at0 x (of_type t) m ≡ record { things = put_thing at0 x (of_type t) m.things; cells = m.cells }
  unfolding put
  put_free = rw (free_blank s m.things m.cells at0 ok.cells at0_free)

  put_new : Held s (put at0 x (of_type t) m)
  unfolding put put_thing is_id
  put_new = record {
    things = put_things s m.things at0 x (of_type t) at0_lt ok.things
        (seat_ok s (put_thing at0 x (of_type t) m.things) x (of_type t) id_nonzero (omega arith) typed) (leb→le x 65535 (search and_right))
        (λ nz j lj e. none_known m.things x new (rw e at (known_at s m.things ok.things j lj (λ z. nz (sym e ∙ z)))));
    cells = put_cells s m.things m.cells at0 x (of_type t) ok.cells;
  }

  put_new_stands : stands_for (put at0 x (of_type t) m) ≡ record { things = reached x (now_has x (some (of_type t)) (stands_for m).things); rights = emptied x (stands_for m).rights }
  unfolding thing_at put
  put_new_stands =
      let th = put_thing at0 x (of_type t) m.things in
      let held : HeldThings s th = put_new.things in
      let ids : get_or th.ids at0 0 ≡ x = put_here s m.things at0 x (of_type t) at0_lt ok.things (λ v w. v ≡ x) refl in
      let is : thing_in th at0 ≡ of_type t = put_here s m.things at0 x (of_type t) at0_lt ok.things (λ v w. w ≡ of_type t) refl in
      let there : seat th x ≡ at0 = rw ids at (seat_at s th held at0 at0_lt (rw ids id_nonzero)) in
      let here : T (known th x) = rw ids at (known_at s th held at0 at0_lt (rw ids id_nonzero)) in
      put_stands s m at0 x (of_type t) x (λ a nz ne e. ne (sym e)) (λ a nz ne e. nz (sym e ∙ at0_free)) at0_lt ok.things held (λ h. there) (some (of_type t))
      (rw (is_true (known th x) here, there, is))

module _ (s : Head) (m : Matrix) (ok : Held s m) (x : ℕ) (t : ThingType) (id : T (is_id x)) (typed : t.0 < s.types)
    (may : T (may_create (paper_things m.things) x)) (free : T (among m.things.ids 0)) where
  new : thing_at m.things x ≡ none
  unfolding paper_things
  new = fresh (paper_things m.things) x may

  pub add_held : Held s (add x t m)
  unfolding add
  add_held = rw (put_free s m ok x t id typed new free) at (put_new s m ok x t id typed new free)

  pub add_stands : stands_for (add x t m) ≡ papers.create x t (stands_for m)
  unfolding add papers born
  add_stands = rw (put_free s m ok x t id typed new free) at (put_new_stands s m ok x t id typed new free)

-- ---- destroy: nobody takes the seat of x

reached_none : (th : Population) → reached 0 th ≡ th
unfolding reached
reached_none th = things_eq _ _ (λ x. refl) (omega arith)

module _ (s : Head) (m : Matrix) (ok : Held s m) (x : ℕ) (there : T (known m.things x)) where
  abbrev at : ℕ
  at = seat m.things x

  at_lt : at < 48
  at_lt = seat_lt s m.things ok.things x there

  free_seat : T (accepted_seat s (put_thing at 0 (of_type no_type) m.things) 0 (of_type no_type))
  unfolding accepted_seat zero_thing
  free_seat = tt

  pub remove_held : Held s (remove x m)
  unfolding remove
  remove_held = record {
    things = put_things s m.things at 0 (of_type no_type) at_lt ok.things free_seat (omega arith) (λ nz. absurd (nz refl));
    cells = put_cells s m.things m.cells at 0 (of_type no_type) ok.cells;
  }

  not_there : T (known (put_thing at 0 (of_type no_type) m.things) x) → ⊥
  unfolding remove
  not_there h =
      let th = put_thing at 0 (of_type no_type) m.things in
      let nz : x ≢ 0 = known_nonzero th x h in
      put_at s m.things at 0 (of_type no_type) at_lt ok.things (λ v w. v ≡ x → ⊥) (seat th x) (λ e z. nz (sym z))
      (λ ne z. ne (ok.things.apart _ at (seat_lt s th remove_held.things x h) at_lt (rw z nz) (z ∙ sym (seat_is m.things x there))))
      (seat_is th x h)

  pub remove_stands : stands_for (remove x m) ≡ papers.destroy x (stands_for m)
  unfolding papers gone thing_at put remove
  remove_stands = rw (reached_none (now_has x none (stands_for m).things)) at
      (put_stands s m at 0 (of_type no_type) x (λ a nz ne e. nz (sym e)) (λ a nz ne e. ne (sym e ∙ seat_is m.things x there)) at_lt ok.things
      remove_held.things (λ h. absurd (not_there h)) none (rw (is_false (known (put_thing at 0 (of_type no_type) m.things) x) not_there)))
