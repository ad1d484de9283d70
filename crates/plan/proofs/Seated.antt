-- The seat that a plan holds for a parameter is its thing's: what the checks of the places leave, and what each create and destroy does.
-- Assumes nothing.
use Prim.Native.Nat.{ℕ, zero, suc, ◌+◌, ◌≤◌, ◌<◌, max}
use native.Mathlib.Nat.{not-suc-le-zero, le_of_suc-le-suc, add-zero, zero-add, add-suc, suc-add}
use native.Mathlib.Omega.{arith}
use mathlib.Core.Path.{◌≡◌, refl, sym, ◌∙◌}
use mathlib.Core.Logic.{◌≢◌}
use mathlib.Core.Bool.{Bool, true, false, not}
use mathlib.Core.Option.{Option, none, some}
use mathlib.Core.List.{List, [], ◌∷◌}
use lib.Dec.{T, eqb, ltb→lt}
use lib.ListN.{length, get_or, set, length-set, get_or-append}
use lib.Seq.{get_or-set_same, get_or-set_other, sets, sets-eq, length-sets}
use borrow.Author.Tests.{eqb-false}
use Rattle.rights.specs.Numberings.{parameter, same_parameter}
use Rattle.rights.specs.declared.ThingType.{ThingType}
use Rattle.rights.specs.declared.Parameter.{Parameter}
use Rattle.laws.specs.Check.{must, passes, is_some, any}
use Rattle.laws.proofs.Bools.{is_false, from_true, eqb_not, and_right, first_pass, then_pass, must_pass}
use Rattle.model.specs.Scheme.{id_at, creates, is_new, no_type}
use Rattle.model.specs.Request.{Thing, at, of_type, is_id, type_fault, place_fault, places_fault}
use Rattle.model.specs.Seats.{seats, among, find, known, full, seat, thing_at, may_take, put_thing}
use Rattle.model.specs.declared.Code.TheVariants.{Create}
use Rattle.model.specs.declared.Operation.{Operation}
use Rattle.model.specs.declared.Head.{Head}
use Rattle.model.specs.declared.Things.{Things}
use Rattle.model.proofs.Find.{find_lt, find_is, some_known}
use Rattle.model.proofs.Form.{same_parameter_lem}
use Rattle.model.proofs.Held.{HeldThings}
use Rattle.model.proofs.HeldLaws.{ids_below}
use Rattle.model.proofs.SeatChange.{stored}
use Rattle.plan.specs.Locate.{bare, seat_of, seats_from, no_spots, spots_of}
use Rattle.plan.specs.Plan.{seat_at}
use Rattle.plan.proofs.Sits.{Sits, sits_among, sits_find, sits_look, sits_later, sits_put, sits_new}

-- nobody is above the highest after a put either
put_below : (th : Things) (p x : ℕ) (t : Thing) → p < length th.ids → ((i : ℕ) → get_or th.ids i 0 ≤ th.highest) →
    (i : ℕ) → get_or (put_thing p x t th).ids i 0 ≤ (put_thing p x t th).highest
unfolding put_thing
put_below th p x t l below i =
    stored (λ v. v ≤ max th.highest x) th.ids p x i 0 l (λ e. omega arith) (λ n. omega (arith, below i))

not_not : (b : Bool) → T (not (not b)) → T b
not_not true t = tt
not_not false t = t

module _ (types : List ThingType) (ids : List ℕ) where
  -- every parameter that no operation is still to create has its seat, and nobody's id is above the highest
  pub record Seated (k : ℕ) (os : List Operation) (th : Things) (spots : List ℕ) : Type 0 where
    room : length types ≤ length spots
    below : (i : ℕ) → get_or th.ids i 0 ≤ th.highest
    sits : (q : Parameter) → q.0 < length types → is_new os q ≡ false → Sits k th.ids (id_at ids q) (seat_at spots q)

  module _ {k : ℕ} {os : List Operation} {th : Things} {spots : List ℕ} (seated : Seated k os th spots) where
    pub seat_same : k ≤ 1 → (q : Parameter) → q.0 < length types → is_new os q ≡ false → seat th (id_at ids q) ≡ seat_at spots q
    unfolding seat
    seat_same h q l old = let sits = seated.sits q l old in sits_find sits (sits_among sits h)

  module _ (nonzero : (q : Parameter) → q.0 < length types → id_at ids q ≢ 0) where
    module _ {k : ℕ} {o : Operation} {os : List Operation} {th : Things} {spots : List ℕ} (seated : Seated k (o ∷ os) th spots) where
      abbrev x : ℕ
      x = id_at ids o.row

      -- the created thing takes a free seat, where none of the others sits
      pub seated_create : o.code ≡ Create → k ≤ 0 → o.row.0 < length types → T (may_take th x) → T (not (full th)) → (t : ThingType) {k' : ℕ}
          → Seated k' os (put_thing (seat th 0) x (of_type t) th) (set spots o.row.0 (seat th 0))
      unfolding is_new any creates may_take full seat put_thing seat_at
      seated_create e first l may space t {k'} =
          record {
            room = simp length-set seated.room;
            below = put_below th p x (of_type t) (find_lt th.ids 0 free) seated.below;
            sits = λ q lq n. go q lq n (same_parameter o.row q) refl;
          }
        where
          p : ℕ
          p = find th.ids 0

          free : T (among th.ids 0)
          free = not_not (among th.ids 0) space

          absent : among th.ids x ≡ false
          absent = is_false (among th.ids x) (λ t.
              let is = find_is th.ids x t in
              omega (arith, seated.below (find th.ids x), ltb→lt th.highest x may))

          go : (q : Parameter) → q.0 < length types → is_new os q ≡ false → (b : Bool) → same_parameter o.row q ≡ b
              → Sits k' (set th.ids p x) (id_at ids q) (get_or (set spots o.row.0 p) q.0 0)
          go q lq n true d =
              let same : o.row ≡ q = same_parameter_lem o.row q (from_true d) in
              rw (← same, get_or-set_same spots o.row.0 p 0 (omega (arith, seated.room))) (sits_new k' th.ids p x (find_lt th.ids 0 free) absent)
          go q lq n false d =
              let old : Sits k th.ids (id_at ids q) (seat_at spots q) = seated.sits q lq (rw (e, d) n) in
              rw (get_or-set_other spots o.row.0 q.0 p 0 (λ z. eqb-false _ _ d (sym z)))
              (sits_put old p x (find_lt th.ids 0 free) (λ z. rw (← z, absent) at (sits_among old (omega arith))) (λ h. omega arith)
              (λ h z. nonzero q lq (sym (old.here (omega arith)) ∙ rw z (find_is th.ids 0 free))))

      module _ (old : (q : Parameter) → is_new (o ∷ os) q ≡ false) where
        pub seated_later : {k' : ℕ} → k ≤ k' → Seated k' os th spots
        seated_later h = record { room = seated.room; below = seated.below; sits = λ q l n. sits_later (seated.sits q l (old q)) h }

        module _ (l : o.row.0 < length types) where
          abbrev s : ℕ
          s = seat_at spots o.row

          row_sits : Sits k th.ids x s
          row_sits = seated.sits o.row l (old o.row)

          -- a thing is known exactly if it still sits there
          pub look_same : eqb (get_or th.ids s 0) x ≡ known th x
          unfolding known
          look_same = sits_look row_sits ∙ rw (eqb_not x 0 (nonzero o.row l))

          pub seat_known : T (known th x) → seat th x ≡ s
          unfolding known seat
          seat_known t = sits_find row_sits (search and_right)

          pub seated_destroy : {k' : ℕ} → 2 ≤ k' → Seated k' os (put_thing s 0 (of_type no_type) th) spots
          unfolding put_thing
          seated_destroy late = record {
            room = seated.room;
            below = put_below th s 0 (of_type no_type) row_sits.low seated.below;
            sits = λ q lq n. sits_put (seated.sits q lq (old q)) s 0 row_sits.low (λ z. nonzero q lq (sym z))
                (λ h. absurd (omega arith)) (λ h. absurd (omega arith));
          }

-- ---- what the place checks leave

record Placed (th : Things) (new : Bool) (x s : ℕ) : Type 0 where
  nonzero : x ≢ 0
  old : new ≡ false → T (known th x) × (s ≡ find th.ids x)

typed_known : (th : Things) (x : ℕ) (t : ThingType) → T (passes (type_fault t (thing_at th x))) → T (known th x)
unfolding type_fault passes is_some
typed_known th x t ok = some_known th x (go (thing_at th x) ok)
  where
    go : (u : Option Thing) → T (passes (type_fault t u)) → T (is_some u)
    go none ok = absurd ok
    go (some u) ok = tt

placed : (th : Things) (new : Bool) (t : ThingType) (x : ℕ) → T (passes (place_fault seats (bare th) new t x)) → Placed th new x (seat_of th new x)
unfolding place_fault seats is_id
placed th new t x ok =
    let id : T (is_id x) = search (first_pass, must_pass) in
    record {
      nonzero = λ e. rw e at id;
      old = λ e. (typed_known th x t (rw e at (then_pass (must (is_id x) (at 12 0)) _ ok)), rw e);
    }

module _ (th : Things) (os : List Operation) where
  places_from : (n : ℕ) (ts : List ThingType) (xs : List ℕ) → T (passes (places_fault seats (bare th) os n ts xs)) → length xs ≡ length ts
      → (i : ℕ) → i < length ts → Placed th (is_new os (parameter (n + i))) (get_or xs i 0) (get_or (seats_from th os n ts xs) i 0)
  unfolding places_fault seats_from
  places_from n [] xs ok e i h = absurd (not-suc-le-zero h)
  places_from n (t ∷ ts) [] ok e i h = absurd (omega arith)
  places_from n (t ∷ ts) (x ∷ xs) ok e zero h = rw (add-zero n) (placed th (is_new os (parameter n)) t x (search first_pass))
  places_from n (t ∷ ts) (x ∷ xs) ok e (suc i) h =
      rw (add-suc n i, ← suc-add n i) (places_from (suc n) ts xs (search then_pass) (omega arith) i (le_of_suc-le-suc h))

  seats_long : (n : ℕ) (ts : List ThingType) (xs : List ℕ) → length xs ≡ length ts → length (seats_from th os n ts xs) ≡ length ts
  unfolding seats_from
  seats_long n [] xs e = refl
  seats_long n (t ∷ ts) [] e = e
  seats_long n (t ∷ ts) (x ∷ xs) e = rw (seats_long (suc n) ts xs (omega arith))

-- an array that a list was stored to, from its start
stored_at : (vs l : List ℕ) → length vs ≤ length l → (k : ℕ) → k < length vs → get_or (sets l 0 vs) k 0 ≡ get_or vs k 0
stored_at vs l h k low = rw (sets-eq vs l 0 (omega arith)) (get_or-append vs _ 0 k low)

module _ (s : Head) (th : Things) (held : HeldThings s th) (os : List Operation) (types : List ThingType) (ids : List ℕ)
    (few : length types ≤ 8) (long : length ids ≡ length types) (ok : T (passes (places_fault seats (bare th) os 0 types ids))) where
  abbrev spots : List ℕ
  spots = spots_of th os types ids

  placed_at : (q : Parameter) → q.0 < length types → Placed th (is_new os q) (id_at ids q) (seat_at spots q)
  unfolding id_at seat_at spots_of
  placed_at q h =
      let n = seats_long th os 0 types ids long in
      rw (stored_at (seats_from th os 0 types ids) no_spots (omega arith) q.0 (omega arith))
      (rw zero-add at (places_from th os 0 types ids ok long q.0 h))

  pub ids_nonzero : (q : Parameter) → q.0 < length types → id_at ids q ≢ 0
  ids_nonzero q h = (placed_at q h).nonzero

  pub seated : Seated types ids 0 os th spots
  unfolding known spots_of
  seated = record { room = simp length-sets few; below = ids_below s th held; sits = λ q h n. go q h ((placed_at q h).old n) }
    where
      go : (q : Parameter) → q.0 < length types → T (known th (id_at ids q)) × (seat_at spots q ≡ find th.ids (id_at ids q))
          → Sits 0 th.ids (id_at ids q) (seat_at spots q)
      go q h (there, e) =
          let t : T (among th.ids (id_at ids q)) = search and_right in
          let low : seat_at spots q < length th.ids = rw e (find_lt _ _ t) in
          let here : get_or th.ids (seat_at spots q) 0 ≡ id_at ids q = rw e (find_is _ _ t) in
          let room : length th.ids ≡ 48 = held.id_room in
          record {
            low = low;
            only = λ i l z. held.apart i (seat_at spots q) (omega arith) (omega arith) (λ z'. ids_nonzero q h (sym z ∙ z')) (z ∙ sym here);
            here = λ k. here;
          }
