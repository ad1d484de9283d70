-- Who sits at the seats, as a list of records: as long as there are seats, seat by seat; and an id among the first n of them, found at its seat.
-- Assumes nothing.
use Prim.Native.Nat.{ℕ, zero, suc, ◌+◌, min, ◌≤◌, ◌<◌}
use native.Mathlib.Nat.{add-zero, zero-add, add-suc, suc-add}
use native.Mathlib.Decide.{dec_lt}
use native.Mathlib.Omega.{arith}
use mathlib.Core.Bool.{Bool, true, false, cond}
use mathlib.Core.Logic.{◌≢◌}
use mathlib.Core.Option.{none, some}
use mathlib.Core.List.{List, [], ◌∷◌, map}
use mathlib.Core.Path.{◌≡◌, refl, sym, ap, ◌∙◌}
use lib.Dec.{T, eqb}
use lib.ListN.{length, take, get_or, length-take, length-map, get_or-map}
use lib.Seq.{ext_get_or, get_or-take}
use borrow.Author.Tests.{eqb-true, eqb-false}
use Rattle.laws.specs.Check.{is_some}
use Rattle.laws.proofs.Bools.{eqb_not}
use Rattle.model.specs.Seats.{find, thing_in}
use Rattle.model.specs.declared.Things.{Things}
use Rattle.matrix_records.specs.Content.{ThingRecord, nobody, record_in, records_from, seated, taken, listed}
use Rattle.matrix_records.specs.Read.{thing_with}

abbrev pub ids : List ThingRecord → List ℕ
ids ts = map (λ t. t.id) ts

-- ---- seat by seat
module _ (th : Things) where
  records-length : (i k : ℕ) → length (records_from th i k) ≡ k
  unfolding records_from
  records-length i zero = refl
  records-length i (suc k) = ap suc (records-length (suc i) k)

  records-at : (i k j : ℕ) → j < k → get_or (records_from th i k) j nobody ≡ record_in th (i + j)
  unfolding records_from
  records-at i zero j h = absurd (omega arith)
  records-at i (suc k) zero h = rw add-zero
  records-at i (suc k) (suc j) h = records-at (suc i) k j (omega arith) ∙ rw (suc-add, add-suc)

  pub seated_length : length (seated th) ≡ 48
  unfolding seated
  seated_length = records-length 0 48

  pub seated_at : (i : ℕ) → i < 48 → get_or (seated th) i nobody ≡ record_in th i
  unfolding seated
  seated_at i h = records-at 0 48 i h ∙ rw zero-add

  pub seated_ids : length th.ids ≡ 48 → ids (seated th) ≡ th.ids
  unfolding record_in
  seated_ids room =
      let long : length (ids (seated th)) ≡ 48 = length-map (seated th) (λ t. t.id) ∙ seated_length in
      ext_get_or 0 (ids (seated th)) th.ids (long ∙ sym room) (λ i h.
      get_or-map (λ (t : ThingRecord). t.id) (seated th) i nobody ∙ rw (seated_at i (rw long at h)))

-- ---- an id is found at its seat
pub with_none : (ts : List ThingRecord) (x : ℕ) → length ts ≤ find (ids ts) x → thing_with ts x ≡ none
unfolding thing_with find
with_none [] x h = refl
with_none (t ∷ ts) x h = go (eqb t.id x) h (with_none ts x)
  where
    go : (b : Bool) → suc (length ts) ≤ cond b zero (suc (find (ids ts) x)) → (length ts ≤ find (ids ts) x → thing_with ts x ≡ none) →
        cond b (some t.thing) (thing_with ts x) ≡ none
    go true h f = absurd (omega arith)
    go false h f = f (omega arith)

pub with_some : (ts : List ThingRecord) (x : ℕ) → find (ids ts) x < length ts → thing_with ts x ≡ some (get_or ts (find (ids ts) x) nobody).thing
unfolding thing_with find
with_some [] x h = absurd (omega arith)
with_some (t ∷ ts) x h = go (eqb t.id x) h (with_some ts x)
  where
    go : (b : Bool) → cond b zero (suc (find (ids ts) x)) < suc (length ts) →
        (find (ids ts) x < length ts → thing_with ts x ≡ some (get_or ts (find (ids ts) x) nobody).thing) →
        cond b (some t.thing) (thing_with ts x) ≡ some (get_or (t ∷ ts) (cond b zero (suc (find (ids ts) x))) nobody).thing
    go true h f = refl
    go false h f = f (omega arith)

-- ---- among the first n seats
map_take : {A B : Type 0} (f : A → B) (n : ℕ) (l : List A) → map f (take n l) ≡ take n (map f l)
map_take f zero l = refl
map_take f (suc n) [] = refl
map_take f (suc n) (x ∷ l) = rw (map_take f n l)

-- a free seat is none of them
taken_with : (ts : List ThingRecord) (x : ℕ) → x ≢ 0 → thing_with (taken ts) x ≡ thing_with ts x
unfolding taken thing_with
taken_with [] x nz = refl
taken_with (t ∷ ts) x nz = go (eqb t.id 0) refl (taken_with ts x nz)
  where
    go : (b : Bool) → eqb t.id 0 ≡ b → thing_with (taken ts) x ≡ thing_with ts x →
        thing_with (cond b (taken ts) (t ∷ taken ts)) x ≡ cond (eqb t.id x) (some t.thing) (thing_with ts x)
    go true e q = rw (eqb_not t.id x (λ s. nz (sym s ∙ eqb-true t.id 0 e))) q
    go false e q = rw q

taken_zero : (ts : List ThingRecord) → thing_with (taken ts) 0 ≡ none
unfolding taken thing_with
taken_zero [] = refl
taken_zero (t ∷ ts) = go (eqb t.id 0) refl (taken_zero ts)
  where
    go : (b : Bool) → eqb t.id 0 ≡ b → thing_with (taken ts) 0 ≡ none → thing_with (cond b (taken ts) (t ∷ taken ts)) 0 ≡ none
    go true e q = q
    go false e q = rw e q

module _ (th : Things) (n : ℕ) (room : length th.ids ≡ 48) where
  abbrev first : List ThingRecord
  first = take n (seated th)

  first_ids : ids first ≡ take n th.ids
  first_ids = map_take (λ t. t.id) n (seated th) ∙ rw (seated_ids th room)

  first_length : length first ≡ min n 48
  first_length = length-take n (seated th) ∙ rw (seated_length th)

  first_at : (i : ℕ) → i < min n 48 → get_or first i nobody ≡ record_in th i
  first_at i h = get_or-take n (seated th) i nobody (omega arith) ∙ seated_at th i (omega arith)

  pub listed_zero : thing_with (listed n th) 0 ≡ none
  unfolding listed
  listed_zero = taken_zero first

  pub listed_none : (x : ℕ) → min n 48 ≤ find (take n th.ids) x → thing_with (listed n th) x ≡ none
  unfolding listed
  listed_none x h = go (eqb x 0) refl
    where
      go : (b : Bool) → eqb x 0 ≡ b → thing_with (taken first) x ≡ none
      go true e = rw (eqb-true x 0 e) (taken_zero first)
      go false e = taken_with first x (eqb-false x 0 e) ∙ with_none first x (rw (first_length, first_ids) h)

  pub listed_some : (x : ℕ) → x ≢ 0 → find (take n th.ids) x < min n 48 →
      thing_with (listed n th) x ≡ some (thing_in th (find (take n th.ids) x))
  unfolding listed record_in
  listed_some x nz h =
      let seat : find (ids first) x ≡ find (take n th.ids) x = rw first_ids in
      taken_with first x nz ∙ with_some first x (rw (first_length, seat) h) ∙ rw (seat, first_at _ h)

  -- what is found is a thing's id, at a seat below n
  pub listed_thing : (x : ℕ) → T (is_some (thing_with (listed n th) x)) → x ≢ 0
  unfolding is_some
  listed_thing x t z = absurd (rw (z, listed_zero) at t)

  pub listed_near : (x : ℕ) → T (is_some (thing_with (listed n th) x)) → find (take n th.ids) x < min n 48
  unfolding is_some
  listed_near x t = by (dec_lt (find (take n th.ids) x) (min n 48))
    where
      by : Dec (find (take n th.ids) x < min n 48) → find (take n th.ids) x < min n 48
      by (yes h) = h
      by (no g) = absurd (rw (listed_none x (omega (arith, g))) at t)
