-- A list of things that takes the seats in order: who then sits where, seat by seat; and a thing of a memory as the one with its id among the seats.
-- Assumes nothing.
use Prim.Native.Nat.{ℕ, zero, suc, ◌+◌, ◌-◌, ◌≤◌, ◌<◌, max}
use native.Mathlib.Nat.{sub-zero, add-zero, add-suc, suc-add, zero-add}
use native.Mathlib.Omega.{arith}
use mathlib.Core.Bool.{Bool, true, false, cond, ◌||◌}
use mathlib.Core.Logic.{◌≢◌}
use mathlib.Core.Option.{none, some}
use mathlib.Core.List.{List, [], ◌∷◌, ◌++◌}
use mathlib.Core.Path.{◌≡◌, refl, sym, ap, ◌∙◌}
use lib.Dec.{eqb}
use lib.ListN.{length, drop, get_or, set, replicate, length-set, length-replicate, get_or-replicate}
use lib.Seq.{sets, sets-eq, ext_get_or, get_or-set_same, get_or-set_other, take-append_seam}
use borrow.Author.Tests.{eqb-true, eqb-false}
use Rattle.laws.proofs.Bools.{from_true, eqb_not}
use Rattle.model.proofs.Find.{find_lt}
use Rattle.model.specs.Scheme.{no_type}
use Rattle.model.specs.Request.{Thing}
use Rattle.model.specs.Seats.{among, find, known, seat, thing_in, thing_at, no_things, with_highest, put_thing}
use Rattle.model.specs.declared.Things.{Things}
use Rattle.matrix_records.specs.Content.{ThingRecord, nobody, record_in, seated, taken, listed}
use Rattle.matrix_records.specs.Read.{thing_with}
use Rattle.matrix_records.proofs.Listed.{ids, seated_length, seated_at, seated_ids}
use Rattle.matrix_bytes.specs.Content.{seat_all, things_from}

-- the arrays of a memory are as long as there are seats
pub record Room (th : Things) : Type 0 where
  pub ids : length th.ids ≡ 48
  pub types : length th.types ≡ 48
  pub marks : length th.marks ≡ 48

-- ---- one thing put at a seat
module _ (p x : ℕ) (t : Thing) (th : Things) (r : Room th) where
  put_room : Room (put_thing p x t th)
  unfolding put_thing
  put_room = record {
    ids = length-set th.ids p x ∙ r.ids;
    types = length-set th.types p t.type ∙ r.types;
    marks = length-set th.marks p t.on_hold ∙ r.marks;
  }

  put_at : p < 48 → (i : ℕ) → i < 48 → record_in (put_thing p x t th) i ≡ get_or (set (seated th) p (record { id = x; thing = t })) i nobody
  unfolding record_in put_thing thing_in
  put_at l i h = by (eqb i p) refl
    where
      by : (b : Bool) → eqb i p ≡ b → record_in (put_thing p x t th) i ≡ get_or (set (seated th) p (record { id = x; thing = t })) i nobody
      by true q =
          let e : i ≡ p = eqb-true i p q in
          rw (
            e,
            get_or-set_same (seated th) p _ nobody (rw (seated_length th) l),
            get_or-set_same th.ids p x 0 (rw r.ids l),
            get_or-set_same th.types p t.type no_type (rw r.types l),
            get_or-set_same th.marks p t.on_hold false (rw r.marks l),
          )
      by false q =
          let n = eqb-false i p q in
          rw (
            get_or-set_other (seated th) p i _ nobody n,
            seated_at th i h,
            get_or-set_other th.ids p i x 0 n,
            get_or-set_other th.types p i t.type no_type n,
            get_or-set_other th.marks p i t.on_hold false n,
          )

  put_seated : p < 48 → seated (put_thing p x t th) ≡ set (seated th) p (record { id = x; thing = t })
  put_seated l =
      ext_get_or nobody _ _ (seated_length _ ∙ sym (length-set (seated th) p _ ∙ seated_length th))
      (λ i h. let k : i < 48 = rw (seated_length _) at h in seated_at _ i k ∙ put_at l i k)

-- ---- all of them
pub seat_room : (i : ℕ) (ts : List ThingRecord) (th : Things) → Room th → Room (seat_all i ts th)
unfolding seat_all
seat_room i [] th r = r
seat_room i (t ∷ ts) th r = seat_room (suc i) ts _ (put_room i t.id t.thing th r)

seat_all_lem : (i : ℕ) (ts : List ThingRecord) (th : Things) → Room th → i + length ts ≤ 48 → seated (seat_all i ts th) ≡ sets (seated th) i ts
unfolding seat_all
seat_all_lem i [] th r l = refl
seat_all_lem i (t ∷ ts) th r l =
    seat_all_lem (suc i) ts _ (put_room i t.id t.thing th r) (omega arith)
    ∙ ap (λ (us : List ThingRecord). sets us (suc i) ts) (put_seated i t.id t.thing th r (omega arith))

-- before any of them: every seat is free
abbrev start : ℕ → Things
start highest = with_highest highest no_things

none_room : (highest : ℕ) → Room (start highest)
none_room highest = record { ids = length-replicate {A = ℕ} 48 0; types = length-replicate 48 no_type; marks = length-replicate 48 false }

none_seated : (highest : ℕ) → seated (start highest) ≡ replicate 48 nobody
unfolding record_in thing_in
none_seated highest =
    ext_get_or nobody _ _ (seated_length (start highest) ∙ sym (length-replicate 48 nobody))
    (λ i h. let k : i < 48 = rw (seated_length (start highest)) at h in
    seated_at (start highest) i k ∙ rw (get_or-replicate {A = ℕ} 48 i 0 0 k, get_or-replicate 48 i no_type no_type k, get_or-replicate 48 i false false k) (sym (get_or-replicate 48 i nobody nobody k)))

drop_replicate : {A : Type 0} (i n : ℕ) (a : A) → drop i (replicate n a) ≡ replicate (n - i) a
drop_replicate zero n a = rw sub-zero
drop_replicate (suc i) zero a = let e : 0 - suc i ≡ 0 = omega arith in rw e
drop_replicate (suc i) (suc n) a = let e : suc n - suc i ≡ n - i = omega arith in rw e (drop_replicate i n a)

-- the seats that a list takes, and the free ones behind them
abbrev pub free : List ThingRecord → List ThingRecord
free ts = replicate (48 - length ts) nobody

pub from_room : (highest : ℕ) (ts : List ThingRecord) → Room (things_from highest ts)
unfolding things_from
from_room highest ts = seat_room 0 ts (start highest) (none_room highest)

module _ (highest : ℕ) (ts : List ThingRecord) (few : length ts ≤ 48) where
  pub from_seated : seated (things_from highest ts) ≡ ts ++ free ts
  unfolding things_from
  from_seated =
      let l : 0 + length ts ≤ length (replicate 48 nobody) = rw (length-replicate 48 nobody) (omega arith) in
      seat_all_lem 0 ts (start highest) (none_room highest) (omega arith) ∙ rw (none_seated highest) (sets-eq ts (replicate 48 nobody) 0 l ∙ rw (zero-add, drop_replicate))

  pub from_listed : taken ts ≡ ts → listed (length ts) (things_from highest ts) ≡ ts
  unfolding listed
  from_listed e = rw (from_seated, take-append_seam ts (free ts)) e

  pub from_at : (i : ℕ) → i < 48 → record_in (things_from highest ts) i ≡ get_or ts i nobody
  from_at i h = sym (seated_at (things_from highest ts) i h) ∙ rw from_seated (behind (48 - length ts) ts i)
    where
      behind : (n : ℕ) (us : List ThingRecord) (i : ℕ) → get_or (us ++ replicate n nobody) i nobody ≡ get_or us i nobody
      behind zero [] i = refl
      behind (suc n) [] zero = refl
      behind (suc n) [] (suc i) = behind n [] i
      behind n (u ∷ us) zero = refl
      behind n (u ∷ us) (suc i) = behind n us i

-- one more takes the seat behind them
seat_next : (i : ℕ) (ts : List ThingRecord) (t : ThingRecord) (th : Things) →
    seat_all i (ts ++ t ∷ []) th ≡ put_thing (i + length ts) t.id t.thing (seat_all i ts th)
unfolding seat_all
seat_next i [] t th = rw add-zero
seat_next i (u ∷ ts) t th = seat_next (suc i) ts t _ ∙ rw (suc-add, add-suc)

pub from_next : (highest : ℕ) (ts : List ThingRecord) (t : ThingRecord) →
    things_from highest (ts ++ t ∷ []) ≡ put_thing (length ts) t.id t.thing (things_from highest ts)
unfolding things_from
from_next highest ts t = seat_next 0 ts t (start highest) ∙ rw zero-add

-- no id is above this; then the highest stays as it is
abbrev pub UpTo : ℕ → List ThingRecord → Type 0
UpTo highest [] = Unit {0}
UpTo highest (t ∷ ts) = (t.id ≤ highest) × UpTo highest ts

seat_highest : (i : ℕ) (ts : List ThingRecord) (th : Things) → UpTo th.highest ts → (seat_all i ts th).highest ≡ th.highest
unfolding seat_all put_thing
seat_highest i [] th u = refl
seat_highest i (t ∷ ts) th u =
    let same : max th.highest t.id ≡ th.highest = omega (arith, u.0) in
    seat_highest (suc i) ts (put_thing i t.id t.thing th) (rw same u.1) ∙ same

pub from_highest : (highest : ℕ) (ts : List ThingRecord) → UpTo highest ts → (things_from highest ts).highest ≡ highest
unfolding things_from
from_highest highest ts u = seat_highest 0 ts (start highest) u

-- ---- a thing of a memory, as the one with its id among the seats
pub with_among : (ts : List ThingRecord) (x : ℕ) → thing_with ts x ≡ cond (among (ids ts) x) (some (get_or ts (find (ids ts) x) nobody).thing) none
unfolding thing_with among find
with_among [] x = refl
with_among (t ∷ ts) x = go (eqb t.id x) (with_among ts x)
  where
    go : (b : Bool) → thing_with ts x ≡ cond (among (ids ts) x) (some (get_or ts (find (ids ts) x) nobody).thing) none →
        cond b (some t.thing) (thing_with ts x)
        ≡ cond (b || among (ids ts) x) (some (get_or (t ∷ ts) (cond b zero (suc (find (ids ts) x))) nobody).thing) none
    go true e = refl
    go false e = e

pub no_zero : (th : Things) → thing_at th 0 ≡ none
unfolding thing_at known
no_zero th = refl

pub thing_seated : (th : Things) → length th.ids ≡ 48 → (x : ℕ) → x ≢ 0 → thing_at th x ≡ thing_with (seated th) x
unfolding thing_at known seat record_in
thing_seated th room x nz = rw (eqb_not x 0 nz, with_among (seated th) x, seated_ids th room) (go (among th.ids x) refl)
  where
    go : (b : Bool) → among th.ids x ≡ b →
        cond b (some (thing_in th (find th.ids x))) none ≡ cond b (some (get_or (seated th) (find th.ids x) nobody).thing) none
    go true e = rw (seated_at th (find th.ids x) (rw room at (find_lt th.ids x (from_true e))))
    go false e = refl
