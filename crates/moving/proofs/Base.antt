-- What a robot that hasn't been updated reads of an old image: the base's reading beside the one here, line by line.
-- Assumes nothing.
use Prim.Native.Nat.{ℕ, ◌<◌, ◌≤◌}
use native.Mathlib.Decide.{dec_lt}
use native.Mathlib.Omega.{arith}
use mathlib.Core.Bool.{true, false}
use mathlib.Core.Logic.{inl, inr}
use mathlib.Core.List.{List, []}
use mathlib.Core.Path.{◌≡◌, refl, sym, ap, subst, ◌∙◌}
use lib.Dec.{eqb}
use lib.ListN.{length, get_or, get_or-eq_default}
use Rattle.laws.proofs.Differ.{constructors_differ}
use Rattle.model.specs.Seats.{Matrix, thing_in}
use Rattle.model.specs.declared.Head.{Head}
use Rattle.records.specs.Bytes.{part}
use Rattle.records.specs.Reading.{Read, got, fault, Reader, bind, check, done, ◌>>=◌, field}
use Rattle.records.specs.Front.{Refusal, in_record}
use Rattle.records.specs.Results.{value_of}
use Rattle.records.proofs.FieldLaws.{field_between}
use Rattle.records.proofs.Trip.{Bytes}
use Rattle.records.proofs.TripRecord.{in_record_back}
use Rattle.matrix_records.specs.Content.{ThingRecord, CellRecord, nobody, record_in}
use Rattle.matrix_records.specs.Read.{cell, start}
use Rattle.matrix_bytes.specs.Content.{things_from, matrix_from}
use Rattle.matrix_bytes.specs.Read.{to_end, rest}
use Rattle.matrix_bytes.proofs.Seating.{from_room, from_at}
use Rattle.moving.specs.Old.{old_head, old_content, old_matrix, by_listed}
use Rattle.moving.specs.Base.{base_matrix, BaseReads, AsTheBase}
use Rattle.moving.proofs.ListedLaws.{listed_from, listed_zero}
use Rattle.moving.proofs.Beside.{Gives, gives_done, gives_then, gives_last, gives_many, Beside, beside_then}
use Rattle.moving.proofs.BaseThings.{here, base_all, here_all, things_beside}

-- ---- the head states no more things than there are seats
head_few : (h : Head) (l : List ℕ) → Gives (λ count. count ≤ 48) (old_head h l)
unfolding old_head
head_few h l =
    gives_last (field 1 65 4 l) _ λ n i. gives_last (check (eqb n h.rights) 6 i) _ λ same j.
    λ count k e. omega (arith, (field_between j 0 49 4 count (ap value_of e)).1)

record_few : (h : Head) (s : List ℕ) (at : ℕ) → Gives (λ count. count ≤ 48) (in_record s 8 (λ kind. old_head h) at)
record_few h s at count next e =
    let (kind, start, len, f, r, n) = in_record_back s 8 (λ kind. old_head h) at e in
    head_few h (part s start len) count [] r

-- ---- the marks by seat are the things' own
mark_at : (x : ℕ) (ts : List ThingRecord) → length ts ≤ 48 → (i : ℕ) → get_or (things_from x ts).marks i false ≡ (get_or ts i nobody).thing.on_hold
unfolding record_in thing_in
mark_at x ts few i = go (dec_lt i 48)
  where
    go : Dec (i < 48) → get_or (things_from x ts).marks i false ≡ (get_or ts i nobody).thing.on_hold
    go (yes l) = ap (λ (t : ThingRecord). t.thing.on_hold) (from_at x ts few i l)
    go (no l) =
        get_or-eq_default (things_from x ts).marks false (omega (arith, l, (from_room x ts).marks))
        ∙ ap (λ (t : ThingRecord). t.thing.on_hold) (sym (get_or-eq_default ts nobody (omega (arith, l))))

abbrev NoMark : Matrix → Type 0
NoMark m = (i : ℕ) → get_or m.things.marks i false ≡ false

abbrev SomeMark : Matrix → Type 0
SomeMark m = (i : ℕ) × (get_or m.things.marks i false ≡ true)

-- ---- cells that were read make the same matrix both ways, with the things' own marks
abbrev to_listed : Read ℕ Refusal Matrix → Read ℕ Refusal Matrix
to_listed r = bind r (λ m. done (by_listed m))

module _ (ts : List ThingRecord) (few : length ts ≤ 48) (r : Read ℕ Refusal (List CellRecord)) where
  abbrev seated_by : ℕ → Read ℕ Refusal Matrix
  seated_by x = bind r (λ cs. done (matrix_from x ts cs))

  same_matrix : seated_by 0 ≡ to_listed (seated_by 65535)
  same_matrix = go r
    where
      go : (q : Read ℕ Refusal (List CellRecord)) → bind q (λ cs. done (matrix_from 0 ts cs)) ≡ to_listed (bind q (λ cs. done (matrix_from 65535 ts cs)))
      go (got cs i) = ap (λ (m : Matrix). got m i) (listed_zero ts cs ∙ sym (listed_from 65535 ts cs few))
      go (fault k) = refl

  abbrev OwnMarks : Matrix → Type 0
  OwnMarks m = (i : ℕ) → get_or m.things.marks i false ≡ (get_or ts i nobody).thing.on_hold

  own_marks : Gives OwnMarks (to_listed (seated_by 65535))
  unfolding by_listed matrix_from
  own_marks =
      gives_then (seated_by 65535) _ {P = OwnMarks} (gives_last r _ λ cs i. gives_done OwnMarks (mark_at 65535 ts few))
      λ m i own. gives_done OwnMarks own

-- ---- line by line
bind_bind : {I F A B C : Type 0} (r : Read I F A) (f : A → Reader I F B) (g : B → Reader I F C) → bind r (λ a i. bind (f a i) g) ≡ bind (bind r f) g
bind_bind (got a i) f g = refl
bind_bind (fault k) f g = refl

module _ (h : Head) (s : List ℕ) (g : Bytes s) where
  abbrev cells : List ThingRecord → Reader ℕ Refusal (List CellRecord)
  cells ts = to_end s (λ last. in_record s 32 (λ kind. cell h ts last)) (λ last c. c) (length s) start

  abbrev base_rest : ℕ → Reader ℕ Refusal Matrix
  base_rest count = base_all h s count 0 >>= λ ts. cells ts >>= λ cs. done (matrix_from 0 ts cs)

  rest_beside : (count at : ℕ) → count ≤ 48 → Beside s NoMark SomeMark (base_rest count at) (to_listed (rest h 65535 count s at))
  unfolding rest
  rest_beside count at few =
      subst (Beside s NoMark SomeMark (base_rest count at)) (bind_bind (here_all h s count 0 at) _ _)
      (beside_then s (base_all h s count 0 at) (here_all h s count 0 at) _ _ (things_beside h s g count 0 at)
      (λ ts i e none. inl (same_matrix ts (room ts i e) (cells ts i), λ m end f k. own_marks ts (room ts i e) (cells ts i) m end f k ∙ none k))
      (λ ts i e some m end f. (some.0, own_marks ts (room ts i e) (cells ts i) m end f some.0 ∙ some.1)))
    where
      room : (ts : List ThingRecord) (i : ℕ) → here_all h s count 0 at ≡ got ts i → length ts ≤ 48
      room ts i e = omega (arith, gives_many (λ last. here h last s) (λ last t. t.id) count 0 at ts i e)

  matrix_beside : Beside s NoMark SomeMark (base_matrix h s 0) (old_matrix h s 0)
  unfolding base_matrix old_matrix old_content
  matrix_beside =
      let first = in_record s 8 (λ kind. old_head h) 0 in
      subst (Beside s NoMark SomeMark (bind first base_rest)) (bind_bind first (λ count. rest h 65535 count s) _)
      (beside_then s {Marked = λ count. ⊥} first first _ _ (inl (refl, record_few h s 0))
      (λ count i e few. rest_beside count i few) (λ count i e held. absurd held))

  reads : Beside s NoMark SomeMark (base_matrix h s 0) (old_matrix h s 0) → BaseReads h s
  reads (inl b) = record {
    same = inl b.0;
    unmarked = λ m end e none. b.0 ∙ e;
    marked = λ m end e i t. let f = b.1 m end e i in constructors_differ (cc);
  }
  reads (inr b) = record {
    same = inr b.0;
    unmarked = λ m end e none. let (i, t) = b.1 m end e in let f = none i in constructors_differ (cc);
    marked = λ m end e i t. b.0;
  }

pub as_the_base : AsTheBase
as_the_base h s g = reads h s g (matrix_beside h s g)
