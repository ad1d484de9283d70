-- Both round trips of a matrix: from its content to bytes and back, and from bytes to a content and back.
-- Assumes nothing.
use Prim.Native.Nat.{ℕ, ◌≤◌, ◌<◌}
use mathlib.Core.Path.{◌≡◌, refl, sym, subst, ◌∙◌}
use mathlib.Core.Bool.{Bool, true, false, cond, ◌&&◌}
use mathlib.Core.List.{List, ◌++◌, append-nil, append_assoc}
use native.Mathlib.Omega.{arith}
use lib.Dec.{T, leb}
use lib.ListN.{length}
use lib.Seq.{drop-length}
use borrow.Author.Tests.{leb-true, leb-false}
use Rattle.laws.specs.Check.{passes}
use Rattle.model.specs.Seats.{Matrix, known, seat, paper_things, stands_for}
use Rattle.model.specs.Accepted.{head_fault, accepted_scheme}
use Rattle.model.specs.declared.Head.{Head}
use Rattle.model.specs.declared.Scheme.{Scheme}
use Rattle.laws.proofs.Bools.{is_false, and_left}
use Rattle.model.proofs.Held.{Held}
use Rattle.model.proofs.HeldLaws.{ids_small, held, accepted}
use Rattle.model.proofs.Find.{seat_is}
use Rattle.model.proofs.SeatChange.{things_eq, state_eq}
use Rattle.records.specs.Bytes.{record_bytes}
use Rattle.records.specs.Reading.{got}
use Rattle.records.specs.Front.{in_record}
use Rattle.records.proofs.Trip.{Bytes, Stand, bind_got, stand_split, stand_join}
use Rattle.matrix_records.specs.Content.{Stated, ThingRecord, CellRecord}
use Rattle.matrix_records.specs.Read.{head}
use Rattle.matrix_records.specs.Write.{head_bytes}
use Rattle.matrix_records.proofs.Trips.{Sized, head_sized, head_record}
use Rattle.matrix_bytes.specs.Content.{things_of, cells_of, matrix_from, reseated}
use Rattle.matrix_bytes.specs.Read.{rest, matrix}
use Rattle.matrix_bytes.specs.Write.{matrix_bytes}
use Rattle.matrix_bytes.specs.Promises.{RoundTrips}
use Rattle.matrix_bytes.proofs.Seating.{from_highest}
use Rattle.matrix_bytes.proofs.Rising.{ThingsOk, from_thing, things_ok, things_with, things_again}
use Rattle.matrix_bytes.proofs.Cells.{cells_between, cells_each, cells_at}
use Rattle.matrix_bytes.proofs.Stored.{from_accepted, from_rights, cells_again}
use Rattle.matrix_bytes.proofs.Trips.{stand_le}
use Rattle.matrix_bytes.proofs.RestTrips.{ContentOk, things, cells, content, rest_there, rest_back}

pub head_passes : (s : Scheme) → T (accepted_scheme s) → T (passes (head_fault s.head))
unfolding accepted_scheme
head_passes s t = search and_left

pub sized : (s : Scheme) → T (accepted_scheme s) → Sized s.head
sized s t = head_sized s.head (head_passes s t)

-- an id above 65535 is no thing's
too_high : (h : Head) (m : Matrix) → Held h m → (x y : ℕ) → 65535 < y → (stands_for m).rights x y ≡ 0
unfolding stands_for
too_high h m ok x y l = rw (is_false (known m.things y) unknown) (go (known m.things x) _)
  where
    unknown : T (known m.things y) → ⊥
    unknown k = omega (arith, seat_is m.things y k, ids_small h m.things ok.things (seat m.things y))

    go : (b : Bool) (v : ℕ) → cond (b && false) v 0 ≡ 0
    go true v = refl
    go false v = refl

-- ---- the things by rising id, and the cells by rising place, say the same
pub same_content_lem : (h : Head) (m : Matrix) → Held h m → stands_for (reseated h m) ≡ stands_for m
unfolding stands_for paper_things matrix_from
same_content_lem h m ok =
    state_eq _ _ (things_eq _ _ (λ x. from_thing h highest (things_of m) listed x ∙ things_with h m ok x) (from_highest highest (things_of m) listed.below))
    (λ x y. go x y (leb y 65535) refl)
  where
    highest : ℕ
    highest = m.things.highest

    listed : ThingsOk h highest (things_of m)
    listed = things_ok h m ok

    M : Matrix
    M = reseated h m

    again : Held h M
    again = from_accepted h highest (things_of m) listed (cells_of h m) (cells_each h m ok)

    go : (x y : ℕ) (b : Bool) → leb y 65535 ≡ b → (stands_for M).rights x y ≡ (stands_for m).rights x y
    go x y true e =
        let l : y ≤ 65535 = leb-true y 65535 e in
        from_rights h highest (things_of m) listed (cells_of h m) (cells_each h m ok) (cells_between h m ok) x y l ∙ cells_at h m ok x y l
    go x y false e =
        let l : 65535 < y = leb-false y 65535 e in
        too_high h M again x y l ∙ sym (too_high h m ok x y l)

-- a whole input stands in itself
pub stand_all : (s : List ℕ) → Stand s s 0 (length s)
stand_all s = record { next = omega arith; bytes = sym (rw (drop-length s) (append-nil s)) }

-- and nothing else stands in it from the first byte to the last
pub stand_whole : (s v : List ℕ) (k : ℕ) → Stand s v 0 k → k ≡ length s → s ≡ v
stand_whole s v k r e = rw (e, drop-length, append-nil) at r.bytes

-- a head, and what may stand behind it: these are the bytes of the matrix that they make
pub content_bytes : (h : Head) (st : Stated) (ts : List ThingRecord) (cs : List CellRecord) → ContentOk h st.highest ts cs → length ts ≡ st.count →
    record_bytes 7 (head_bytes h.rights st) ++ content ts cs ≡ matrix_bytes h (matrix_from st.highest ts cs)
unfolding matrix_bytes matrix_from
content_bytes h st ts cs ok n =
    let same_things = things_again h st.highest ts ok.listed cs in
    let same_cells = cells_again h st.highest ts ok.listed cs ok.each ok.between in
    let same_highest = from_highest st.highest ts ok.listed.below in
    rw (same_things, same_cells, same_highest, n) (sym (append_assoc (record_bytes 7 (head_bytes h.rights st)) (things ts) (cells cs)))

module _ (h : Head) (z : Sized h) where
  -- ---- written, then read
  pub there : (m : Matrix) → Held h m → matrix h (matrix_bytes h m) 0 ≡ got (reseated h m) (length (matrix_bytes h m))
  unfolding matrix matrix_bytes
  there m ok =
      let s : List ℕ = matrix_bytes h m in
      let stated : Stated = record { count = length (things_of m); highest = m.things.highest } in
      let first : List ℕ = record_bytes 7 (head_bytes h.rights stated) in
      let fine : ContentOk h m.things.highest (things_of m) (cells_of h m) =
      record { listed = things_ok h m ok; between = cells_between h m ok; each = cells_each h m ok } in
      let whole : Stand s (first ++ content (things_of m) (cells_of h m)) 0 (length s) =
      subst (λ (v : List ℕ). Stand s v 0 (length s)) (append_assoc first (things (things_of m)) (cells (cells_of h m))) (stand_all s) in
      let (i, a, b) = stand_split s first (content (things_of m) (cells_of h m)) whole in
      let head-is = (head_record h z s).there stated (record { few = fine.listed.few; reach = fine.listed.reach }) 0 i a in
      rw (head-is, rest_there h z s m.things.highest (things_of m) (cells_of h m) fine i b)

  -- ---- read, then written
  abbrev pub Written : List ℕ → Matrix → ℕ → Type 0
  Written s m next = Held h m × (s ≡ matrix_bytes h m) × (next ≡ length s)

  written : (s : List ℕ) → Bytes s → (st : Stated) (i k : ℕ) (m : Matrix) → in_record s 128 (λ kind. head h) 0 ≡ got st i →
      rest h st.highest st.count s i ≡ got m k → Written s m k
  written s g st i k m e f =
      let (a, ok) = (head_record h z s).back 0 i st g e in
      let first : List ℕ = record_bytes 7 (head_bytes h.rights st) in
      let w = rest_back h z s st.highest st.count i ok.reach ok.few (stand_le a (omega arith)) g m k f in
      let all : Stand s (first ++ content w.its w.filled) 0 k = stand_join s first (content w.its w.filled) a w.stands in
      let same = stand_whole s _ k all w.end ∙ content_bytes h st w.its w.filled w.fine w.many in
      rw w.is (from_accepted h st.highest w.its w.fine.listed w.filled w.fine.each, same, w.end)

  pub back : (s : List ℕ) (m : Matrix) (next : ℕ) → Bytes s → matrix h s 0 ≡ got m next → Written s m next
  unfolding matrix
  back s m next g e =
      let (st, i, e1, f1) = bind_got (in_record s 128 (λ kind. head h) 0) _ e in
      written s g st i next m e1 f1

pub round_trips : RoundTrips
round_trips = record {
  there = λ s m t u. there s.head (sized s t) m (held s.head m u);
  same_content = λ s m t u. same_content_lem s.head m (held s.head m u);
  back = λ s bytes m next t g e. let (ok, same, end) = back s.head (sized s t) bytes m next g e in (accepted s.head m ok, same, end);
}
