-- An image of either kind is a head and what stands behind it. What was read stood so, and what stands so is read; the image of the other kind has its head
-- before the same bytes.
-- Assumes nothing.
use Prim.Native.Nat.{ℕ, ◌≤◌}
use native.Mathlib.Omega.{arith}
use mathlib.Core.List.{List, [], ◌∷◌, ◌++◌}
use mathlib.Core.Path.{◌≡◌, refl}
use lib.ListN.{length}
use Rattle.model.specs.Seats.{Matrix}
use Rattle.model.specs.declared.Head.{Head}
use Rattle.records.specs.Bytes.{little_endian, record_bytes, part}
use Rattle.records.specs.Reading.{got}
use Rattle.records.specs.Front.{in_record}
use Rattle.records.proofs.Trip.{Bytes, Stand, bind_got, got_same, stand_split, stand_join}
use Rattle.matrix_records.specs.Content.{Stated, ThingRecord, CellRecord}
use Rattle.matrix_records.specs.Read.{head}
use Rattle.matrix_records.specs.Write.{head_bytes}
use Rattle.matrix_records.proofs.Listed.{ids}
use Rattle.matrix_records.proofs.Trips.{Sized, head_record}
use Rattle.matrix_bytes.specs.Content.{matrix_from}
use Rattle.matrix_bytes.specs.Read.{matrix}
use Rattle.matrix_bytes.proofs.RestTrips.{ContentOk, Found, content, rest_there, rest_back}
use Rattle.matrix_bytes.proofs.Rising.{Rising}
use Rattle.matrix_bytes.proofs.RoundTrips.{stand_all, stand_whole}
use Rattle.matrix_bytes.proofs.Seating.{UpTo}
use Rattle.matrix_bytes.proofs.Trips.{stand_le}
use Rattle.moving.specs.Moves.{new_image, old_image}
use Rattle.moving.specs.Old.{highest_of, old_head, old_content, by_listed, old_matrix}
use Rattle.moving.proofs.ListedLaws.{listed_from, up_to_listed}
use Rattle.moving.proofs.OldTrips.{old_head_record}

-- the highest id that is listed
abbrev pub top : List ThingRecord → ℕ
top ts = highest_of (ids ts)

-- ---- the two heads, and the image that has each
abbrev pub old_first : Head → ℕ → List ℕ
old_first h count = record_bytes 3 (h.rights ∷ count ∷ [])

abbrev pub new_first : Head → ℕ → ℕ → List ℕ
new_first h highest count = record_bytes 7 (head_bytes h.rights (record { count = count; highest = highest }))

abbrev pub old_bytes : Head → List ThingRecord → List CellRecord → List ℕ
old_bytes h ts cs = old_first h (length ts) ++ content ts cs

abbrev pub new_bytes : Head → ℕ → List ThingRecord → List CellRecord → List ℕ
new_bytes h highest ts cs = new_first h highest (length ts) ++ content ts cs

-- from one to the other
module _ (h : Head) (highest : ℕ) (ts : List ThingRecord) (cs : List CellRecord) where
  pub new_image_lem : new_image (old_bytes h ts cs) highest ≡ new_bytes h highest ts cs
  unfolding new_image part record_bytes little_endian head_bytes
  new_image_lem = refl

  pub old_image_lem : old_image (new_bytes h highest ts cs) ≡ old_bytes h ts cs
  unfolding old_image part record_bytes little_endian head_bytes
  old_image_lem = refl

-- ---- what may stand behind one head may stand behind another, from the highest listed id on
rising_up : (h : Head) (last : ℕ) (ts : List ThingRecord) → Rising h last ts → (top ts ≤ 65535) × UpTo 65535 ts
unfolding highest_of
rising_up h last [] r = (omega arith, tt)
rising_up h last (t ∷ ts) r = let (reach, up) = rising_up h t.id ts r.1 in (omega (arith, r.0.small), (r.0.small, up))

module _ {h : Head} {highest : ℕ} {ts : List ThingRecord} {cs : List CellRecord} (ok : ContentOk h highest ts cs) where
  up_to : (x : ℕ) → x ≤ 65535 → UpTo x ts → ContentOk h x ts cs
  up_to x reach below = record {
    listed = record { reach = reach; rise = ok.listed.rise; below = below; few = ok.listed.few };
    between = ok.between;
    each = ok.each;
  }

  pub by_listed_lem : ContentOk h (top ts) ts cs
  by_listed_lem = up_to (top ts) (rising_up h 0 ts ok.listed.rise).0 (up_to_listed ts)

  by_all : ContentOk h 65535 ts cs
  by_all = up_to 65535 (omega arith) (rising_up h 0 ts ok.listed.rise).1

-- ---- what a reading of a whole image found: a matrix of these things and cells, whose bytes stand behind the head
pub record Image (h : Head) (first : ℕ → List ℕ) (highest : List ThingRecord → ℕ) (s : List ℕ) (m : Matrix) (next : ℕ) : Type 0 where
  pub its : List ThingRecord
  pub filled : List CellRecord
  pub fine : ContentOk h (highest its) its filled
  pub is : m ≡ matrix_from (highest its) its filled
  pub whole : s ≡ first (length its) ++ content its filled
  pub end : next ≡ length s

-- so what holds of every such image holds of it
pub of_image : {h : Head} {first : ℕ → List ℕ} {highest : List ThingRecord → ℕ} {s : List ℕ} {m : Matrix} {next : ℕ} → Image h first highest s m next →
    (P : List ℕ → Matrix → ℕ → Type 0) →
    ((ts : List ThingRecord) (cs : List CellRecord) → ContentOk h (highest ts) ts cs →
    P (first (length ts) ++ content ts cs) (matrix_from (highest ts) ts cs) (length (first (length ts) ++ content ts cs))) → P s m next
of_image w P f = rw (w.end, w.is, w.whole) (f w.its w.filled w.fine)

found_image : (h : Head) (first : ℕ → List ℕ) (highest count i : ℕ) (s : List ℕ) (m : Matrix) (next : ℕ) → Stand s (first count) 0 i →
    Found h s highest count i m next → Image h first (λ ts. highest) s m next
found_image h first highest count i s m next a w =
    let all = stand_join s (first count) (content w.its w.filled) a w.stands in
    record { its = w.its; filled = w.filled; fine = w.fine; is = w.is; whole = rw w.many (stand_whole s _ next all w.end); end = w.end }

listed_image : (h : Head) (first : ℕ → List ℕ) (s : List ℕ) (m : Matrix) (next : ℕ) → Image h first (λ ts. 65535) s m next →
    Image h first top s (by_listed m) next
listed_image h first s m next w = record {
  its = w.its;
  filled = w.filled;
  fine = by_listed_lem w.fine;
  is = rw w.is (listed_from 65535 w.its w.filled w.fine.listed.few);
  whole = w.whole;
  end = w.end;
}

module _ (h : Head) (z : Sized h) where
  -- ---- read, so it stands there
  module _ (s : List ℕ) (g : Bytes s) (m : Matrix) (next : ℕ) where
    old_content_lem : old_content h s 0 ≡ got m next → Image h (old_first h) (λ ts. 65535) s m next
    unfolding old_content
    old_content_lem e =
        let (count, i, e1, f1) = bind_got (in_record s 8 (λ kind. old_head h) 0) _ e in
        let (a, few) = (old_head_record h z s).back 0 i count g e1 in
        let w = rest_back h z s 65535 count i (omega arith) few (stand_le a (omega arith)) g m next f1 in
        found_image h (old_first h) 65535 count i s m next a w

    pub new_back : matrix h s 0 ≡ got m next → (highest : ℕ) × Image h (new_first h highest) (λ ts. highest) s m next
    unfolding matrix
    new_back e =
        let (st, i, e1, f1) = bind_got (in_record s 128 (λ kind. head h) 0) _ e in
        let (a, ok) = (head_record h z s).back 0 i st g e1 in
        let w = rest_back h z s st.highest st.count i ok.reach ok.few (stand_le a (omega arith)) g m next f1 in
        (st.highest, found_image h (new_first h st.highest) st.highest st.count i s m next a w)

  pub old_back : (s : List ℕ) → Bytes s → (m : Matrix) (next : ℕ) → old_matrix h s 0 ≡ got m next → Image h (old_first h) top s m next
  unfolding old_matrix
  old_back s g m next e =
      let (n, i, e1, f1) = bind_got (old_content h s 0) _ e in
      got_same (Image h (old_first h) top s) f1 (listed_image h (old_first h) s n i (old_content_lem s g n i e1))

  -- ---- it stands there, so it is read
  module _ (highest : ℕ) (ts : List ThingRecord) (cs : List CellRecord) (ok : ContentOk h highest ts cs) where
    pub old_there : old_matrix h (old_bytes h ts cs) 0 ≡ got (matrix_from (top ts) ts cs) (length (old_bytes h ts cs))
    unfolding old_matrix old_content
    old_there =
        let s : List ℕ = old_bytes h ts cs in
        let (i, a, b) = stand_split s (old_first h (length ts)) (content ts cs) (stand_all s) in
        let head-is = (old_head_record h z s).there (length ts) ok.listed.few 0 i a in
        rw (head-is, rest_there h z s 65535 ts cs (by_all ok) i b, listed_from 65535 ts cs ok.listed.few)

    pub new_there : matrix h (new_bytes h highest ts cs) 0 ≡ got (matrix_from highest ts cs) (length (new_bytes h highest ts cs))
    unfolding matrix
    new_there =
        let s : List ℕ = new_bytes h highest ts cs in
        let (i, a, b) = stand_split s (new_first h highest (length ts)) (content ts cs) (stand_all s) in
        let stated : Stated = record { count = length ts; highest = highest } in
        let head-is = (head_record h z s).there stated (record { few = ok.listed.few; reach = ok.listed.reach }) 0 i a in
        rw (head-is, rest_there h z s highest ts cs ok i b)
