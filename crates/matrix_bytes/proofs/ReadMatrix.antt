-- Reading a matrix, as the returns of those functions have it: its records in order, and a matrix made of what they say.
-- Assumes nothing.
use Prim.Native.Nat.{ℕ, zero, suc, ◌≤◌, ◌<◌}
use native.Mathlib.Omega.{arith}
use mathlib.Core.Bool.{Bool, true, false, cond, ◌&&◌}
use mathlib.Core.List.{List, [], ◌∷◌}
use mathlib.Core.Path.{◌≡◌, refl, ◌∙◌}
use lib.Dec.{T, eqb, leb, eqb→eq, leb→le}
use lib.ListN.{length, take, replicate}
use borrow.Author.Tests.{eq-eqb, le-leb}
use Rattle.std.specs.Prelude.{Result, Err}
use Rattle.model.specs.Seats.{find, seat, place}
use Rattle.model.specs.Accepted.{accepted_head, accepted_scheme}
use Rattle.model.specs.declared.Head.{Head}
use Rattle.model.specs.declared.Scheme.{Scheme}
use Rattle.model.specs.declared.Things.{Things}
use Rattle.laws.proofs.Bools.{is_true, is_false, and_left, and_right}
use Rattle.records.specs.Reading.{Read, got, fault, bind, done}
use Rattle.records.specs.Front.{Refusal, in_record}
use Rattle.records.specs.Results.{item_of, refused}
use Rattle.records.specs.declared.Refused as result
use Rattle.records.proofs.Trip.{Bytes}
use Rattle.matrix_records.specs.Content.{ThingRecord, CellRecord, listed}
use Rattle.matrix_records.specs.Read.{cell, start}
use Rattle.matrix_records.specs.Answers.{kind_at, place_in, named, found_head, read_head}
use Rattle.matrix_records.proofs.Listed.{listed_near}
use Rattle.matrix_records.proofs.Trips.{CellOk, row_thing_lem, head_sized}
use Rattle.matrix_records.proofs.ReadBack.{head_opened, item_stopped}
use Rattle.matrix_bytes.specs.Content.{things_from, store, store_all, matrix_from}
use Rattle.matrix_bytes.specs.Read.{to_end, rest, matrix}
use Rattle.matrix_bytes.specs.Answers.{as_matrix, matrix_result, read_matrix, read_matrix_by_head, read_rest}
use Rattle.matrix_bytes.specs.Inner.Parts.{cells_from, stored_in}
use Rattle.matrix_bytes.specs.MatrixAnswer.{MatrixAnswer}
use Rattle.matrix_bytes.proofs.Seating.{from_room, from_listed}
use Rattle.matrix_bytes.proofs.Spots.{EachCell}
use Rattle.matrix_bytes.proofs.Spots.EachCell.{no as no_cell, also}
use Rattle.matrix_bytes.proofs.Trips.{cells_back}
use Rattle.matrix_bytes.proofs.Rising.{taken_rising}
use Rattle.matrix_bytes.proofs.RoundTrips.{head_passes}
use Rattle.matrix_bytes.proofs.ReadCells.{refused_at, finished}
use Rattle.matrix_bytes.proofs.ReadThings.{head_read, things_read, things_end}

-- where a reading ended, and what the lent things and cells then hold
abbrev Lent : Type 0
Lent = Result ℕ result.Refused × Things × List ℕ

-- ---- the cells of a matrix stand where its things' seats say

find_taken : (n : ℕ) (ids : List ℕ) (x : ℕ) → find (take n ids) x < n → find (take n ids) x ≡ find ids x
unfolding find
find_taken zero ids x l = absurd (omega arith)
find_taken (suc n) [] x l = refl
find_taken (suc n) (y ∷ ys) x l = go (eqb y x) l (find_taken n ys x)
  where
    go : (b : Bool) → cond b zero (suc (find (take n ys) x)) < suc n → (find (take n ys) x < n → find (take n ys) x ≡ find ys x) →
        cond b zero (suc (find (take n ys) x)) ≡ cond b zero (suc (find ys x))
    go true l f = refl
    go false l f = rw (f (omega arith))

module _ (h : Head) (th : Things) (n : ℕ) (room : length th.ids ≡ 48) where
  abbrev first_of : List ThingRecord
  first_of = listed n th

  same_place : (c : CellRecord) → CellOk h first_of c → place_in n th.ids c ≡ place th c.row c.column
  unfolding place_in place seat
  same_place c ok =
      let i = listed_near th n room c.row (row_thing_lem h _ ok.row_is) in
      let j = listed_near th n room c.column ok.column_is in
      rw (find_taken n th.ids c.row (omega arith), find_taken n th.ids c.column (omega arith))

  stored_all : {cs : List CellRecord} → EachCell (CellOk h first_of) cs → (cells : List ℕ) → stored_in n th.ids cells cs ≡ store_all th cells cs
  unfolding stored_in store_all store
  stored_all no_cell cells = refl
  stored_all (also {c = c} p q) cells = rw (same_place c p) (stored_all q (store th cells c))

-- ---- what stands behind a head
module _ (s : List ℕ) (h : Head) (things : Things) (cells : List ℕ) (highest count at : ℕ) where
  abbrev behind : MatrixAnswer × List ℕ
  behind = as_matrix things cells (rest h highest count s at)

  pub rest_no_things : {r : result.Refused} → Err r ≡ item_of (named (things_from highest) (things_read s h highest count at)) →
      ◌≡◌ {A = Lent} (Err r, things, cells) (matrix_result behind)
  unfolding rest
  rest_no_things {r} e = go (item_stopped (things_from highest) (things_read s h highest count at) e)
    where
      go : (g : Refusal) × (things_read s h highest count at ≡ fault g) × (r ≡ refused g.number g.at) → ◌≡◌ {A = Lent} (Err r, things, cells) (matrix_result behind)
      go (g, is, same) = rw (is, same)

  module _ (ts : List ThingRecord) (next : ℕ) (f : things_read s h highest count at ≡ got ts next) where
    abbrev its : Things
    its = things_from highest ts

    abbrev cells_on : List ThingRecord → Read ℕ Refusal (List CellRecord)
    cells_on ts = to_end s (λ last. in_record s 32 (λ kind. cell h ts last)) (λ last c. c) (length s) start next

    same_answer : (m : Read ℕ Refusal (List CellRecord)) →
        ((cs : List CellRecord) (j : ℕ) → m ≡ got cs j → stored_in count its.ids (replicate 2304 0) cs ≡ store_all its (replicate 2304 0) cs) →
        finished count its things cells m ≡ as_matrix things cells (bind m (λ cs. done (matrix_from highest ts cs)))
    unfolding matrix_from finished
    same_answer (got cs j) k = rw (k cs j refl)
    same_answer (fault f) k = refl

    pub rest_done : T (accepted_head h) → Bytes s → count ≤ 48 → at ≤ length s → (th : Things) → th ≡ its →
        finished count th things cells (cells_from s h th count next) ≡ behind
    unfolding rest
    rest_done ok g least near th et =
        let z = head_sized h ok in
        let (rise, n, on) = things_end s h z g highest count at near ts next f in
        let few : length ts ≤ 48 = omega arith in
        let all : listed count its ≡ ts = rw (← n) (from_listed highest ts few (taken_rising h 0 ts rise)) in
        let same = same_answer (cells_on ts) (λ cs j c. stored_all h its count (from_room highest ts).ids
        (rw all (cells_back h z s ts g next j cs on c).2) (replicate 2304 0)) in
        rw (et, all, f) same

-- what a test refuses doesn't hold
pub refuted : {b : Bool} → false ≡ b → T b → ⊥
refuted e t = rw (← e) at t

-- ---- the same from any position on
module _ (s : List ℕ) (at : ℕ) (h : Head) (highest count : ℕ) (things : Things) (cells : List ℕ) where
  -- what must hold of a head that was read, and of the cells
  abbrev Fits : Type 0
  Fits = T (accepted_head h) × (count ≤ 48) × (at ≤ length s) × (length cells ≡ 2304)

  abbrev fits : Bool
  fits = accepted_head h && leb count 48 && leb at (length s) && eqb (length cells) 2304

  pub rest_refused : (Fits → ⊥) → ◌≡◌ {A = MatrixAnswer × List ℕ} (refused_at things 27 0, cells) (read_rest s at h highest count things cells)
  unfolding read_rest
  rest_refused n = rw (is_false fits (λ t. n (search (and_left, and_right, leb→le, eqb→eq))))

  pub rest_opened : Fits → read_rest s at h highest count things cells ≡ as_matrix things cells (rest h highest count s at)
  unfolding read_rest
  rest_opened (ok, few, near, room) = rw (is_true (accepted_head h) ok, le-leb count 48 few, le-leb at (length s) near, eq-eqb (length cells) 2304 room)

-- ---- a matrix
module _ (s : List ℕ) (h : Head) (things : Things) (cells : List ℕ) where
  abbrev answered : MatrixAnswer × List ℕ
  answered = read_matrix_by_head s h things cells

  pub matrix_refused : (T (accepted_head h) × (length cells ≡ 2304) → ⊥) → ◌≡◌ {A = MatrixAnswer × List ℕ} (refused_at things 27 0, cells) answered
  unfolding read_matrix_by_head
  matrix_refused n = rw (is_false (accepted_head h && eqb (length cells) 2304) (λ t. n (search (and_left, and_right, eqb→eq))))

  module _ (ok : T (accepted_head h)) (room : length cells ≡ 2304) where
    read_opened : answered ≡ as_matrix things cells (matrix h s 0)
    unfolding read_matrix_by_head
    read_opened = rw (is_true (accepted_head h) ok, eq-eqb (length cells) 2304 room)

    pub matrix_no_head : {r : result.Refused} → Err r ≡ read_head s 0 128 h → ◌≡◌ {A = Lent} (Err r, things, cells) (matrix_result answered)
    unfolding matrix
    matrix_no_head {r} e = go (item_stopped (found_head (kind_at s 0)) (head_read s h) (e ∙ head_opened s 0 128 h ok))
      where
        go : (g : Refusal) × (head_read s h ≡ fault g) × (r ≡ refused g.number g.at) → ◌≡◌ {A = Lent} (Err r, things, cells) (matrix_result answered)
        go (g, is, same) = rw (read_opened, is, same)

    pub matrix_rest : {count highest at : ℕ} → head_read s h ≡ got (record { count = count; highest = highest }) at →
        as_matrix things cells (rest h highest count s at) ≡ answered
    unfolding matrix
    matrix_rest e = rw (read_opened, e)

-- ---- against a whole scheme
module _ (bytes : List ℕ) (s : Scheme) (things : Things) (cells : List ℕ) where
  pub matrix_scheme : accepted_scheme s ≡ false → ◌≡◌ {A = MatrixAnswer × List ℕ} (refused_at things 27 0, cells) (read_matrix bytes s things cells)
  unfolding read_matrix
  matrix_scheme e = rw e

  pub by_head : T (accepted_scheme s) → read_matrix bytes s things cells ≡ read_matrix_by_head bytes s.head things cells
  unfolding read_matrix read_matrix_by_head
  by_head t = rw (is_true (accepted_scheme s) t, is_true (accepted_head s.head) (head_passes s t))
