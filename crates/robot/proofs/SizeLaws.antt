-- An accepted matrix's bytes are at most 37,208: 8 of the head, 7 for each of at most 48 things, 16 for each of at most 48 times 48 cells.
-- Assumes nothing.
use Prim.Native.Nat.{ℕ, ◌*◌, ◌≤◌}
use native.Mathlib.Omega.{arith}
use mathlib.Core.Bool.{Bool, true, false, cond}
use mathlib.Core.List.{List, [], ◌∷◌, ◌++◌}
use lib.Dec.{T, eqb}
use lib.ListN.{length, length-append}
use Rattle.model.specs.Scheme.{is_subject}
use Rattle.model.specs.Seats.{Matrix, cell}
use Rattle.model.specs.Accepted.{accepted_matrix}
use Rattle.model.specs.declared.Head.{Head}
use Rattle.records.specs.Bytes.{record_bytes}
use Rattle.records.proofs.BytesLaws.{length_record, length_little_endian}
use Rattle.matrix_bytes.specs.Content.{things_of, row_of, rows_of, cells_of}
use Rattle.matrix_bytes.specs.Write.{matrix_bytes}
use Rattle.matrix_bytes.proofs.Rising.{rising_length}
use Rattle.matrix_records.proofs.Listed.{seated_length}
use Rattle.matrix_write.proofs.WriteLaws.{length_things, length_cells, thing_records, cell_records}
use Rattle.matrix_records.specs.Content.{Stated, ThingRecord, CellRecord, seated}
use Rattle.matrix_records.specs.Write.{head_bytes}

either : {A : Type 0} (b : Bool) (xs ys : List A) (n : ℕ) → length xs ≤ n → length ys ≤ n → length (cond b xs ys) ≤ n
either true xs ys n p q = p
either false xs ys n p q = q

-- ---- cells
module _ (m : Matrix) where
  few_in_row : (x : ℕ) (ts : List ThingRecord) → length (row_of m x ts) ≤ length ts
  unfolding row_of
  few_in_row x [] = omega arith
  few_in_row x (t ∷ ts) = let n = few_in_row x ts in either (eqb (cell m x t.id) 0) _ _ _ (omega arith) (omega arith)

  few_cells : (h : Head) (columns ts : List ThingRecord) → length columns ≤ 48 → length (rows_of h m columns ts) ≤ length ts * 48
  unfolding rows_of
  few_cells h columns [] l = omega arith
  few_cells h columns (t ∷ ts) l =
      let row : List CellRecord = cond (is_subject h t.thing.type) (row_of m t.id columns) [] in
      let a = either (is_subject h t.thing.type) (row_of m t.id columns) [] 48 (omega (arith, few_in_row t.id columns)) (omega arith) in
      omega (arith, length-append row (rows_of h m columns ts), few_cells h columns ts l)

-- ---- all of it
pub largest : (h : Head) (m : Matrix) → T (accepted_matrix h m) → length (matrix_bytes h m) ≤ 37208
unfolding matrix_bytes cells_of things_of head_bytes
largest h m of =
    let ts : List ThingRecord = things_of m in
    let cs : List CellRecord = cells_of h m in
    let stated : Stated = record { count = length ts; highest = m.things.highest } in
    let front : List ℕ = record_bytes 7 (head_bytes h.rights stated) in
    let n : length ts ≤ 48 = omega (arith, rising_length (seated m.things), seated_length m.things) in
    omega (
      arith,
      length-append (front ++ thing_records ts) (cell_records cs),
      length-append front (thing_records ts),
      length_record 7 (head_bytes h.rights stated),
      length_little_endian 2 m.things.highest,
      length_things ts,
      length_cells cs,
      few_cells m h ts ts n,
    )
