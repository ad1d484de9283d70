-- The cells of a converted matrix, place by place, and the number that a converted cell is.
-- Assumes nothing.
use Prim.Native.Nat.{ℕ, zero, suc, ◌+◌, ◌-◌, ◌*◌, ◌%◌, ◌^◌, ◌≤◌, ◌<◌}
use native.Mathlib.Omega.{arith}
use native.Mathlib.Nat.{mul_comm, lt_of_lt_of_le, not-suc-le-zero, le_of_suc-le-suc}
use mathlib.Core.Path.{◌≡◌, refl, sym, ap, ◌∙◌}
use mathlib.Core.Bool.{Bool, true, false, not, cond, ◌&&◌, and-true}
use mathlib.Core.List.{List, [], ◌∷◌, ◌++◌}
use lib.Dec.{T, eqb}
use lib.ListN.{length, take, drop, set, get_or, length-take, length-drop, take-append-drop}
use lib.Pow.{pow_pos, pow_mono, shl_exact}
use lib.Seq.{get_or-take, get_or-drop, ext_get_or}
use borrow.Author.Tests.{ne_eqb}
use Rattle.rights.specs.Sets.{complement, converted}
use Rattle.rights.proofs.Laws.{complement_number}
use Rattle.rights.proofs.Converted.{converted_lt, converted_number}
use Rattle.model.specs.Scheme.{is_subject, no_type}
use Rattle.model.specs.Accepted.{standing, accepted_matrix}
use Rattle.model.specs.declared.Head.{Head}
use Rattle.model.specs.declared.Things.{Things}
use Rattle.model.proofs.HeldLaws.{held}
use Rattle.conversion.specs.Conversion.{convert_cells}
use Rattle.conversion.proofs.Lists.{length_cells, cells_at}
use Rattle.convert.specs.Inner.Parts.{convert_row}
use Rattle.laws.proofs.Filling.{Filling, begin, there, unfilled, on, past, part, all_over, kept}

-- ---- a converted set as a word: nothing of the shifted complement is lost
module _ (n set lacking : ℕ) (h : n ≤ 32) (l : set < 2 ^ n) (e : lacking ≡ complement n set) where
  pub converted_word : set + (lacking * 2 ^ n) % 2 ^ 64 ≡ converted n set
  converted_word =
      let small : lacking < 2 ^ n = rw (e, complement_number n set (omega arith) l) (omega (arith, pow_pos n)) in
      rw (shl_exact n n 64 small (omega arith), converted_number n set h l, e, mul_comm (complement n set) (2 ^ n))

  pub word_small : set + (lacking * 2 ^ n) % 2 ^ 64 < 2 ^ 64
  word_small = rw converted_word (lt_of_lt_of_le (converted_lt n set h l) (pow_mono {i = 2 * n} {j = 64} (omega arith)))

-- ---- a subject's row, place by place
length_row : (n : ℕ) (ids row : List ℕ) → length ids ≡ length row → length (convert_row n ids row) ≡ length row
unfolding convert_row
length_row n [] [] e = refl
length_row n [] (c ∷ cs) e = absurd (omega arith)
length_row n (x ∷ ids) [] e = refl
length_row n (x ∷ ids) (c ∷ cs) e = ap suc (length_row n ids cs (omega arith))

row_at : (n : ℕ) (ids row : List ℕ) (j : ℕ) → j < length ids → j < length row →
    get_or (convert_row n ids row) j 0 ≡ cond (eqb (get_or ids j 0) 0) (get_or row j 0) (converted n (get_or row j 0))
unfolding convert_row
row_at n [] row j h k = absurd (not-suc-le-zero h)
row_at n (x ∷ ids) [] j h k = absurd (not-suc-le-zero k)
row_at n (x ∷ ids) (c ∷ cs) zero h k = refl
row_at n (x ∷ ids) (c ∷ cs) (suc j) h k = row_at n ids cs j (le_of_suc-le-suc h) (le_of_suc-le-suc k)

-- after j places of it
pub record RowConverting (n : ℕ) (ids row₀ row : List ℕ) (j : ℕ) : Type 0 where
  pub few : j ≤ 48
  pub wide : length ids ≡ 48
  pub long₀ : length row₀ ≡ 48
  pub long : length row ≡ 48
  pub part : Filling (convert_row n ids row₀) row₀ row j

pub row_start : (n : ℕ) (ids row₀ : List ℕ) → length ids ≡ 48 → length row₀ ≡ 48 → RowConverting n ids row₀ row₀ 0
row_start n ids row₀ e f =
    record { few = omega arith; wide = e; long₀ = f; long = f; part = begin (convert_row n ids row₀) row₀ (length_row n ids row₀ (omega arith)) }

module _ {n : ℕ} {ids row₀ row : List ℕ} {j : ℕ} (v : RowConverting n ids row₀ row j) where
  onward : {to : List ℕ} → Filling (convert_row n ids row₀) row₀ to (j + 1) → j < 48 → RowConverting n ids row₀ to (j + 1)
  onward w h = record { few = omega arith; wide = v.wide; long₀ = v.long₀; long = kept w ∙ v.long₀; part = w }

  module _ (h : j < 48) where
    pub row_there : get_or row j 0 ≡ get_or row₀ j 0
    row_there = there v.part 0 (omega arith)

    goal_at : get_or (convert_row n ids row₀) j 0 ≡ cond (eqb (get_or ids j 0) 0) (get_or row j 0) (converted n (get_or row j 0))
    goal_at = rw row_there (row_at n ids row₀ j (omega arith) (omega arith))

    pub row_on : (x : ℕ) → (get_or ids j 0 ≡ 0 → ⊥) → x ≡ converted n (get_or row j 0) → RowConverting n ids row₀ (set row j x) (j + 1)
    row_on x z g = onward (on v.part 0 x (omega arith) (rw (goal_at, ne_eqb (get_or ids j 0) 0 z) g)) h

    pub row_past : get_or ids j 0 ≡ 0 → RowConverting n ids row₀ row (j + 1)
    row_past z = onward (past v.part 0 (omega arith) (rw (goal_at, z))) h

  pub row_end : 48 ≤ j → row ≡ convert_row n ids row₀
  row_end h = all_over v.part (omega arith)

-- ---- after i rows, of cells that no right n or above is in
pub record Converting (h : Head) (th : Things) (cells₀ cells : List ℕ) (i : ℕ) : Type 0 where
  pub few : i ≤ 48
  pub long : length cells ≡ 2304
  pub same : length cells ≡ length cells₀
  pub part : Filling (convert_cells h th 0 cells₀) cells₀ cells (i * 48)

-- how long a row is, as the code says it: its end less its start
abbrev span : ℕ → ℕ
span i = i * 48 + 48 - i * 48

span_48 : (i : ℕ) → span i ≡ 48
span_48 i = omega arith

abbrev row_of : ℕ → List ℕ → List ℕ
row_of i cells = take (span i) (drop (i * 48) cells)

-- which of a row's places have a cell
module _ (h : Head) (th : Things) (i j : ℕ) where
  pub free_row : get_or th.ids i 0 ≡ 0 → standing h th i j ≡ false
  unfolding standing
  free_row e = rw e

  pub object_row : is_subject h (get_or th.types i no_type) ≡ false → standing h th i j ≡ false
  unfolding standing
  object_row e = rw e (none (eqb (get_or th.ids i 0) 0) (eqb (get_or th.ids j 0) 0))
    where
      none : (b c : Bool) → (not b && not c && false) ≡ false
      none true c = refl
      none false true = refl
      none false false = refl

  subject_row : (get_or th.ids i 0 ≡ 0 → ⊥) → is_subject h (get_or th.types i no_type) ≡ true → standing h th i j ≡ not (eqb (get_or th.ids j 0) 0)
  unfolding standing
  subject_row n e = rw (ne_eqb (get_or th.ids i 0) 0 n, e) (and-true (not (eqb (get_or th.ids j 0) 0)))

module _ (h : Head) (th : Things) (cells₀ : List ℕ) (a : T (accepted_matrix h (record { things = th; cells = cells₀ }))) where
  full : length cells₀ ≡ 2304
  full = (held h (record { things = th; cells = cells₀ }) a).cells.room

  whole : {cells : List ℕ} {i : ℕ} → Filling (convert_cells h th 0 cells₀) cells₀ cells (i * 48) → i ≤ 48 → Converting h th cells₀ cells i
  whole v i = record { few = i; long = kept v ∙ full; same = kept v; part = v }

  pub converting_start : Converting h th cells₀ cells₀ 0
  converting_start = whole (begin (convert_cells h th 0 cells₀) cells₀ (length_cells h th 0 cells₀)) (omega arith)

  module _ {cells : List ℕ} {i : ℕ} (v : Converting h th cells₀ cells i) where
    module _ (l : i < 48) where
      pub row_long : length (row_of i cells) ≡ 48
      row_long = rw (span_48 i) (simp (length-take, length-drop) (omega (arith, v.long)))

      row_old : (j : ℕ) → j < 48 → get_or (row_of i cells) j 0 ≡ get_or cells₀ (i * 48 + j) 0
      row_old j k =
          rw (span_48 i, unfilled v.part (omega (arith, full)), get_or-take 48 (drop (i * 48) cells₀) j 0 k, get_or-drop (i * 48) cells₀ j 0)

      pub row_small : (j : ℕ) → j < 48 → get_or (row_of i cells) j 0 < 2 ^ h.rights
      row_small j k = rw (row_old j k) ((held h (record { things = th; cells = cells₀ }) a).cells.small (i * 48 + j))

      -- a list of 48 that has what the converted cells have is their row
      row_is : (row : List ℕ) → length row ≡ 48 →
          ((j : ℕ) → j < 48 → get_or row j 0
          ≡ cond (standing h th i j) (converted h.rights (get_or cells₀ (i * 48 + j) 0)) (get_or cells₀ (i * 48 + j) 0)) →
          row ≡ take 48 (drop (i * 48) (convert_cells h th 0 cells₀))
      row_is row e f =
          ext_get_or 0 row (take 48 (drop (i * 48) new)) (e ∙ sym (simp (length-take, length-drop) (omega (arith, full, length_cells h th 0 cells₀))))
          (λ j k. let k' : j < 48 = omega arith in
          f j k' ∙ sym (rw (get_or-take 48 (drop (i * 48) new) j 0 k', get_or-drop (i * 48) new j 0) (cells_at h th cells₀ i j k' (omega (arith, full)))))
        where
          new : List ℕ
          new = convert_cells h th 0 cells₀

      row_put : (row : List ℕ) → row ≡ take 48 (drop (i * 48) (convert_cells h th 0 cells₀)) →
          Converting h th cells₀ (take (i * 48) cells ++ (row ++ drop (span i) (drop (i * 48) cells))) (i + 1)
      row_put row e =
          let f : i * 48 + 48 ≡ (i + 1) * 48 = omega arith in
          rw (span_48 i) (whole (rw f at (part v.part 48 row (omega (arith, full)) e)) (omega arith))

      pub converting_row : (row : List ℕ) → (get_or th.ids i 0 ≡ 0 → ⊥) → is_subject h (get_or th.types i no_type) ≡ true →
          row ≡ convert_row h.rights th.ids (row_of i cells) →
          Converting h th cells₀ (take (i * 48) cells ++ (row ++ drop (span i) (drop (i * 48) cells))) (i + 1)
      converting_row row z s g =
          let r = (held h (record { things = th; cells = cells₀ }) a).things.id_room in
          row_put row (row_is row (rw g (length_row _ _ _ (r ∙ sym row_long) ∙ row_long)) (λ j k.
          rw (
            g,
            row_at h.rights th.ids (row_of i cells) j (omega (arith, r)) (omega (arith, row_long)),
            row_old j k,
            subject_row h th i j z s,
          ) (either (eqb (get_or th.ids j 0) 0) _ _)))
        where
          either : (b : Bool) (x y : ℕ) → cond b x y ≡ cond (not b) y x
          either true x y = refl
          either false x y = refl

      pub converting_none : ((j : ℕ) → standing h th i j ≡ false) → Converting h th cells₀ cells (i + 1)
      converting_none n =
          rw same at (row_put (row_of i cells) (row_is (row_of i cells) row_long (λ j k. rw (n j) (row_old j k))))
        where
          same : take (i * 48) cells ++ (row_of i cells ++ drop (span i) (drop (i * 48) cells)) ≡ cells
          same = rw (take-append-drop (span i) (drop (i * 48) cells)) (take-append-drop (i * 48) cells)

    pub converting_end : 48 ≤ i → cells ≡ convert_cells h th 0 cells₀
    converting_end e = all_over v.part (omega (arith, full))
