-- What a function that was lent the part `&mut out[at..]`, or the first bytes, left there, said of the whole; and bytes placed behind others, or read back.
-- Assumes nothing.
use Prim.Native.Nat.{ℕ, ◌+◌, ◌-◌, ◌<◌, ◌≤◌}
use native.Mathlib.Omega.{arith}
use native.Mathlib.Nat.{zero-add, add-zero, add_assoc}
use mathlib.Core.List.{List, [], ◌++◌, append-nil, append_assoc}
use mathlib.Core.Path.{◌≡◌, sym, ap, ◌∙◌}
use lib.ListN.{length, take, drop, length-append, length-drop, take-append-drop, drop_of_length-le}
use lib.Seq.{sets, sets-eq, take_all, take_at, drop_at, drop-drop, drop-append-le, drop-append-add, length-take-le}
use borrow.Author.Tests.{le-leb, lt-leb}
use Rattle.records.specs.Bytes.{record_bytes}
use Rattle.records.specs.Writing.{placed, write_bytes, write_record}
use Rattle.records.specs.Outcome.Writing.{Writing}
use Rattle.records.specs.Outcome.Writing.{Done, Refused}

-- stored in a part that is the first n bytes, it is stored in the whole
pub first_stored : (l : List ℕ) (n : ℕ) (vs : List ℕ) → length vs ≡ n → n ≤ length l → sets (take n l) 0 vs ++ drop n l ≡ sets l 0 vs
first_stored l n vs h k =
    let short : length (take n l) ≡ n = length-take-le n l k in
    let some : sets (take n l) 0 vs ≡ vs ++ drop (0 + length vs) (take n l) = sets-eq vs (take n l) 0 (omega arith) in
    let all : sets l 0 vs ≡ vs ++ drop (0 + length vs) l = sets-eq vs l 0 (omega arith) in
    let rest : drop (length vs) l ≡ drop (length vs) (take n l) ++ drop n l =
    ap (drop (length vs)) (sym (take-append-drop n l)) ∙ drop-append-le (length vs) (take n l) (drop n l) (omega arith) in
    rw (some, all, zero-add, rest) (append_assoc vs (drop (length vs) (take n l)) (drop n l))

pub placed_none : (out : List ℕ) (at : ℕ) → placed out at [] ≡ out
unfolding placed
placed_none out at = rw (add-zero, append-nil) (take-append-drop at out)

module _ (out : List ℕ) (at : ℕ) (vs : List ℕ) (fits : at + length vs ≤ length out) where
  before : length (take at out) ≡ at
  before = length-take-le at out (omega arith)

  through : length (take at out ++ vs) ≡ at + length vs
  through = length-append (take at out) vs ∙ rw before

  pub placed_sets : sets out at vs ≡ placed out at vs
  unfolding placed
  placed_sets = sets-eq vs out at fits

  pub part_placed : take at out ++ (sets (take (length out - at) (drop at out)) 0 vs ++ drop (length out - at) (drop at out)) ≡ placed out at vs
  unfolding placed
  part_placed =
      let d : length (drop at out) ≡ length out - at = length-drop at out in
      let all : take (length out - at) (drop at out) ≡ drop at out = take_all (length out - at) (drop at out) (omega arith) in
      let none : drop (length out - at) (drop at out) ≡ [] = drop_of_length-le (drop at out) {i = length out - at} (omega arith) in
      let stored : sets (drop at out) 0 vs ≡ vs ++ drop (0 + length vs) (drop at out) = sets-eq vs (drop at out) 0 (omega arith) in
      rw (all, none, stored, append-nil, drop-drop, zero-add, append_assoc)

  pub length_placed : length (placed out at vs) ≡ length out
  unfolding placed
  length_placed = simp (length-append, length-drop, before) (omega arith)

  -- what stands behind and where they are placed
  pub drop_placed : (n : ℕ) → at + length vs ≤ n → drop n (placed out at vs) ≡ drop n out
  unfolding placed
  drop_placed n h =
      let k : ℕ = n - (at + length vs) in
      let e : n ≡ length (take at out ++ vs) + k = omega (arith, through) in
      let f : at + length vs + k ≡ n = omega arith in
      ap (λ (m : ℕ). drop m (take at out ++ vs ++ drop (at + length vs) out)) e ∙ drop-append-add (take at out ++ vs) (drop (at + length vs) out) k
      ∙ drop-drop k (at + length vs) out ∙ ap (λ (m : ℕ). drop m out) f

  pub drop_at_placed : drop at (placed out at vs) ≡ vs ++ drop (at + length vs) out
  unfolding placed
  drop_at_placed = rw append_assoc (drop_at (take at out) (vs ++ drop (at + length vs) out) at before)

  pub take_through_placed : take (at + length vs) (placed out at vs) ≡ take at out ++ vs
  unfolding placed
  take_through_placed = take_at (take at out ++ vs) (drop (at + length vs) out) (at + length vs) through

-- what is placed behind what was placed
pub placed_behind : (out : List ℕ) (at : ℕ) (xs ys : List ℕ) → at + length xs + length ys ≤ length out →
    placed (placed out at xs) (at + length xs) ys ≡ placed out at (xs ++ ys)
unfolding placed
placed_behind out at xs ys h =
    let f : at + length xs ≤ length out = omega arith in
    let e = drop_placed out at xs f (at + length xs + length ys) (omega arith) in
    rw (take_through_placed out at xs f, e, length-append, append_assoc (take at out) xs ys, add_assoc)

-- ---- the answers of a writing
module _ (out : List ℕ) (at : ℕ) where
  pub write_short : (vs : List ℕ) → length out < at + length vs → ◌≡◌ {A = Writing × List ℕ} (Refused 9, out) (write_bytes out at vs)
  unfolding write_bytes
  write_short vs h = rw (lt-leb _ _ h)

  pub write_done : (vs part : List ℕ) (next : ℕ) → at + length vs ≤ length out → next ≡ at + length vs →
      part ≡ sets (take (length out - at) (drop at out)) 0 vs →
      ◌≡◌ {A = Writing × List ℕ} (Done next, take at out ++ (part ++ drop (length out - at) (drop at out))) (write_bytes out at vs)
  unfolding write_bytes
  write_done vs part next h n e = rw (e, n, part_placed out at vs h, le-leb _ _ h)

  module _ (kind : ℕ) (body : List ℕ) where
    pub record_long : 65535 < length body → ◌≡◌ {A = Writing × List ℕ} (Refused 4, out) (write_record out at kind body)
    unfolding write_record
    record_long h = rw (lt-leb _ _ h)

    pub record_fits : length body ≤ 65535 → write_bytes out at (record_bytes kind body) ≡ write_record out at kind body
    unfolding write_record
    record_fits h = rw (le-leb _ _ h)
