-- An image that is written from its end: first what stands behind the head, and then the head. What the two writings leave is the image at the buffer's start, or
-- the buffer as it was. Assumes nothing.
use Prim.Native.Nat.{ℕ, ◌+◌, ◌≤◌}
use native.Mathlib.Omega.{arith}
use native.Mathlib.Nat.{zero-add}
use mathlib.Core.Bool.{Bool, true, false, cond}
use mathlib.Core.List.{List, [], ◌∷◌, ◌++◌, append_assoc}
use mathlib.Core.Path.{◌≡◌, refl, sym, ap, ◌∙◌}
use lib.Dec.{leb}
use lib.ListN.{length, drop, get_or, length-append, length-drop, length-take}
use lib.Seq.{take_all}
use borrow.Author.Tests.{le-leb, lt-leb, leb-false}
use Rattle.std.specs.Int.{w16, to_le_bytes}
use Rattle.std.specs.Prelude.{Result, Ok, Err}
use Rattle.faults.specs.declared.Fault.{Fault}
use Rattle.laws.proofs.Differ.{constructors_differ}
use Rattle.records.specs.Bytes.{little_endian, record_bytes, part}
use Rattle.records.specs.Writing.{placed, write_bytes, write_record}
use Rattle.records.specs.Results.{written}
use Rattle.records.specs.Outcome.Writing.{Writing}
use Rattle.records.specs.Outcome.Writing as writing
use Rattle.records.proofs.BytesLaws.{length_record, two_bytes_of}
use Rattle.records.proofs.FieldLaws.{one_off}
use Rattle.records.proofs.PlacedLaws.{record_fits, length_placed, drop_at_placed}
use Rattle.records.proofs.Wrote.{Wrote, pair_eq, wrote}
use Rattle.moving.specs.Moves.{new_image, old_image}

-- what is placed before what was placed
placed_before : (out xs ys : List ℕ) → length xs + length ys ≤ length out → placed (placed out (length xs) ys) 0 xs ≡ placed out 0 (xs ++ ys)
unfolding placed
placed_before out xs ys h =
    let behind : drop (length xs) (placed out (length xs) ys) ≡ ys ++ drop (length xs + length ys) out = drop_at_placed out (length xs) ys h in
    rw (zero-add (length xs), behind, zero-add (length (xs ++ ys)), length-append) (sym (append_assoc xs ys _))

-- what a writing that was done gave
done_back : (w : Writing × List ℕ) {n : ℕ} {l : List ℕ} → ◌≡◌ {A = Result ℕ Fault × List ℕ} (Ok n, l) (written w) → w ≡ (writing.Done n, l)
done_back (writing.Done k, left) {n} e = let (p, d) = pair_eq e in let same : n ≡ k = cc in rw (same, d)
done_back (writing.Refused k, left) e = let (p, d) = pair_eq e in constructors_differ (cc)

module _ (out : List ℕ) (kind : ℕ) (head rest : List ℕ) where
  abbrev image : List ℕ
  image = record_bytes kind head ++ rest

  abbrev all_written : Result ℕ Fault × List ℕ
  all_written = written (write_bytes out 0 image)

  long : length image ≡ 4 + length head + length rest
  long = length-append (record_bytes kind head) rest ∙ rw length_record

  -- what stands behind the head had no room
  pub image_short : {f : Fault} {left : List ℕ} → ◌≡◌ {A = Result ℕ Fault × List ℕ} (Err f, left) (written (write_bytes out (4 + length head) rest)) →
      ◌≡◌ {A = Result ℕ Fault × List ℕ} (Err f, left) all_written
  unfolding write_bytes
  image_short {f} {left} e = go (leb (4 + length head + length rest) (length out)) refl e
    where
      go : (b : Bool) → leb (4 + length head + length rest) (length out) ≡ b →
          ◌≡◌ {A = Result ℕ Fault × List ℕ} (Err f, left) (written (cond b (writing.Done (4 + length head + length rest), placed out (4 + length head) rest) (writing.Refused 9, out))) →
          ◌≡◌ {A = Result ℕ Fault × List ℕ} (Err f, left) all_written
      go true q e = let (p, d) = pair_eq e in constructors_differ (cc)
      go false q e = e ∙ rw (zero-add, lt-leb (length image) (length out) (omega (arith, long, leb-false _ _ q)))

  module _ (few : length head ≤ 65535) {next : ℕ} {mid : List ℕ}
      (e : ◌≡◌ {A = Result ℕ Fault × List ℕ} (Ok next, mid) (written (write_bytes out (4 + length head) rest))) where
    its_rest : Wrote out (4 + length head) rest next mid
    its_rest = (wrote true 9 out (4 + length head) rest next mid (done_back (write_bytes out (4 + length head) rest) e)).1

    first : length (record_bytes kind head) ≡ 4 + length head
    first = length_record kind head

    head_fits : write_record mid 0 kind head ≡ (writing.Done (0 + length (record_bytes kind head)), placed mid 0 (record_bytes kind head))
    unfolding write_bytes
    head_fits =
        let size : length mid ≡ length out = ap length its_rest.stands ∙ length_placed out _ rest its_rest.room in
        let fits = le-leb (0 + length (record_bytes kind head)) (length mid) (omega (arith, first, size, its_rest.room)) in
        sym (record_fits mid 0 kind head few) ∙ rw fits

    -- the head has room where that had it
    pub image_headed : {f : Fault} {left : List ℕ} → ◌≡◌ {A = Result ℕ Fault × List ℕ} (Err f, left) (written (write_record mid 0 kind head)) → ⊥
    image_headed g = let (p, d) = pair_eq (g ∙ ap written head_fits) in constructors_differ (cc)

    pub image_written : {v : ℕ} {left : List ℕ} → ◌≡◌ {A = Result ℕ Fault × List ℕ} (Ok v, left) (written (write_record mid 0 kind head)) →
        ◌≡◌ {A = Result ℕ Fault × List ℕ} (Ok next, left) all_written
    unfolding write_bytes
    image_written {v} {left} g =
        let r = its_rest in
        let stored : left ≡ placed mid 0 (record_bytes kind head) = (pair_eq (g ∙ ap written head_fits)).1 in
        let again : placed (placed out (4 + length head) rest) 0 (record_bytes kind head) ≡ placed out 0 image =
        rw (← first) (placed_before out (record_bytes kind head) rest (omega (arith, first, r.room))) in
        let all = le-leb (0 + length image) (length out) (omega (arith, long, r.room)) in
        rw (all, stored, r.stands, again, r.behind, zero-add, long)

-- ---- the two images, from the parts that are handed over
pub behind_all : (s : List ℕ) (i : ℕ) → part s i (length s) ≡ drop i s
unfolding part
behind_all s i = take_all (length s) (drop i s) (omega (arith, length-drop i s))

pub part_few : (new head : List ℕ) → head ≡ part new 4 2 → length head ≤ 65535
unfolding part
part_few new head e = omega (arith, ap length e, length-take 2 (drop 4 new))

pub new_is : (old : List ℕ) (highest : ℕ) {bytes rest : List ℕ} → bytes ≡ to_le_bytes w16 highest → rest ≡ part old 6 (length old) → 6 ≤ length old →
    record_bytes 7 (get_or old 4 0 ∷ get_or old 5 0 ∷ get_or bytes 0 0 ∷ get_or bytes 1 0 ∷ []) ++ rest ≡ new_image old highest
unfolding new_image part little_endian
new_is old highest eb e l = rw (e, eb ∙ two_bytes_of highest, behind_all old 6, one_off old 4 (omega arith), one_off old 5 (omega arith))

pub old_is : (new : List ℕ) {head rest : List ℕ} → head ≡ part new 4 2 → rest ≡ part new 8 (length new) → record_bytes 3 head ++ rest ≡ old_image new
unfolding old_image
old_is new e f = rw (e, f, behind_all new 8)
