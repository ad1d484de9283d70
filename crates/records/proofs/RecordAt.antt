-- Where a record's bytes stand, `record_at` gives it; and where `record_at` gives a record, its bytes stand there.
use Prim.Native.Nat.{ℕ, suc, ◌+◌, ◌*◌, ◌-◌, ◌/◌, ◌%◌, ◌<◌, ◌≤◌}
use native.Mathlib.Omega.{arith}
use native.Mathlib.Nat.{add-zero}
use native.Mathlib.Numerals.{add-one, add-two}
use mathlib.Core.Bool.{Bool, true, false}
use mathlib.Core.List.{List, ◌∷◌, ◌++◌}
use mathlib.Core.Path.{◌≡◌, refl, sym, ap, ◌∙◌}
use lib.Dec.{T, ltb, ltb→lt}
use lib.ListN.{length, get_or, drop, length-append, length-drop, take-append-drop}
use lib.Seq.{drop-cons, drop-drop, get_or-drop, length-take-le, take-append_seam}
use mir.Facts.{and_yes}
use Rattle.rights.specs.Sets.{has}
use Rattle.records.specs.Bytes.{little_endian, record_bytes, number2, part}
use Rattle.records.specs.Front.{allowed, record_at}
use Rattle.records.specs.Outcome.RecordAnswer.{Record}
use Rattle.records.proofs.BytesLaws.{length_record}
use Rattle.records.proofs.FrontLaws.{Found, record_whole}
use Rattle.records.proofs.Trip.{Bytes, Stand}

is_true : (b : Bool) → T b → b ≡ true
is_true true t = refl
is_true false t = absurd t

pub allowed_small : (kinds kind : ℕ) → T (allowed kinds kind) → kind < 16
unfolding allowed
allowed_small kinds kind t = ltb→lt kind 16 (and_yes (ltb kind 16) (has kinds kind) t).0

-- a record's bytes, one by one
pub record_four : (kind : ℕ) (body : List ℕ) →
    record_bytes kind body ≡ length body % 256 ∷ length body / 256 % 256 ∷ kind % 256 ∷ kind / 256 % 256 ∷ body
unfolding record_bytes little_endian
record_four kind body = refl

-- ---- a record stands there
module _ (s : List ℕ) (at kind : ℕ) (body rest : List ℕ) (e : drop at s ≡ record_bytes kind body ++ rest) where
  pub at_drop : (i : ℕ) → get_or s (at + i) 0 ≡ get_or (record_bytes kind body ++ rest) i 0
  at_drop i = sym (get_or-drop at s i 0) ∙ ap (λ (l : List ℕ). get_or l i 0) e

  pub number_there : length body ≤ 65535 → kind < 65536 → (length body ≡ number2 s at) × (kind ≡ number2 s (at + 2))
  unfolding number2 record_bytes little_endian
  number_there few small =
      let a : get_or s at 0 ≡ length body % 256 = rw add-zero at (at_drop 0) in
      let two : at + 2 + 1 ≡ at + 3 = omega arith in
      (rw (a, at_drop 1) (omega arith), rw (two, at_drop 2, at_drop 3) (omega arith))

  pub record_there : (kinds : ℕ) → T (allowed kinds kind) → length body ≤ 65535 → record_at s at kinds ≡ Record kind (at + 4) (length body)
  record_there kinds t few =
      let n = number_there few (omega (arith, allowed_small kinds kind t)) in
      let long : length s - at ≡ length (record_bytes kind body) + length rest =
      sym (length-drop at s) ∙ ap length e ∙ length-append (record_bytes kind body) rest in
      let fits : at + 4 + length body ≤ length s = omega (arith, length_record kind body) in
      sym (record_whole s at kinds (omega arith) kind n.1 (is_true (allowed kinds kind) t) (length body) n.0 fits)

  pub part_there : part s (at + 4) (length body) ≡ body
  unfolding part
  part_there = rw (← drop-drop, e, record_four) (take-append_seam body rest)

-- ---- from the answer back to what stands there
pub part_rest : (s : List ℕ) (start len : ℕ) → drop start s ≡ part s start len ++ drop (start + len) s
unfolding part
part_rest s start len = rw (← drop-drop) (sym (take-append-drop len (drop start s)))

pub two_off : (s : List ℕ) (i : ℕ) → i + 1 < length s → drop i s ≡ get_or s i 0 ∷ get_or s (i + 1) 0 ∷ drop (i + 2) s
two_off s i h =
    let p : i < length s = omega arith in
    let q : suc i < length s = omega arith in
    drop-cons s i 0 p ∙ ap (λ (l : List ℕ). get_or s i 0 ∷ l) (drop-cons s (suc i) 0 q) ∙ simp (add-one, add-two)

pub two_bytes : (v x y : ℕ) → x < 256 → y < 256 → v ≡ x + 256 * y → (v % 256 ≡ x) × (v / 256 % 256 ≡ y)
two_bytes v x y h l e = let high : v / 256 ≡ y = omega arith in (omega arith, rw high (omega arith))

module _ {s : List ℕ} {at kinds kind start len : ℕ} (f : Found s at kinds kind start len) where
  pub part_long : length (part s start len) ≡ len
  unfolding part
  part_long = length-take-le len (drop start s) (omega (arith, length-drop start s))

  pub record_back : Bytes s → Stand s (record_bytes kind (part s start len)) at (start + len)
  unfolding number2
  record_back b =
      let d : drop at s ≡ get_or s at 0 ∷ get_or s (at + 1) 0 ∷ get_or s (at + 2) 0 ∷ get_or s (at + 2 + 1) 0 ∷ drop (at + 2 + 2) s =
      two_off s at (omega arith) ∙ ap (λ (l : List ℕ). get_or s at 0 ∷ get_or s (at + 1) 0 ∷ l) (two_off s (at + 2) (omega arith)) in
      let four : at + 2 + 2 ≡ start = omega (arith, f.behind) in
      let n = two_bytes len (get_or s at 0) (get_or s (at + 1) 0) (b at) (b (at + 1)) f.its_length in
      let k = two_bytes kind (get_or s (at + 2) 0) (get_or s (at + 2 + 1) 0) (b (at + 2)) (b (at + 2 + 1)) f.its_kind in
      record {
        next = omega (arith, length_record kind (part s start len), part_long, f.behind);
        bytes = rw (record_four, part_long, n.0, n.1, k.0, k.1) (d ∙ rw (four, part_rest s start len));
      }

  -- its kind is one that may stand there, and its body is no longer than two bytes say
  pub record_may : T (allowed kinds kind)
  record_may = rw f.of_kinds tt

  pub part_few : Bytes s → length (part s start len) ≤ 65535
  unfolding number2
  part_few b = omega (arith, part_long, f.its_length, b at, b (at + 1))
