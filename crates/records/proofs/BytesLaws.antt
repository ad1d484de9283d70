-- A number's bytes, and stores one run behind the other.
-- Assumes nothing.
use Prim.Native.Nat.{ℕ, zero, suc, ◌+◌, ◌-◌, ◌/◌, ◌%◌, ◌^◌, min, ◌≤◌, ◌<◌}
use native.Mathlib.Decide.{dec_lt}
use Rattle.std.specs.Int.{w16, w64, to_le_bytes, bytes_low_first, byte_at}
use native.Mathlib.Omega.{arith}
use native.Mathlib.Numerals.{add-one}
use native.Mathlib.Nat.{add-zero, pow-suc, div-one, div-div-eq-div-mul}
use mathlib.Core.List.{List, [], ◌∷◌, ◌++◌, append_assoc}
use mathlib.Core.Path.{◌≡◌, refl, sym, ap, ◌∙◌}
use lib.ListN.{length, get_or, set, take, drop, length-append, take-append-drop, drop_of_length-le}
use lib.Seq.{sets, sets-eq, set_out, drop-cons, take_all, drop-drop, length-take-le, length-sets}
use Rattle.records.specs.Bytes.{little_endian, record_bytes}

-- ---- a number's bytes
pub length_little_endian : (w v : ℕ) → length (little_endian w v) ≡ w
unfolding little_endian
length_little_endian zero v = refl
length_little_endian (suc w) v = ap suc (length_little_endian w (v / 256))

pub length_record : (kind : ℕ) (body : List ℕ) → length (record_bytes kind body) ≡ 4 + length body
unfolding record_bytes
length_record kind body = simp (length-append, length_little_endian)

-- they are those of the standard library
bytes_from : (w i v : ℕ) → bytes_low_first i w v ≡ little_endian w (v / 256 ^ i)
unfolding little_endian
bytes_from zero i v = refl
bytes_from (suc w) i v =
    let d : v / 256 ^ suc i ≡ v / 256 ^ i / 256 = ap (λ (x : ℕ). v / x) (pow-suc 256 i) ∙ sym (div-div-eq-div-mul v (256 ^ i) 256) in
    rw (bytes_from w (suc i) v, d, low i v)
  where
    low : (i v : ℕ) → byte_at i v ≡ v / 256 ^ i % 256
    low zero v = rw div-one
    low (suc i) v = refl

pub two_bytes_of : (v : ℕ) → to_le_bytes w16 v ≡ little_endian 2 v
two_bytes_of v = bytes_from 2 0 v ∙ rw div-one

pub eight_bytes_of : (v : ℕ) → to_le_bytes w64 v ≡ little_endian 8 v
eight_bytes_of v = bytes_from 8 0 v ∙ rw div-one

-- ---- stores
pub sets_append : (l : List ℕ) (i : ℕ) (xs ys : List ℕ) → sets l i (xs ++ ys) ≡ sets (sets l i xs) (i + length xs) ys
sets_append l i [] ys = rw add-zero
sets_append l i (x ∷ xs) ys = let e : i + suc (length xs) ≡ suc i + length xs = omega arith in rw e (sets_append (set l i x) (suc i) xs ys)

pub sets_out : (l : List ℕ) (i : ℕ) (vs : List ℕ) → length l ≤ i → sets l i vs ≡ l
sets_out l i [] h = refl
sets_out l i (v ∷ vs) h = rw (set_out l i v h) (sets_out l (suc i) vs (omega arith))

-- byte by byte: one turn, and the end
pub sets_next : (l : List ℕ) (i : ℕ) (vs : List ℕ) (j : ℕ) → j < length vs →
    sets l (i + j) (drop j vs) ≡ sets (set l (i + j) (get_or vs j 0)) (i + (j + 1)) (drop (j + 1) vs)
sets_next l i vs j h = let e : i + (j + 1) ≡ suc (i + j) = omega arith in rw (drop-cons vs j 0 h, e, add-one)

pub sets_all : (l : List ℕ) (i : ℕ) (vs : List ℕ) (j : ℕ) → length vs ≤ j → sets l (i + j) (drop j vs) ≡ l
sets_all l i vs j h = let e : drop j vs ≡ [] = drop_of_length-le vs {i = j} h in rw e

-- as many as there is room for: those past the end change nothing
sets_cut : (l : List ℕ) (i : ℕ) (vs : List ℕ) (n : ℕ) → n ≤ length vs → length l ≤ i + n → sets l i vs ≡ sets l i (take n vs)
sets_cut l i vs n few h =
    let t : length (take n vs) ≡ n = length-take-le n vs few in
    let k : length (sets l i (take n vs)) ≡ length l = length-sets l i (take n vs) in
    ap (sets l i) (sym (take-append-drop n vs)) ∙ sets_append l i (take n vs) (drop n vs) ∙ sets_out (sets l i (take n vs)) (i + length (take n vs)) (drop n vs) (omega arith)

pub put_some : (l : List ℕ) (i : ℕ) (vs part : List ℕ) (n : ℕ) → i < length l → n ≡ min (length vs) (length l - i) → part ≡ take n vs →
    take i l ++ (part ++ drop (i + n - i) (drop i l)) ≡ sets l i vs
put_some l i vs part n h en ep = by (dec_lt (length vs) (length l - i))
  where
    t : length (take n vs) ≡ n
    t = length-take-le n vs (omega arith)

    stored : sets l i (take n vs) ≡ take i l ++ (take n vs ++ drop (i + n) l)
    stored = sets-eq (take n vs) l i (omega (arith, t)) ∙ rw (t, append_assoc)

    there : take i l ++ (part ++ drop (i + n - i) (drop i l)) ≡ sets l i (take n vs)
    there = let k : i + n - i ≡ n = omega arith in rw (ep, k, drop-drop) (sym stored)

    by : Dec (length vs < length l - i) → take i l ++ (part ++ drop (i + n - i) (drop i l)) ≡ sets l i vs
    by (yes few) = let all : take n vs ≡ vs = take_all n vs (omega arith) in there ∙ ap (sets l i) all
    by (no many) = there ∙ sym (sets_cut l i vs n (omega arith) (omega (arith, many)))

-- a record: its front, then its body
pub record_stored : (l : List ℕ) (kind len : ℕ) (body : List ℕ) → len ≡ length body →
    sets (sets (sets l 0 (little_endian 2 len)) 2 (little_endian 2 kind)) 4 body ≡ sets l 0 (record_bytes kind body)
unfolding record_bytes
record_stored l kind len body e = rw e (sym (simp (sets_append, length-append, length_little_endian)))
