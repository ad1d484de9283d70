-- The loops of `lists`: after j turns j elements are read, and stand at the array's start. Once for all elements and for every array.
-- Assumes nothing.
use Prim.Native.Nat.{ℕ, ◌+◌, ◌-◌, ◌*◌, ◌<◌, ◌≤◌}
use native.Mathlib.Omega.{arith}
use native.Mathlib.Nat.{sub-zero}
use native.Mathlib.Numerals.{add-one}
use mathlib.Core.List.{List, [], ◌∷◌, ◌++◌, map, map-id, reverse, reverse-append}
use mathlib.Core.Path.{◌≡◌, refl, ap}
use lib.ListN.{length, take, drop, set, replicate, length-append, length-replicate}
use lib.Seq.{take-suc-set}
use Rattle.std.specs.Prelude.{Ok, Err}
use Rattle.faults.specs.declared.Fault.{Fault}
use Rattle.records.specs.Reading.{Body, steps}
use Rattle.records.specs.Results.{value_of}
use Rattle.records.proofs.FieldLaws.{value_back, fault_back}
use Rattle.records.proofs.Loop.{Looped, looped_none, looped_on, looped_stop, looped_all, fill_next}
use Rattle.command_bytes.specs.Inner.Parts.{in_array}
use Rattle.command_bytes.proofs.Fixed.{Fixed, fixed_at}

module _ {A S : Type 0} (p : S → Body A) (next : S → A → S) (w : ℕ) (fixed : (s : S) → Fixed w (p s)) (none : A) (places n : ℕ) (s₀ : S) (b : List ℕ) (i : ℕ) where
  pub record Filled (j : ℕ) (s : S) (array : List A) : Type 0 where
    pub turns : Looped p next n s₀ (drop i b) j s (drop (i + w * j) b)
    pub held : array ≡ map (λ (a : A). a) turns.items ++ replicate (places - j) none

module _ {A S : Type 0} {p : S → Body A} {next : S → A → S} {w : ℕ} {fixed : (s : S) → Fixed w (p s)} {none : A} {places n : ℕ} {s₀ : S} {b : List ℕ} {i : ℕ} where
  pub filled_none : Filled p next w fixed none places n s₀ b i 0 s₀ (replicate places none)
  filled_none = let e : i + w * 0 ≡ i = omega arith in record { turns = rw e looped_none; held = rw sub-zero refl }

  module _ {j : ℕ} {s : S} {array : List A} (v : Filled p next w fixed none places n s₀ b i j s array) where
    -- there is a place for the next
    pub filled_room : j < places → j < length array
    filled_room h = rw v.held (rw (length-append, map-id, v.turns.count, length-replicate) (omega arith))

    module _ (h : j < n) {m : ℕ} (em : m ≡ i + w * j) where
      pub filled_on : n ≤ places → {a : A} → value_of (p s (drop m b)) ≡ Ok a → Filled p next w fixed none places n s₀ b i (j + 1) (next s a) (set array j a)
      filled_on few {a} e =
          let g = value_back (p s (drop (i + w * j) b)) (rw em at e) in
          let f = fixed_at (fixed s) b (i + w * j) (i + w * (j + 1)) (omega arith) g.1 in
          record { turns = looped_on v.turns h f; held = fill_next (λ x. x) none places v.turns.items a j v.held v.turns.count (omega arith) }

      pub filled_stop : {B : Type 0} (from : List A → B) {f : Fault} → value_of (p s (drop m b)) ≡ Err f →
          Err f ≡ value_of (in_array from (steps p next n s₀) (drop i b))
      filled_stop from {f = f} e =
          let g = fault_back (p s (drop (i + w * j) b)) (rw em at e) in
          rw (looped_stop v.turns h g.1) (ap Err g.2)

    pub filled_all : n ≤ j → {B : Type 0} (from : List A → B) → value_of (in_array from (steps p next n s₀) (drop i b)) ≡ Ok (from v.turns.items)
    filled_all h from = rw (looped_all v.turns h)

-- ---- each behind those before it, of which the last is the first in the list that the reader carries
module _ {A : Type 0} {p : List A → Body A} {w : ℕ} {fixed : (s : List A) → Fixed w (p s)} {none : A} {places n : ℕ} {b : List ℕ} {i j : ℕ} {array : List A} where
  pub filled_behind : Filled p (λ before a. a ∷ before) w fixed none places n [] b i j (reverse (take j array)) array → j < n → {m : ℕ} → m ≡ i + w * j →
      n ≤ places → {a : A} → value_of (p (reverse (take j array)) (drop m b)) ≡ Ok a →
      Filled p (λ before a. a ∷ before) w fixed none places n [] b i (j + 1) (reverse (take (j + 1) (set array j a))) (set array j a)
  filled_behind v h em few {a} e =
      let l = filled_room v (omega arith) in
      let d : reverse (take (j + 1) (set array j a)) ≡ a ∷ reverse (take j array) = rw (add-one, take-suc-set array j a l, reverse-append) in
      rw d (filled_on v h em few e)
