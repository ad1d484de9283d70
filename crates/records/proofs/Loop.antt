-- A loop that runs a reader n times: what holds after j turns, for every reader; and the array that is filled on the way.
use Prim.Native.Nat.{ℕ, suc, ◌+◌, ◌-◌, ◌<◌, ◌≤◌}
use native.Mathlib.Omega.{arith}
use native.Mathlib.Nat.{sub-zero}
use mathlib.Core.List.{List, [], ◌∷◌, ◌++◌, map, map-append, append-nil}
use mathlib.Core.Path.{◌≡◌, refl, ◌∙◌}
use lib.ListN.{length, set, replicate, length-append, length-map}
use lib.Seq.{append_snoc, set_at}
use Rattle.records.specs.Reading.{Read, got, fault, Reader, bind, done, steps, ◌>>=◌}

module _ {I F A : Type 0} where
  -- the items, and then what m reads
  abbrev pub prepend : List A → Read I F (List A) → Read I F (List A)
  prepend xs m = bind m (λ ys. done (xs ++ ys))

  pub prepend_none : (m : Read I F (List A)) → m ≡ prepend [] m
  prepend_none (got ys i) = refl
  prepend_none (fault k) = refl

  pub prepend_one : (xs : List A) (a : A) (m : Read I F (List A)) → prepend xs (bind m (λ ys. done (a ∷ ys))) ≡ prepend (xs ++ a ∷ []) m
  prepend_one xs a (got ys i) = rw append_snoc
  prepend_one xs a (fault k) = refl

pub record Looped {I F A S : Type 0} (p : S → Reader I F A) (next : S → A → S) (n : ℕ) (s₀ : S) (i₀ : I) (j : ℕ) (s : S) (i : I) : Type 0 where
  pub items : List A
  pub count : length items ≡ j
  pub read : steps p next n s₀ i₀ ≡ prepend items (steps p next (n - j) s i)

module _ {I F A S : Type 0} {p : S → Reader I F A} {next : S → A → S} {n : ℕ} {s₀ : S} {i₀ : I} where
  abbrev pub looped_none : Looped p next n s₀ i₀ 0 s₀ i₀
  looped_none = record { items = []; count = refl; read = rw sub-zero (prepend_none (steps p next n s₀ i₀)) }

  module _ {j : ℕ} {s : S} {i : I} (v : Looped p next n s₀ i₀ j s i) where
    pub unroll : j < n → steps p next n s₀ i₀ ≡ prepend v.items (bind (p s i) (λ a. steps p next (n - (j + 1)) (next s a) >>= λ ys. done (a ∷ ys)))
    unroll h = let e : n - j ≡ suc (n - (j + 1)) = omega arith in v.read ∙ rw e

    abbrev pub looped_on : j < n → {a : A} {i' : I} → p s i ≡ got a i' → Looped p next n s₀ i₀ (j + 1) (next s a) i'
    looped_on h {a} {i'} e = record {
      items = v.items ++ a ∷ [];
      count = length-append v.items (a ∷ []) ∙ rw v.count;
      read = unroll h ∙ rw e (prepend_one v.items a (steps p next (n - (j + 1)) (next s a) i'));
    }

    pub looped_stop : j < n → {k : F} → p s i ≡ fault k → steps p next n s₀ i₀ ≡ fault k
    looped_stop h e = unroll h ∙ rw e

    pub looped_all : n ≤ j → steps p next n s₀ i₀ ≡ got v.items i
    looped_all h = let e : n - j ≡ 0 = omega arith in v.read ∙ rw e (rw append-nil)

-- ---- an array of m, filled from its start; f is how an item is stored
module _ {A B : Type 0} (f : A → B) (z : B) (m : ℕ) where
  pub fill_next : (items : List A) (a : A) {array : List B} (j : ℕ) → array ≡ map f items ++ replicate (m - j) z → length items ≡ j → j < m →
      set array j (f a) ≡ map f (items ++ a ∷ []) ++ replicate (m - (j + 1)) z
  fill_next items a j e l h =
      let d : m - j ≡ suc (m - (j + 1)) = omega arith in
      let n : length (map f items) ≡ j = length-map items f ∙ l in
      rw (e, d, map-append, append_snoc) (set_at (map f items) z (replicate (m - (j + 1)) z) (f a) j n)
