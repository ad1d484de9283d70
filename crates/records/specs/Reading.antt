-- Reading in field order: a reader takes what is left of its input and gives a value and what is then left, or its first fault. Readers are put
-- one after the other by `do`, so the first fault is that of the first line that fails.
-- The input is what is left of a body (a list of bytes) or a position; a fault is a number, or a number with a position. Assumes nothing.
use Rattle.std.specs.Prelude.{ℕ, zero, suc, ◌+◌, ◌*◌, Bool, true, false, ◌&&◌, List, [], ◌∷◌, leb, ltb}

infixr 10 ◌>>=◌
infixr 10 ◌>>◌
pub data Read (I F A : Type 0) : Type 0 where
  got : A → I → Read I F A
  fault : F → Read I F A

abbrev pub Reader : Type 0 → Type 0 → Type 0 → Type 0
Reader I F A = I → Read I F A

-- ---- in sequence
module _ {I F A B : Type 0} where
  abbrev pub bind : Read I F A → (A → Reader I F B) → Read I F B
  bind (got a i) f = f a i
  bind (fault k) f = fault k

  abbrev pub ◌>>=◌ : Reader I F A → (A → Reader I F B) → Reader I F B
  ◌>>=◌ p f = λ i. bind (p i) f

  abbrev pub ◌>>◌ : Reader I F A → Reader I F B → Reader I F B
  ◌>>◌ p q = λ i. bind (p i) (λ _. q)

module _ {I F A : Type 0} where
  abbrev pub done : A → Reader I F A
  done a = λ i. got a i

-- ---- a check of what was read
module _ {I F : Type 0} where
  abbrev pub check : Bool → F → Reader I F Unit
  check true k = λ i. got tt i
  check false k = λ i. fault k

-- ---- so many, each read in the state that those before it left
module _ {I F A S : Type 0} (p : S → Reader I F A) (next : S → A → S) where
  abbrev pub steps : ℕ → S → Reader I F (List A)
  steps zero s = done []
  steps (suc n) s = do
    a ← p s
    xs ← steps n (next s a)
    done (a ∷ xs)

-- ---- the fields of a body; where the body ends inside a field, or has bytes after its last, the fault is 3
abbrev pub Body : Type 0 → Type 0
Body A = Reader (List ℕ) ℕ A

abbrev pub byte : Body ℕ
byte [] = fault 3
byte (b ∷ rest) = got b rest

-- a little-endian number of w bytes
abbrev pub number : ℕ → Body ℕ
number zero = done 0
number (suc w) = do
  low ← byte
  high ← number w
  done (low + 256 * high)

-- a byte from low on and below limit; another is the fault k
unfoldable pub field : ℕ → ℕ → ℕ → Body ℕ
field low limit k = do
  v ← byte
  check (leb low v && ltb v limit) k
  done v

abbrev pub end : Body Unit
end [] = got tt []
end (b ∷ rest) = fault 3

-- a body that is read to its end
unfoldable pub whole : {A : Type 0} → Body A → Body A
whole p = do
  a ← p
  end
  done a
