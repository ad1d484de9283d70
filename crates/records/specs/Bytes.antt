-- Numbers as bytes, little-endian, and a record's bytes.
-- Assumes nothing.
use Rattle.std.specs.Prelude.{ℕ, zero, suc, ◌+◌, ◌*◌, ◌/◌, ◌%◌, List, [], ◌∷◌, ◌++◌, length, take, drop, get_or}

-- the number v in w bytes
unfoldable pub little_endian : ℕ → ℕ → List ℕ
little_endian zero v = []
little_endian (suc w) v = v % 256 ∷ little_endian w (v / 256)

-- a record: a 2-byte length of its body, a 2-byte kind, then the body
unfoldable pub record_bytes : ℕ → List ℕ → List ℕ
record_bytes kind body = little_endian 2 (length body) ++ little_endian 2 kind ++ body

-- the number in the two bytes at i, and the part of so many bytes from a start on
unfoldable pub number2 : List ℕ → ℕ → ℕ
number2 s i = get_or s i 0 + 256 * get_or s (i + 1) 0

unfoldable pub part : List ℕ → ℕ → ℕ → List ℕ
part s start len = take len (drop start s)

-- the bytes of each, one behind the other
abbrev pub each_bytes : {A : Type 0} → (A → List ℕ) → List A → List ℕ
each_bytes f [] = []
each_bytes f (x ∷ xs) = f x ++ each_bytes f xs
