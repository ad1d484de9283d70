-- A check passes, or gives its fault, of any kind; of several the first fault counts.
-- Assumes nothing.
use Rattle.std.specs.Prelude.{ℕ, Bool, true, false, ◌&&◌, ◌||◌, List, [], ◌∷◌, eqb, leb, length, drop}
use Rattle.std.proofs.Math.Option.{Option, none, some}

-- no fault, or the number of one: the kind of all that is read; a request's faults are refusals
abbrev pub Fault : Type 0
Fault = Option ℕ

infixr 20 ◌or_else◌
unfoldable pub ◌or_else◌ : {K : Type 0} → Option K → Option K → Option K
◌or_else◌ none later = later
◌or_else◌ (some k) later = some k

-- this must hold; if it doesn't, the fault is k
unfoldable pub must : {K : Type 0} → Bool → K → Option K
must true k = none
must false k = some k

unfoldable pub passes : {K : Type 0} → Option K → Bool
passes none = true
passes (some k) = false

unfoldable pub is_some : {A : Type 0} → Option A → Bool
is_some none = false
is_some (some a) = true

unfoldable pub any : {A : Type 0} → (A → Bool) → List A → Bool
any f [] = false
any f (x ∷ xs) = f x || any f xs

unfoldable pub all : {A : Type 0} → (A → Bool) → List A → Bool
all f [] = true
all f (x ∷ xs) = f x && all f xs

-- the first fault of a list's elements
unfoldable pub first_fault : {A : Type 0} → (A → Fault) → List A → Fault
first_fault f [] = none
first_fault f (x ∷ xs) = f x or_else first_fault f xs

-- every element is so, as a claim and not as a test
abbrev pub Each : {A : Type 0} → (A → Type 0) → List A → Type 0
Each P [] = Unit {0}
Each P (x ∷ xs) = P x × Each P xs

-- from low to high
unfoldable pub between : ℕ → ℕ → ℕ → Bool
between low high x = leb low x && leb x high

-- an array of so many places, of which the first `count` are used and the others are at zero
unfoldable pub padded : {A : Type 0} → (A → Bool) → ℕ → ℕ → List A → Bool
padded zero? many count list = eqb (length list) many && all zero? (drop count list)
