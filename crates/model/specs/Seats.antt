-- The seats' view of a matrix, which is what lives in memory: 48 seats, and a cell [X, Y] at row seat times 48 plus column seat.
-- A created thing takes the first free seat; no create or destroy moves another thing or its cells. Assumes nothing.
use Rattle.std.specs.Prelude.{ℕ, zero, suc, ◌+◌, ◌*◌, ◌/◌, ◌%◌, max, Bool, false, not, cond, ◌&&◌, ◌||◌, List, [], ◌∷◌, eqb, ltb, get_or, set, replicate}
use Rattle.std.proofs.Math.Option.{Option, none, some}
use Rattle.rights.specs.Sets.{enter_right, delete_right}
use Rattle.rights.specs.declared.ThingType.{ThingType}
use Rattle.model.specs.Request.{Thing, of_type, View}
use Rattle.model.specs.Papers.{Population, State}
use Rattle.model.specs.declared.Things.{Things}
use Rattle.model.specs.Scheme.{no_type}

pub record Matrix : Type 0 where
  pub things : Things
  pub cells : List ℕ

-- things and cells, lent apart from each other, as one matrix
abbrev pub matrix_of : Things → List ℕ → Matrix
matrix_of th cells = record { things = th; cells = cells }

-- every seat is free, and there never was a thing
abbrev pub no_things : Things
no_things = record { ids = replicate 48 0; types = replicate 48 no_type; marks = replicate 48 false; highest = 0 }

-- the same seats, where x is the highest id that there ever was
abbrev pub with_highest : ℕ → Things → Things
with_highest x th = record { ids = th.ids; types = th.types; marks = th.marks; highest = x }

-- is x among the ids, and at which seat first?
unfoldable pub among : List ℕ → ℕ → Bool
among [] x = false
among (y ∷ ys) x = eqb y x || among ys x

unfoldable pub find : List ℕ → ℕ → ℕ
find [] x = zero
find (y ∷ ys) x = cond (eqb y x) zero (suc (find ys x))

unfoldable pub known : Things → ℕ → Bool
known th x = not (eqb x 0) && among th.ids x

unfoldable pub full : Things → Bool
full th = not (among th.ids 0)

unfoldable pub seat : Things → ℕ → ℕ
seat th x = find th.ids x

-- what sits at seat i
unfoldable pub thing_in : Things → ℕ → Thing
thing_in th i = record { type = get_or th.types i no_type; on_hold = get_or th.marks i false }

unfoldable pub thing_at : Things → ℕ → Option Thing
thing_at th x = cond (known th x) (some (thing_in th (seat th x))) none

-- may x take a seat? Only above the highest; and above it, in an accepted matrix, no id is a thing's
unfoldable pub may_take : Things → ℕ → Bool
may_take th x = ltb th.highest x

-- the papers' things that a memory stands for
unfoldable pub paper_things : Things → Population
paper_things th = record { thing = thing_at th; highest = th.highest }

-- where the cell of row X and column Y stands, and what it holds
unfoldable pub place : Things → ℕ → ℕ → ℕ
place th x y = seat th x * 48 + seat th y

unfoldable pub cell : Matrix → ℕ → ℕ → ℕ
cell m x y = get_or m.cells (place m.things x y) 0

unfoldable pub change : (ℕ → ℕ) → ℕ → ℕ → Matrix → Matrix
change f x y m = record { things = m.things; cells = set m.cells (place m.things x y) (f (cell m x y)) }

-- the thing at seat p is x, and is t; the highest id is at least x (0, for nobody, never raises it)
unfoldable pub put_thing : ℕ → ℕ → Thing → Things → Things
put_thing p x t th = record {
  ids = set th.ids p x;
  types = set th.types p t.type;
  marks = set th.marks p t.on_hold;
  highest = max th.highest x;
}

-- the cells with row p and column p emptied; k is the place of the first cell of the list
unfoldable pub blank : ℕ → ℕ → List ℕ → List ℕ
blank p k [] = []
blank p k (c ∷ cs) = cond (eqb (k / 48) p || eqb (k % 48) p) 0 c ∷ blank p (suc k) cs

-- a free seat's cells are empty already, so a create stores to no cell
unfoldable pub add : ℕ → ThingType → Matrix → Matrix
add x t m = record { things = put_thing (seat m.things 0) x (of_type t) m.things; cells = m.cells }

unfoldable pub remove : ℕ → Matrix → Matrix
remove x m = record { things = put_thing (seat m.things x) 0 (of_type no_type) m.things; cells = blank (seat m.things x) 0 m.cells }

unfoldable pub seats : View Matrix
seats = record {
  thing = λ m x. thing_at m.things x;
  cell = cell;
  may_create = λ m x. may_take m.things x;
  full = λ m. full m.things;
  enter = λ r x y m. change (enter_right r.0) x y m;
  delete = λ r x y m. change (delete_right r.0) x y m;
  create = add;
  destroy = remove;
}

-- the papers' matrix that a memory stands for
unfoldable pub stands_for : Matrix → State
stands_for m = record {
  things = paper_things m.things;
  rights = λ x y. cond (known m.things x && known m.things y) (cell m x y) 0;
}
