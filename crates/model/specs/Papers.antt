-- The papers' view of a matrix (document 000, section 2.1: the protection state), by ids alone.
-- Assumes nothing.
use Rattle.std.specs.Prelude.{ℕ, zero, suc, ◌+◌, max, Bool, false, not, cond, ◌&&◌, ◌||◌, eqb, leb, ltb}
use Rattle.std.proofs.Math.Option.{Option, none, some}
use Rattle.rights.specs.Sets.{enter_right, delete_right}
use Rattle.rights.specs.declared.ThingType.{ThingType}
use Rattle.laws.specs.Check.{is_some}
use Rattle.model.specs.Scheme.{is_subject}
use Rattle.model.specs.Request.{Thing, of_type, View}
use Rattle.model.specs.declared.Head.{Head}

-- OBJ and t: which things exist, and what each is; and the highest id that there ever was
pub record Population : Type 0 where
  pub thing : ℕ → Option Thing
  pub highest : ℕ

-- and AM: the set of rights in [X, Y], empty where there is no such cell
pub record State : Type 0 where
  pub things : Population
  pub rights : ℕ → ℕ → ℕ

-- [X, Y] is a cell if X is a subject and Y a thing
abbrev pub is_subject_thing : Head → Option Thing → Bool
is_subject_thing h none = false
is_subject_thing h (some t) = is_subject h t.type

unfoldable pub cell_exists : Head → State → ℕ → ℕ → Bool
cell_exists h m x y = is_subject_thing h (m.things.thing x) && is_some (m.things.thing y)

-- how many ids from 1 to k pass
unfoldable pub count_ids : ℕ → (ℕ → Bool) → ℕ
count_ids zero f = 0
count_ids (suc k) f = count_ids k f + cond (f (suc k)) 1 0

-- how many things exist
unfoldable pub how_many : Population → ℕ
how_many th = count_ids 65535 (λ x. is_some (th.thing x))

-- an id may be created if it doesn't exist and is above the highest that there ever was
unfoldable pub may_create : Population → ℕ → Bool
may_create th x = not (is_some (th.thing x)) && ltb th.highest x

-- one cell changed; all cells of X emptied
unfoldable pub change_cell : (ℕ → ℕ) → ℕ → ℕ → (ℕ → ℕ → ℕ) → ℕ → ℕ → ℕ
change_cell f x y rights a b = cond (eqb a x && eqb b y) (f (rights a b)) (rights a b)

unfoldable pub emptied : ℕ → (ℕ → ℕ → ℕ) → ℕ → ℕ → ℕ
emptied x rights a b = cond (eqb a x || eqb b x) 0 (rights a b)

-- X is now this
unfoldable pub now_is : ℕ → Option Thing → (ℕ → Option Thing) → ℕ → Option Thing
now_is x now thing a = cond (eqb a x) now (thing a)

unfoldable pub now_has : ℕ → Option Thing → Population → Population
now_has x now th = record { thing = now_is x now th.thing; highest = th.highest }

-- there was an X, so the highest id is at least X
unfoldable pub reached : ℕ → Population → Population
reached x th = record { thing = th.thing; highest = max th.highest x }

unfoldable pub born : ℕ → ThingType → Population → Population
born x t th = reached x (now_has x (some (of_type t)) th)

unfoldable pub gone : ℕ → Population → Population
gone x th = now_has x none th

-- the operations; a create of a subject type adds a row and a column, one of another type a column, all empty
unfoldable pub papers : View State
papers = record {
  thing = λ m x. m.things.thing x;
  cell = λ m x y. m.rights x y;
  may_create = λ m x. may_create m.things x;
  full = λ m. leb 48 (how_many m.things);
  enter = λ r x y m. record { things = m.things; rights = change_cell (enter_right r.0) x y m.rights };
  delete = λ r x y m. record { things = m.things; rights = change_cell (delete_right r.0) x y m.rights };
  create = λ x t m. record { things = born x t m.things; rights = emptied x m.rights };
  destroy = λ x m. record { things = gone x m.things; rights = emptied x m.rights };
}
