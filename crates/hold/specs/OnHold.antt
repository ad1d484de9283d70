-- A thing on hold takes part in nothing. No request that names it, other than as new, is carried out; and no request at all, of any scheme, changes its
-- mark, its type, or a cell between it and a thing that is there before and after. Said here of the papers' matrix; of the functions and of the robots'
-- library in crates/agreement (`OnHold`). Assumes nothing.
use Rattle.std.specs.Prelude.{ℕ, suc, Bool, false, not, ◌&&◌, ◌||◌, List, [], ◌∷◌, ◌≡◌, T, eqb}
use Rattle.std.proofs.Math.Option.{Option, none, some}
use Rattle.std.proofs.Math.ListN.{get_elem?}
use Rattle.rights.specs.Numberings.{parameter}
use Rattle.laws.specs.Check.{is_some, between}
use Rattle.model.specs.Scheme.{operations_of, commands_of, is_new}
use Rattle.model.specs.Request.{Request, Thing, Answer, answer, step, run}
use Rattle.model.specs.Papers.{State, papers}
use Rattle.model.specs.Seats.{Matrix, stands_for}
use Rattle.model.specs.Accepted.{accepted_matrix}
use Rattle.model.specs.declared.Operation.{Operation}
use Rattle.model.specs.declared.Command.{Command}
use Rattle.model.specs.declared.Head.{Head}
use Rattle.model.specs.declared.Scheme.{Scheme}

-- is X the id at a place, from p on, whose parameter these operations don't create?
unfoldable pub names_from : List Operation → ℕ → List ℕ → ℕ → Bool
names_from os p [] x = false
names_from os p (y ∷ ys) x = not (is_new os (parameter p)) && eqb y x || names_from os (suc p) ys x

-- a command that there isn't creates nothing
unfoldable pub operations_if : Option Command → List Operation
operations_if none = []
operations_if (some c) = operations_of c.operations

-- the request names X other than as new
unfoldable pub takes_part : Scheme → Request → ℕ → Bool
takes_part s q x = names_from (operations_if (get_elem? (commands_of s) q.command)) 0 q.ids x

-- refused before any test is looked at: 10 to 13, or 18
unfoldable pub refused_early : Answer → Bool
refused_early none = false
refused_early (some r) = between 10 13 r.number || eqb r.number 18

-- X is there, and is on hold
pub record IsOnHold (m : State) (x : ℕ) (t : Thing) : Type 0 where
  pub there : m.things.thing x ≡ some t
  pub on_hold : T t.on_hold

pub record OnHold : Type 0 where
  -- A request that names it, other than as new, is refused before any of its tests, in any matrix.
  pub takes_no_part : (s : Scheme) (m : State) (q : Request) (x : ℕ) (t : Thing) → IsOnHold m x t → T (takes_part s q x) → T (refused_early (answer (step papers s m q)))
  -- In an accepted matrix no run of any scheme destroys it, or changes its type or its mark.
  pub stays : (s : Scheme) (h : Head) (m : Matrix) (qs : List Request) (x : ℕ) (t : Thing) → T (accepted_matrix h m) → IsOnHold (stands_for m) x t →
      (run papers s (stands_for m) qs).things.thing x ≡ some t
  -- Nor does one change a cell between it and a thing that is there before and after, in its row or in its column.
  pub keeps_row : (s : Scheme) (h : Head) (m : Matrix) (qs : List Request) (x y : ℕ) (t : Thing) → T (accepted_matrix h m) → IsOnHold (stands_for m) x t →
      T (is_some ((stands_for m).things.thing y)) → T (is_some ((run papers s (stands_for m) qs).things.thing y)) →
      (run papers s (stands_for m) qs).rights x y ≡ (stands_for m).rights x y
  pub keeps_column : (s : Scheme) (h : Head) (m : Matrix) (qs : List Request) (x y : ℕ) (t : Thing) → T (accepted_matrix h m) → IsOnHold (stands_for m) x t →
      T (is_some ((stands_for m).things.thing y)) → T (is_some ((run papers s (stands_for m) qs).things.thing y)) →
      (run papers s (stands_for m) qs).rights y x ≡ (stands_for m).rights y x

-- Requests change no mark and no type: in an accepted matrix, what is there before and after any run of any scheme is the same thing, on hold or not; and
-- what is new isn't on hold.
pub record MarksKept : Type 0 where
  pub same : (s : Scheme) (h : Head) (m : Matrix) (qs : List Request) (x : ℕ) (t u : Thing) → T (accepted_matrix h m) →
      (stands_for m).things.thing x ≡ some t → (run papers s (stands_for m) qs).things.thing x ≡ some u → u ≡ t
  pub new : (s : Scheme) (m : State) (qs : List Request) (x : ℕ) (u : Thing) →
      m.things.thing x ≡ none → (run papers s m qs).things.thing x ≡ some u → u.on_hold ≡ false
