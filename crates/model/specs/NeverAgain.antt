-- No id is ever created twice. In any run, of any scheme, from any accepted matrix, the ids that the creates take rise, each above every id that there ever
-- was; and an id that was ever a thing's and is gone is never a thing's again. Said here of the papers' matrix; of the functions and of the robots' library
-- in crates/agreement (`NeverAgain`). Assumes nothing.
use Rattle.std.specs.Prelude.{ℕ, Bool, true, cond, ◌&&◌, List, [], ◌∷◌, ◌++◌, ◌≡◌, T, ltb}
use Rattle.std.proofs.Math.Option.{Option, none, some}
use Rattle.std.proofs.Math.ListN.{get_elem?}
use Rattle.laws.specs.Check.{is_some}
use Rattle.model.specs.Scheme.{operations_of, commands_of, id_at, is_create}
use Rattle.model.specs.Request.{Request, View, Outcome, done, refused, after, step, run}
use Rattle.model.specs.Papers.{State, papers}
use Rattle.model.specs.Seats.{Matrix, stands_for}
use Rattle.model.specs.Accepted.{accepted_scheme, accepted_matrix}
use Rattle.model.specs.declared.Operation.{Operation}
use Rattle.model.specs.declared.Command.{Command}
use Rattle.model.specs.declared.Scheme.{Scheme}

-- the ids that the creates among these operations name, in their order
unfoldable pub created_of : List ℕ → List Operation → List ℕ
created_of ids [] = []
created_of ids (o ∷ os) = cond (is_create o.code) (id_at ids o.row ∷ created_of ids os) (created_of ids os)

unfoldable pub created_if : Request → Option Command → List ℕ
created_if q none = []
created_if q (some c) = created_of q.ids (operations_of c.operations)

-- what is refused creates nothing
unfoldable pub if_done : {M : Type 0} → Outcome M → List ℕ → List ℕ
if_done (done m) xs = xs
if_done (refused r) xs = []

-- the ids that a request creates; and a list of them, one behind the other
module _ {M : Type 0} (view : View M) where
  unfoldable pub created_by : Scheme → M → Request → List ℕ
  created_by s m q = if_done (step view s m q) (created_if q (get_elem? (commands_of s) q.command))

  unfoldable pub created_in : Scheme → M → List Request → List ℕ
  created_in s m [] = []
  created_in s m (q ∷ qs) = created_by s m q ++ created_in s (after m (step view s m q)) qs

-- each is above the one before it, and the first above k
unfoldable pub rises_from : ℕ → List ℕ → Bool
rises_from k [] = true
rises_from k (x ∷ xs) = ltb k x && rises_from x xs

pub record NeverAgain : Type 0 where
  -- All ids that a run creates rise, from above the highest that there ever was: so none of them is created twice, and none up to that highest (in an
  -- accepted matrix, of no thing that was there before) is created at all.
  pub rise : (s : Scheme) (m : State) (qs : List Request) → T (rises_from m.things.highest (created_in papers s m qs))
  -- An id was a thing's after some requests of a run (after none: at its start), and after more of them it isn't any more. Then it never is again, whatever
  -- is asked later.
  pub gone : (s : Scheme) (m : Matrix) (before between later : List Request) (x : ℕ) → T (accepted_scheme s) → T (accepted_matrix s.head m) →
      T (is_some ((run papers s (stands_for m) before).things.thing x)) →
      (run papers s (stands_for m) (before ++ between)).things.thing x ≡ none →
      (run papers s (stands_for m) (before ++ between ++ later)).things.thing x ≡ none
