-- How many steps a request takes: the tests up to the first that doesn't hold, that one included, and the operations up to the first that is refused,
-- that one included, or all of them. Counted here one by one on the matrix, in any form of it; that the steps read off an answer are just these is the
-- promise. Of the functions and of the robots' library it is said in crates/agreement (`HowManySteps`). Assumes nothing.
use Rattle.std.specs.Prelude.{ℕ, suc, ◌≤◌, ◌≡◌, cond, List, [], ◌∷◌, T, eqb, length}
use Rattle.std.proofs.Math.Option.{Option, none, some}
use Rattle.std.proofs.Math.ListN.{get_elem?}
use Rattle.rights.specs.declared.ThingType.{ThingType}
use Rattle.laws.specs.Check.{◌or_else◌, must, passes, all}
use Rattle.model.specs.Scheme.{parameters_of, tests_of, operations_of, commands_of}
use Rattle.model.specs.Request.{Request, View, Outcome, done, refused, at, answer, places_fault, holds, operate, step}
use Rattle.model.specs.Answers.{Steps, takes, steps_to, in_all}
use Rattle.model.specs.Accepted.{accepted_scheme}
use Rattle.model.specs.declared.Test.{Test}
use Rattle.model.specs.declared.Operation.{Operation}
use Rattle.model.specs.declared.Command.{Command}
use Rattle.model.specs.declared.Scheme.{Scheme}

-- those behind an operation are counted on the matrix that it leaves; behind one that is refused there are none
unfoldable pub behind : {M : Type 0} → Outcome M → (M → ℕ) → ℕ
behind (done next) f = f next
behind (refused r) f = 0

module _ {M : Type 0} (view : View M) where
  unfoldable pub evaluated : M → List ℕ → List Test → ℕ
  evaluated m ids [] = 0
  evaluated m ids (t ∷ ts) = suc (cond (holds view m ids t) (evaluated m ids ts) 0)

  -- p is the first one's place
  unfoldable pub tried : List ThingType → List ℕ → ℕ → List Operation → M → ℕ
  tried types ids p [] m = 0
  tried types ids p (o ∷ os) m = suc (behind (operate view types ids p o m) (tried types ids (suc p) os))

  -- a command is asked for nothing before its ids are in order, and for no operation before its tests hold
  unfoldable pub taken_of : M → List ℕ → Option Command → Steps
  taken_of m ids none = takes 0 0
  taken_of m ids (some c) =
      let types = parameters_of c.parameters in
      let ts = tests_of c.tests in
      let os = operations_of c.operations in
      cond (passes (must (eqb (length ids) (length types)) (at 11 0) or_else places_fault view m os 0 types ids))
      (takes (evaluated m ids ts) (cond (all (holds view m ids) ts) (tried types ids 0 os m) 0))
      (takes 0 0)

  unfoldable pub taken : Scheme → M → Request → Steps
  taken s m q = taken_of m q.ids (get_elem? (commands_of s) q.command)

pub record StepsTaken {M : Type 0} (view : View M) : Type 0 where
  -- The steps read off the answer are those that were taken.
  pub counts : (s : Scheme) (m : M) (q : Request) → steps_to s q (answer (step view s m q)) ≡ taken view s m q
  -- A request of an accepted scheme takes at most 48.
  pub few : (s : Scheme) (m : M) (q : Request) → T (accepted_scheme s) → in_all (taken view s m q) ≤ 48
