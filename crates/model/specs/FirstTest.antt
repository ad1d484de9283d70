-- Which test stopped a request: the first of the command's tests, in its own order, that doesn't hold. Said here of any form of a matrix; of the
-- functions and of the robots' library in crates/agreement (`WhichTest`). Assumes nothing.
use Rattle.std.specs.Prelude.{ℕ, ◌≡◌, ◌≢◌, false, List, ◌∷◌, ◌++◌, T, length}
use Rattle.std.proofs.Math.Option.{some}
use Rattle.std.proofs.Math.ListN.{get_elem?}
use Rattle.laws.specs.Check.{all}
use Rattle.model.specs.Scheme.{tests_of, commands_of}
use Rattle.model.specs.Request.{Request, View, at, answer, holds, tests_fault, step}
use Rattle.model.specs.Answers.{reply_to}
use Rattle.model.specs.declared.Test.{Test}
use Rattle.model.specs.declared.Command.{Command}
use Rattle.model.specs.declared.Reply.{Reply}
use Rattle.model.specs.declared.Scheme.{Scheme}

-- of these tests the one at place k, from 0, is the first that doesn't hold
pub record FirstFalse {M : Type 0} (view : View M) (m : M) (ids : List ℕ) (ts : List Test) (k : ℕ) : Type 0 where
  pub before : List Test
  pub test : Test
  pub later : List Test
  pub are : ts ≡ before ++ test ∷ later
  pub place : k ≡ length before
  pub hold : T (all (holds view m ids) before)
  pub fails : holds view m ids test ≡ false

-- what a reply says of the tests of the command that was asked for: with 14 the place of the first that doesn't hold, with every other number 255
pub record TellsTest {M : Type 0} (view : View M) (s : Scheme) (m : M) (q : Request) (r : Reply) : Type 0 where
  pub stopped : r.number ≡ 14 →
      (c : Command) × (get_elem? (commands_of s) q.command ≡ some c) × FirstFalse view m q.ids (tests_of c.tests) r.test
  pub otherwise : r.number ≢ 14 → r.test ≡ 255

pub record FirstTest {M : Type 0} (view : View M) : Type 0 where
  -- The first test that doesn't hold is the fault, whatever the tests behind it say.
  pub stops : (m : M) (ids : List ℕ) (ts : List Test) (k : ℕ) → FirstFalse view m ids ts k → tests_fault view m ids 0 ts ≡ some (at 14 k)
  -- The reply to a request tells its place.
  pub tells : (s : Scheme) (m : M) (q : Request) → TellsTest view s m q (reply_to s q (answer (step view s m q)))
