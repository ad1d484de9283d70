-- What the answer to a request is in the code: a verdict; and what is told of it, a reply, with its bytes in a buffer. `step` knows nothing of this:
-- the test's place and the steps are read off its answer.
-- Assumes nothing.
use Rattle.std.specs.Prelude.{ℕ, suc, ◌+◌, cond, List, [], ◌∷◌, eqb, length, Result, Ok, Err}
use Rattle.std.proofs.Math.Option.{Option, none, some}
use Rattle.std.proofs.Math.ListN.{get_elem?}
use Rattle.laws.specs.Check.{between}
use Rattle.model.specs.Scheme.{tests_of, operations_of, commands_of}
use Rattle.model.specs.Request.{Request, Answer, number}
use Rattle.model.specs.declared.Command.{Command}
use Rattle.model.specs.declared.Scheme.{Scheme}
use Rattle.model.specs.declared.Refusal.{Refusal}
use Rattle.model.specs.declared.Reply.{Reply}

abbrev pub verdict_of : Answer → Result (Unit {0}) Refusal
verdict_of none = Ok tt
verdict_of (some r) = Err r

-- with 14 the place of the test that doesn't hold, with every other number 255
unfoldable pub test_place : Answer → ℕ
test_place none = 255
test_place (some r) = cond (eqb r.number 14) r.place 255

-- ---- the steps: so many tests were evaluated, and so many operations carried out or refused
pub record Steps : Type 0 where
  pub tests : ℕ
  pub operations : ℕ

abbrev pub takes : ℕ → ℕ → Steps
takes t o = record { tests = t; operations = o }

-- all that a command has; none where the command doesn't exist
unfoldable pub all_steps : Option Command → Steps
all_steps none = takes 0 0
all_steps (some c) = takes (length (tests_of c.tests)) (length (operations_of c.operations))

-- of these all, where it was carried out; with 14 the tests up to the one that doesn't hold, that one included; with 15 to 17 all tests, and the
-- operations up to the one at fault, that one included; with every other number none
unfoldable pub steps_of : Steps → Answer → Steps
steps_of all none = all
steps_of all (some r) =
    cond (eqb r.number 14) (takes (suc r.place) 0)
    (cond (between 15 17 r.number) (takes all.tests (suc r.place))
    (takes 0 0))

-- all that a request asks for
abbrev pub asks_for : Scheme → Request → Steps
asks_for s q = all_steps (get_elem? (commands_of s) q.command)

unfoldable pub steps_to : Scheme → Request → Answer → Steps
steps_to s q a = steps_of (asks_for s q) a

abbrev pub in_all : Steps → ℕ
in_all t = t.tests + t.operations

-- ---- the reply: the outline's number, 0 for success, the test's place and the steps, by all that was asked for
unfoldable pub reply_of : Steps → Answer → Reply
reply_of all a = record { number = number a; test = test_place a; steps = in_all (steps_of all a) }

unfoldable pub reply_to : Scheme → Request → Answer → Reply
reply_to s q a = reply_of (asks_for s q) a

-- to each request of a list, by its answer
unfoldable pub reply_each : Scheme → List Request → List Answer → List Reply
reply_each s [] list = []
reply_each s (q ∷ qs) [] = []
reply_each s (q ∷ qs) (a ∷ list) = reply_to s q a ∷ reply_each s qs list

-- how many bytes a reply takes, and which
abbrev pub reply_width : ℕ
reply_width = 3

unfoldable pub reply_bytes : Reply → List ℕ
reply_bytes r = r.number ∷ r.test ∷ r.steps ∷ []

-- the replies that stand in a buffer, one behind the other; fewer bytes than one takes are none
unfoldable pub replies_in : List ℕ → List Reply
replies_in [] = []
replies_in (k ∷ []) = []
replies_in (k ∷ p ∷ []) = []
replies_in (k ∷ p ∷ n ∷ rest) = record { number = k; test = p; steps = n } ∷ replies_in rest
