-- Which test stopped a request, of the functions and of the library: 27 is no test's, and of the others the model tells it.
-- Assumes nothing.
use native.Mathlib.Omega.{arith}
use mathlib.Core.Path.{refl}
use mathlib.Core.Option.{some}
use Rattle.model.specs.Request.{Request, at, number}
use Rattle.model.specs.Answers.{test_place, reply_of, reply_to}
use Rattle.model.specs.Papers.{State, papers}
use Rattle.model.specs.FirstTest.{TellsTest}
use Rattle.model.specs.declared.Scheme.{Scheme}
use Rattle.model.proofs.FirstTest.{first_test}
use Rattle.agreement.specs.WhichTest.{WhichTest}
use Rattle.agreement.proofs.EachReply.{each_reply}

stranger : (s : Scheme) (m : State) (q : Request) → TellsTest papers s m q (reply_to s q (some (at 27 0)))
unfolding reply_to reply_of number test_place
stranger s m q = record { stopped = λ e. absurd (omega arith); otherwise = λ e. refl }

pub which_test : WhichTest
which_test = each_reply (TellsTest papers) stranger (λ s ok m q. (first_test papers).tells s m q)
