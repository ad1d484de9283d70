-- How many steps a request took, of the functions and of the library: 27 counts none, and no request of an accepted scheme is answered 27.
-- Assumes nothing.
use native.Mathlib.Omega.{arith}
use mathlib.Core.Path.{◌≡◌, refl}
use mathlib.Core.Logic.{◌≢◌}
use mathlib.Core.Option.{none, some}
use lib.Dec.{T, leb, leb→le}
use Rattle.laws.specs.Check.{between}
use Rattle.laws.proofs.Bools.{and_right}
use Rattle.model.specs.Request.{Request, at, Answer, answer, number, step}
use Rattle.model.specs.Answers.{steps_of, steps_to, in_all, reply_of, reply_to}
use Rattle.model.specs.StepsTaken.{taken}
use Rattle.model.specs.Papers.{State, papers}
use Rattle.model.specs.Accepted.{accepted_scheme}
use Rattle.model.specs.Promises.{tells_request}
use Rattle.model.specs.declared.Scheme.{Scheme}
use Rattle.model.proofs.Numbers.{request_numbers}
use Rattle.model.proofs.StepsTaken.{steps_taken}
use Rattle.agreement.specs.HowManySteps.{TellsSteps, HowManySteps}
use Rattle.agreement.proofs.EachReply.{each_reply}

stranger : (s : Scheme) (m : State) (q : Request) → TellsSteps s m q (reply_to s q (some (at 27 0)))
unfolding reply_to reply_of steps_of between number
stranger s m q = record { stranger = λ e. refl; counted = λ n. absurd (n refl); few = omega arith }

no_stranger : (a : Answer) → T (tells_request a) → number a ≢ 27
unfolding tells_request between number
no_stranger none t e = absurd (omega arith)
no_stranger (some r) t e =
    let high = leb→le r.number 18 (and_right (leb 10 r.number) _ t) in
    absurd (omega arith)

known : (s : Scheme) → T (accepted_scheme s) → (m : State) (q : Request) → TellsSteps s m q (reply_to s q (answer (step papers s m q)))
unfolding reply_to reply_of steps_to
known s ok m q =
    let read : in_all (steps_to s q (answer (step papers s m q))) ≡ in_all (taken papers s m q) = rw ((steps_taken papers).counts s m q) in
    let other = no_stranger _ (request_numbers State papers s m q) in
    record { stranger = λ e. absurd (other e); counted = λ n. read; few = rw read ((steps_taken papers).few s m q ok) }

pub how_many_steps : HowManySteps
how_many_steps = each_reply TellsSteps stranger known
