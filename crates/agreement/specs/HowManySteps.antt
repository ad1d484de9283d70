-- How many steps a request took, said of the functions and of what robots link: the answer reports the tests that were evaluated and the operations that
-- were carried out or refused, counted one by one on the papers' matrix (`taken`, in crates/model), and never more than 48. Assumes nothing.
use Rattle.std.specs.Prelude.{◌≤◌, ◌≡◌, ◌≢◌}
use Rattle.model.specs.Request.{Request}
use Rattle.model.specs.Answers.{in_all}
use Rattle.model.specs.StepsTaken.{taken}
use Rattle.model.specs.Papers.{State, papers}
use Rattle.model.specs.declared.Reply.{Reply}
use Rattle.model.specs.declared.Scheme.{Scheme}
use Rattle.agreement.specs.EachReply.{EachReply}

pub record TellsSteps (s : Scheme) (m : State) (q : Request) (r : Reply) : Type 0 where
  -- nothing was looked at for a stranger
  pub stranger : r.number ≡ 27 → r.steps ≡ 0
  pub counted : r.number ≢ 27 → r.steps ≡ in_all (taken papers s m q)
  pub few : r.steps ≤ 48

abbrev pub HowManySteps : Type 0
HowManySteps = EachReply TellsSteps
