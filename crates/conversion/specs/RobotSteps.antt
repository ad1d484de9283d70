-- How many steps a complete robot takes: as many tests as the office, and exactly twice the operations, whatever the request is answered. So where the
-- office's steps are tests + operations, the robot's are tests + 2 × operations. Demand 3's equal answers leave the steps out for this reason.
-- Assumes nothing.
use Rattle.std.specs.Prelude.{◌*◌, ◌≡◌, T}
use Rattle.model.specs.Request.{Request}
use Rattle.model.specs.Answers.{Steps}
use Rattle.model.specs.StepsTaken.{taken}
use Rattle.model.specs.Papers.{State, papers}
use Rattle.model.specs.Accepted.{accepted_scheme}
use Rattle.model.specs.declared.Scheme.{Scheme}
use Rattle.conversion.specs.Conversion.{convertible, convert_scheme}
use Rattle.conversion.specs.Demand3.{Mirrors}

pub record Doubled (office robot : Steps) : Type 0 where
  pub same_tests : robot.tests ≡ office.tests
  pub twice : robot.operations ≡ 2 * office.operations

-- Wherever the matrices mirror, as they do at the start and after each request (`Demand3`).
abbrev pub RobotSteps : Type 0
RobotSteps = (s : Scheme) (office robot : State) (q : Request) → T (accepted_scheme s) → T (convertible s) → Mirrors s.head office robot →
    Doubled (taken papers s office q) (taken papers (convert_scheme s) robot q)
