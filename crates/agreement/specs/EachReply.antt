-- What is promised of the answer to each request, said once for the functions and for what robots link: in memory and in bytes the answer tells of the
-- papers' matrix. `WhichTest` and `HowManySteps` say it of a test's place and of the steps. Assumes nothing.
use Rattle.std.specs.Prelude.{ℕ, ◌≡◌, ◌≢◌, List, length}
use Rattle.model.specs.Request.{Request}
use Rattle.model.specs.Answers.{replies_in}
use Rattle.model.specs.Papers.{State}
use Rattle.model.specs.Seats.{Matrix, stands_for}
use Rattle.model.specs.declared.Reply.{Reply}
use Rattle.model.specs.declared.Scheme.{Scheme}
use Rattle.request_list.specs.List.{read_list}
use Rattle.engine.specs.Step.{request_on}
use Rattle.engine.specs.List.{run_on}
use Rattle.engine.specs.Answers.{Refused}
use Rattle.robot.specs.Library.{run_bytes}
use Rattle.agreement.specs.LibraryAgrees.{stored, Bytes, IsScheme, IsMatrix}
use Rattle.agreement.specs.Replies.{ToEach}

pub record EachReply (Tells : Scheme → State → Request → Reply → Type 0) : Type 0 where
  -- `request`, whatever it is handed, a stranger's included.
  pub request : (s : Scheme) (m : Matrix) (command : ℕ) (ids : List ℕ) →
      Tells s (stands_for m) (record { command = command; ids = ids }) (request_on s m command ids).0.answer
  -- `run_list`, unless the list was refused as a whole: the replies that it stored.
  pub list : (s : Scheme) (m : Matrix) (bytes out : List ℕ) → ((k : ℕ) → (run_on s m bytes out).ran.answer ≢ Refused k) →
      ToEach (Tells s) s (stands_for m) (read_list bytes).requests (replies_in (run_on s m bytes out).replies)
  -- `slushferret_run` that gave 0: it stored an answer to each request that can be read, as its report says, and these tell.
  pub call : (scheme matrix requests answers out : List ℕ) → Bytes scheme → Bytes matrix → (run_bytes scheme matrix requests answers out).called.number ≡ 0 →
      (s : Scheme) × (m : Matrix) × IsScheme scheme s × IsMatrix matrix s m
      × (stored (run_bytes scheme matrix requests answers out).called ≡ length (read_list requests).requests)
      × ToEach (Tells s) s (stands_for m) (read_list requests).requests (replies_in (run_bytes scheme matrix requests answers out).answers)
