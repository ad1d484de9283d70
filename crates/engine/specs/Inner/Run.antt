-- A list of requests on an accepted scheme and matrix, whether or not the replies fit.
-- Assumes nothing.
use Rattle.std.specs.Prelude.{ℕ, List, length}
use Rattle.std.proofs.lemmas.List.Edits.{sets}
use Rattle.model.specs.Request.{run}
use Rattle.model.specs.Seats.{Matrix, seats}
use Rattle.model.specs.declared.Scheme.{Scheme}
use Rattle.request_bytes.specs.Outcome.RequestReading.{RequestReading}
use Rattle.request_bytes.specs.Outcome.RequestReading.{Done, End, Refused}
use Rattle.request_list.specs.List.{read_list}
use Rattle.engine.specs.List.{run_answer, replies_to, Result}
use Rattle.engine.specs.Answers.{RunAnswer, Whole, Bad}

-- how a list of so many requests ended, by the reading that gave no further one
abbrev pub ended_by : ℕ → RequestReading → RunAnswer
ended_by count (Done next) = Whole count
ended_by count End = Whole count
ended_by count (Refused k at) = Bad count k at

-- each request in turn: `sets` stores replies as far as the buffer has room
unfoldable pub ran_on : Scheme → Matrix → List ℕ → List ℕ → Result
ran_on s m bytes out =
    let rs = (read_list bytes).requests in
    record {
      ran = record { answer = run_answer (length rs) (read_list bytes).ending; things = (run seats s m rs).things };
      cells = (run seats s m rs).cells;
      replies = sets out 0 (replies_to s m rs);
    }
