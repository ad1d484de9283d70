-- What carrying out a list of requests gives.
-- Assumes nothing.
use Rattle.std.specs.Prelude.{ℕ, ◌*◌, cond, ◌&&◌, List, [], ◌∷◌, leb, length}
use Rattle.model.specs.Answers.{reply_each, reply_width, reply_bytes}
use Rattle.model.specs.Request.{Request, run, answers}
use Rattle.model.specs.Seats.{Matrix, seats}
use Rattle.model.specs.Accepted.{accepted_scheme, accepted_matrix}
use Rattle.model.specs.declared.Scheme.{Scheme}
use Rattle.records.specs.Bytes.{each_bytes}
use Rattle.records.specs.Told.{Told, told}
use Rattle.records.specs.Writing.{placed}
use Rattle.records.specs.Outcome.Reading.{Reading}
use Rattle.records.specs.Outcome.Reading as reading
use Rattle.request_list.specs.List.{read_list}
use Rattle.engine.specs.Answers.{RunAnswer, Whole, Bad, Refused, Ran}

-- how a list of so many requests ended, by its reading
abbrev pub run_answer : ℕ → Reading → RunAnswer
run_answer count (reading.Done next) = Whole count
run_answer count (reading.Refused k at) = Bad count k at

-- what that tells: the number of requests; or the number of the record that can't be read, with the requests before it and its position; or the number
-- of what refused the list as a whole
abbrev pub of_run : RunAnswer → Told
of_run (Whole count) = told 0 (count ∷ [])
of_run (Bad count k at) = told k (count ∷ at ∷ [])
of_run (Refused k) = told k []

-- the bytes of the replies to all of them, one behind the other
abbrev pub replies_to : Scheme → Matrix → List Request → List ℕ
replies_to s m qs = each_bytes reply_bytes (reply_each s qs (answers seats s m qs))

-- what is given: the answer with the things, the cells, and the buffer for the replies
pub record Result : Type 0 where
  pub ran : Ran
  pub cells : List ℕ
  pub replies : List ℕ

abbrev pub refused_run : Matrix → List ℕ → ℕ → Result
refused_run m out k = record { ran = record { answer = Refused k; things = m.things }; cells = m.cells; replies = out }

-- 27 once, then 9 where the replies don't fit, before anything is carried out; then each request in turn
unfoldable pub run_on : Scheme → Matrix → List ℕ → List ℕ → Result
run_on s m bytes out =
    let l = read_list bytes in
    cond (accepted_scheme s && accepted_matrix s.head m)
    (cond (leb (reply_width * length l.requests) (length out))
    (record {
      ran = record { answer = run_answer (length l.requests) l.ending; things = (run seats s m l.requests).things };
      cells = (run seats s m l.requests).cells;
      replies = placed out 0 (replies_to s m l.requests);
    })
    (refused_run m out 9))
    (refused_run m out 27)

-- a list whose answers nobody asks for: 27 once, then each request in turn; the answer with the things, and the cells
unfoldable pub run_quietly : Scheme → Matrix → List ℕ → Ran × List ℕ
run_quietly s m bytes =
    let l = read_list bytes in
    cond (accepted_scheme s && accepted_matrix s.head m) (
      record { answer = run_answer (length l.requests) l.ending; things = (run seats s m l.requests).things },
      (run seats s m l.requests).cells,
    )
    (record { answer = Refused 27; things = m.things }, m.cells)
