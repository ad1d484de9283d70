-- The robots' library: functions on bytes and numbers only. Each gives a number, 0 for success, and puts five numbers into a lent report: where the
-- fault lies, its position, how many answers were stored, how many bytes were written, and the number of a record of a list that can't be read.
-- A call that gives a number other than 0 has stored nothing but the report. Assumes nothing.
use Rattle.std.specs.Prelude.{ℕ, ◌*◌, Bool, true, false, cond, List, [], ◌∷◌, leb, eqb, length, replicate}
use Rattle.std.proofs.lemmas.List.Edits.{sets}
use Rattle.model.specs.Request.{Outcome, done, refused, run}
use Rattle.model.specs.Answers.{reply_width}
use Rattle.model.specs.Seats.{Matrix, matrix_of, seats, no_things}
use Rattle.model.specs.declared.Scheme.{Scheme}
use Rattle.model.specs.declared.Things.{Things}
use Rattle.records.specs.Writing.{placed}
use Rattle.records.specs.Outcome.Reading.{Reading}
use Rattle.records.specs.Outcome.Reading.{Done, Refused}
use Rattle.records.specs.Outcome.Writing.{Writing}
use Rattle.records.specs.Outcome.Writing as writing
use Rattle.scheme_bytes.specs.Answers.{read_scheme}
use Rattle.matrix_bytes.specs.Answers.{read_matrix}
use Rattle.matrix_bytes.specs.Write.{matrix_bytes, write_matrix}
use Rattle.matrix_bytes.specs.MatrixAnswer.{MatrixAnswer}
use Rattle.request_bytes.specs.Write.{write_request}
use Rattle.request_list.specs.List.{Listed, read_list}
use Rattle.engine.specs.List.{replies_to}
use Rattle.hold.specs.Marking.{mark_thing}
use Rattle.convert.specs.Convert.{convert_scheme_into, convert_matrix_into}
use Rattle.moving.specs.Answers.{forward_into, back_into}
use Rattle.moving.specs.Outcome.Moved.{Moved}
use Rattle.moving.specs.Outcome.Moved as moving
use Rattle.model.specs.Arrays.{no_scheme}

-- ---- what every function gives

-- the number, and the five numbers of the report
pub record Called : Type 0 where
  pub number : ℕ
  pub report : List ℕ

-- where a fault lies: 1 the scheme, 2 the matrix, 3 the list of requests, 4 the answers' buffer, 5 the output; 0 where there is none
abbrev pub call : ℕ → ℕ → ℕ → ℕ → ℕ → Called
call number where' at count written = record { number = number; report = where' ∷ at ∷ count ∷ written ∷ 0 ∷ [] }

-- a list that a record which can't be read has ended, at a position and with a number of its own; what came before it was carried out
abbrev pub cut_short : ℕ → ℕ → ℕ → ℕ → Called
cut_short number at count written = record { number = 0; report = 3 ∷ at ∷ count ∷ written ∷ number ∷ [] }

-- what a report holds afterwards: the first five of its numbers are put, as far as there is room
unfoldable pub reported : List ℕ → Called → List ℕ
reported report c = sets report 0 c.report

-- what a call with such a report leaves: its number, and what the report then holds
abbrev pub gives : List ℕ → Called → ℕ × List ℕ
gives report c = (c.number, reported report c)

-- ---- what is read first: a scheme, and a matrix of it, from bytes. `refused` makes an answer of a number, where the fault lies and its position;
-- `next` makes one of what was read and its length
module _ {A : Type 0} (refused : ℕ → ℕ → ℕ → A) where
  abbrev pub after_scheme : (Scheme → ℕ → A) → Scheme → Reading → A
  after_scheme next s (Done n) = next s n
  after_scheme next s (Refused k at) = refused k 1 at

  unfoldable pub with_scheme : List ℕ → (Scheme → ℕ → A) → A
  with_scheme scheme next = let r = read_scheme scheme no_scheme in after_scheme next r.scheme r.answer

  abbrev pub after_matrix : (Matrix → ℕ → A) → MatrixAnswer × List ℕ → Reading → A
  after_matrix next r (Done n) = next (record { things = r.0.things; cells = r.1 }) n
  after_matrix next r (Refused k at) = refused k 2 at

  unfoldable pub with_matrix : Scheme → List ℕ → (Matrix → ℕ → A) → A
  with_matrix s matrix next = let r = read_matrix matrix s no_things (replicate 2304 0) in after_matrix next r r.0.answer

-- ---- checking: 0 and the length of what was read, or the number, which of the two, and the position
abbrev pub not_read : ℕ → ℕ → ℕ → Called
not_read k where' at = call k where' at 0 0

unfoldable pub check_scheme : List ℕ → Called
check_scheme scheme = with_scheme not_read scheme (λ s n. call 0 0 n 0 0)

unfoldable pub check_against : List ℕ → Scheme → Called
check_against matrix s = with_matrix not_read s matrix (λ m k. call 0 0 k 0 0)

unfoldable pub check_matrix : List ℕ → List ℕ → Called
check_matrix scheme matrix = with_scheme not_read scheme (λ s n. check_against matrix s)

-- ---- running a list of requests: the answers, and the bytes of the matrix afterwards

-- with what the two lent buffers then hold
pub record Ran : Type 0 where
  pub called : Called
  pub answers : List ℕ
  pub out : List ℕ

abbrev pub gives_ran : List ℕ → Ran → ℕ × List ℕ × List ℕ × List ℕ
gives_ran report r = (r.called.number, r.answers, r.out, reported report r.called)

-- refused: nothing is stored
abbrev pub not_run : List ℕ → List ℕ → ℕ → ℕ → ℕ → Ran
not_run results out k where' at = record { called = not_read k where' at; answers = results; out = out }

-- the bytes of the matrix that a list leaves
unfoldable pub bytes_after : Scheme → Matrix → Listed → List ℕ
bytes_after s m l = matrix_bytes s.head (run seats s m l.requests)

-- a record that can't be read ends the list; what came before is carried out
abbrev pub ended_by : ℕ → ℕ → Reading → Called
ended_by count written (Done next) = call 0 0 0 count written
ended_by count written (Refused k at) = cut_short k at count written

-- 9 where the answers or the new matrix don't fit, before anything is stored
unfoldable pub run_matrix : Scheme → Matrix → Listed → List ℕ → List ℕ → Ran
run_matrix s m l results out =
    let bytes = bytes_after s m l in
    cond (leb (reply_width * length l.requests) (length results))
    (cond (leb (length bytes) (length out))
    (record {
      called = ended_by (length l.requests) (length bytes) l.ending;
      answers = placed results 0 (replies_to s m l.requests);
      out = placed out 0 bytes;
    })
    (not_run results out 9 5 0))
    (not_run results out 9 4 0)

unfoldable pub run_against : List ℕ → List ℕ → List ℕ → List ℕ → Scheme → Ran
run_against matrix requests results out s = with_matrix (not_run results out) s matrix (λ m k. run_matrix s m (read_list requests) results out)

unfoldable pub run_bytes : List ℕ → List ℕ → List ℕ → List ℕ → List ℕ → Ran
run_bytes scheme matrix requests results out = with_scheme (not_run results out) scheme (λ s n. run_against matrix requests results out s)

-- ---- converting: 20 to 22 lie in the scheme, 9 in the output

-- with what the lent buffer then holds
pub record Wrote : Type 0 where
  pub called : Called
  pub out : List ℕ

abbrev pub gives_wrote : List ℕ → Wrote → ℕ × List ℕ × List ℕ
gives_wrote report w = (w.called.number, w.out, reported report w.called)

-- a writing: 9 lies in the output, any other number in what the caller says
abbrev pub writing_by : ℕ → Writing → Called
writing_by other (writing.Done next) = call 0 0 0 0 next
writing_by other (writing.Refused k) = call k (cond (eqb k 9) 5 other) 0 0 0

abbrev pub wrote : ℕ → Writing × List ℕ → Wrote
wrote other w = record { called = writing_by other w.0; out = w.1 }

-- refused: nothing is stored
abbrev pub not_written : List ℕ → ℕ → ℕ → ℕ → Wrote
not_written out k where' at = record { called = not_read k where' at; out = out }

unfoldable pub convert_scheme_bytes : List ℕ → List ℕ → Wrote
convert_scheme_bytes scheme out = with_scheme (not_written out) scheme (λ s n. wrote 1 (convert_scheme_into out s))

unfoldable pub convert_against : List ℕ → List ℕ → Scheme → Wrote
convert_against matrix out s = with_matrix (not_written out) s matrix (λ m k. wrote 1 (convert_matrix_into out s m))

unfoldable pub convert_matrix_bytes : List ℕ → List ℕ → List ℕ → Wrote
convert_matrix_bytes scheme matrix out = with_scheme (not_written out) scheme (λ s n. convert_against matrix out s)

-- ---- hold and release: 12 lies in the matrix, at 0; 9 in the output

-- the matrix with the mark
unfoldable pub marked_into : List ℕ → Scheme → List ℕ → Outcome Things → Wrote
marked_into out s cells (done th) = wrote 2 (write_matrix out s (matrix_of th cells))
marked_into out s cells (refused r) = not_written out r.number 2 0

unfoldable pub mark_against : Bool → List ℕ → ℕ → List ℕ → Scheme → Wrote
mark_against mark matrix id out s = with_matrix (not_written out) s matrix (λ m k. marked_into out s m.cells (mark_thing mark id m.things))

unfoldable pub mark_bytes : Bool → List ℕ → List ℕ → ℕ → List ℕ → Wrote
mark_bytes mark scheme matrix id out = with_scheme (not_written out) scheme (λ s n. mark_against mark matrix id out s)

abbrev pub hold_bytes : List ℕ → List ℕ → ℕ → List ℕ → Wrote
hold_bytes = mark_bytes true

abbrev pub release_bytes : List ℕ → List ℕ → ℕ → List ℕ → Wrote
release_bytes = mark_bytes false

-- ---- moving a stored matrix: a reading's own numbers and 23 lie in the image that was handed in, 9 in the output
abbrev pub moving_by : Moved → Called
moving_by (moving.Done next) = call 0 0 0 0 next
moving_by (moving.Refused k at) = call k (cond (eqb k 9) 5 2) at 0 0

abbrev pub moved : Moved × List ℕ → Wrote
moved m = record { called = moving_by m.0; out = m.1 }

unfoldable pub forward_bytes : List ℕ → List ℕ → List ℕ → Wrote
forward_bytes scheme old out = with_scheme (not_written out) scheme (λ s n. moved (forward_into old s out))

unfoldable pub back_bytes : List ℕ → List ℕ → List ℕ → Wrote
back_bytes scheme new out = with_scheme (not_written out) scheme (λ s n. moved (back_into new s out))

-- ---- writing a request behind others: 4 above 8 ids, then 9; what is written is the position behind it
unfoldable pub request_bytes : List ℕ → ℕ → ℕ → List ℕ → Wrote
request_bytes out at command ids = wrote 3 (write_request out at command ids)

-- ---- the library's version: it moves when a format or a function's meaning moves
abbrev pub version : ℕ
version = 7
