-- Which numbers each function can give: those of its readings (`ReadNumbers`), of a step (model's `Numbers`), of conversion and of writing; the library
-- reads what it is handed, so that nothing it then does is refused by 27.
-- Assumes nothing.
use Prim.Native.Nat.{ℕ, ◌+◌, ◌*◌}
use mathlib.Core.Path.{◌≡◌, refl}
use mathlib.Core.Bool.{Bool, true, false, cond, ◌&&◌}
use mathlib.Core.List.{List, [], ◌∷◌, ◌++◌}
use lib.Dec.{T, eqb, leb}
use lib.ListN.{length, get_or, replicate}
use Rattle.laws.specs.Check.{any, all}
use Rattle.laws.proofs.Bools.{is_true, and_both, or_left, or_right}
use Rattle.model.specs.Request.{at}
use Rattle.model.specs.Answers.{reply_width}
use Rattle.model.specs.Seats.{Matrix, no_things}
use Rattle.model.specs.Accepted.{accepted_head, all_from, accepted_scheme, accepted_matrix}
use Rattle.model.specs.Arrays.{no_scheme}
use Rattle.model.specs.declared.Scheme.{Scheme}
use Rattle.records.specs.Bytes.{number2, record_bytes}
use Rattle.records.specs.Front.{against, record_at, in_record}
use Rattle.records.specs.Writing.{write_record}
use Rattle.records.specs.Outcome.Reading.{Reading}
use Rattle.records.specs.Outcome.Reading as reading
use Rattle.records.proofs.Faults.{only_front}
use Rattle.command_bytes.specs.Read.{head_at, command_at}
use Rattle.command_bytes.specs.Answers.{read_head, read_command, of_head_at, of_command_at}
use Rattle.scheme_bytes.specs.Answers.{read_scheme, SchemeAnswer}
use Rattle.scheme_bytes.specs.Write.{scheme_bytes, write_scheme}
use Rattle.matrix_records.specs.Content.{listed}
use Rattle.matrix_records.specs.Read.{head, thing, cell}
use Rattle.matrix_records.specs.Answers as matrix_records
use Rattle.matrix_records.specs.Answers.{kind_at, any_record_at, found_head, found_thing, found_cell, read_thing, read_cell}
use Rattle.matrix_records.specs.Told.{of_head, of_thing, of_cell}
use Rattle.matrix_bytes.specs.Answers.{read_matrix, read_matrix_by_head, read_rest}
use Rattle.matrix_bytes.specs.Write.{matrix_bytes, write_matrix, write_matrix_by_head}
use Rattle.matrix_bytes.specs.MatrixAnswer.{MatrixAnswer}
use Rattle.matrix_bytes.proofs.ReadMatrix.{by_head}
use Rattle.request_bytes.specs.Read.{read_request}
use Rattle.request_bytes.specs.Write.{write_request, request_bytes as bytes_of}
use Rattle.request_list.specs.List.{Listed, read_list}
use Rattle.convert.specs.Convert.{convert_scheme_into, convert_matrix_into}
use Rattle.moving.specs.Answers.{forward_into, back_into}
use Rattle.robot.specs.Library.{Called, call, not_read, after_scheme, with_scheme, after_matrix, with_matrix, check_scheme, check_against, check_matrix}
use Rattle.robot.specs.Library.{Ran, not_run, bytes_after, ended_by, run_matrix, run_against, run_bytes}
use Rattle.robot.specs.Library.{Wrote, not_written, convert_scheme_bytes, convert_against, convert_matrix_bytes, mark_against, mark_bytes, forward_bytes, back_bytes, request_bytes}
use Rattle.robot.proofs.CallLaws.{scheme_accepted}
use Rattle.robot.proofs.RunLaws.{read_accepted}
use Rattle.agreement.specs.LibraryAgrees.{Bytes}
use Rattle.agreement.specs.Numbers.{table, of_a_record, of_a_request, of_a_head, of_a_command, of_a_scheme, of_a_part, of_a_matrix, of_both, of_a_step, of_converting}
use Rattle.agreement.specs.Numbers.{one_of, Numbers}
use Rattle.agreement.proofs.ReadNumbers.{passed}
use Rattle.agreement.proofs.ReadNumbers.{head_only, command_only, matrix_head_only, matrix_thing_only, matrix_cell_only, scheme_only, matrix_only, request_only, list_only}
use Rattle.agreement.proofs.FunctionNumbers.{of_record_lem, of_reading_lem, of_request, of_item, of_named, against_head, any_record_lem, a_matrix_lem, a_rest_lem, if_may, of_scheme, of_cells, of_each, bytes_written, scheme_into_lem, matrix_into_lem, of_request_on, of_list, of_quiet_list, of_totals_lem, writing_number}
use Rattle.agreement.proofs.MarkNumbers.{of_mark, of_mark_in_matrix, of_marked_bytes}
use Rattle.agreement.proofs.MoveNumbers.{of_forward, of_back, moving_number}

-- ---- what the library reads first, and what it does with that: where each refused reading's number passes, and what follows a reading, all passes
abbrev scheme_read : List ℕ → SchemeAnswer
scheme_read bytes = read_scheme bytes no_scheme

abbrev matrix_read : Scheme → List ℕ → MatrixAnswer × List ℕ
matrix_read s bytes = read_matrix bytes s no_things (replicate 2304 0)

abbrev matrix_in : MatrixAnswer × List ℕ → Matrix
matrix_in r = record { things = r.0.things; cells = r.1 }

module _ {A : Type 0} (good : A → Bool) (ok : ℕ → Bool) (refuse : ℕ → ℕ → ℕ → A) (bad : (k where' at : ℕ) → T (ok k) → T (good (refuse k where' at))) where
  after_scheme_lem : (bytes : List ℕ) (next : Scheme → ℕ → A) → T (passed ok (scheme_read bytes).answer) →
      ((n : ℕ) → (scheme_read bytes).answer ≡ reading.Done n → T (good (next (scheme_read bytes).scheme n))) → T (good (with_scheme refuse bytes next))
  unfolding with_scheme
  after_scheme_lem bytes next t u = by (scheme_read bytes).answer refl t
    where
      by : (a : Reading) → (scheme_read bytes).answer ≡ a → T (passed ok a) → T (good (after_scheme refuse next (scheme_read bytes).scheme a))
      by (reading.Done n) e v = u n e
      by (reading.Refused k at) e v = bad k 1 at v

  after_matrix_lem : (s : Scheme) (bytes : List ℕ) (next : Matrix → ℕ → A) → T (passed ok (matrix_read s bytes).0.answer) →
      ((n : ℕ) → (matrix_read s bytes).0.answer ≡ reading.Done n → T (good (next (matrix_in (matrix_read s bytes)) n))) → T (good (with_matrix refuse s bytes next))
  unfolding with_matrix
  after_matrix_lem s bytes next t u = by (matrix_read s bytes).0.answer refl t
    where
      by : (a : Reading) → (matrix_read s bytes).0.answer ≡ a → T (passed ok a) → T (good (after_matrix refuse next (matrix_read s bytes) a))
      by (reading.Done n) e v = u n e
      by (reading.Refused k at) e v = bad k 2 at v

  -- a scheme that was read from bytes is accepted, and then no matrix is refused by 27
  module _ (one : T (ok 1)) (two : T (ok 2)) (three : T (ok 3)) (four : T (ok 4)) (five : T (ok 5)) (six : T (ok 6)) where
    with_scheme_lem : T (ok 8) → (bytes : List ℕ) (next : Scheme → ℕ → A) → Bytes bytes → ((s : Scheme) (n : ℕ) → T (accepted_scheme s) → T (good (next s n))) →
        T (good (with_scheme refuse bytes next))
    with_scheme_lem eight bytes next small u =
        after_scheme_lem bytes next (scheme_only ok one two three four six five eight bytes no_scheme)
        (λ n e. u (scheme_read bytes).scheme n (scheme_accepted bytes small (scheme_read bytes) refl n e))

    with_matrix_lem : T (ok 7) → (s : Scheme) → T (accepted_scheme s) → (bytes : List ℕ) (next : Matrix → ℕ → A) →
        ((n : ℕ) → (matrix_read s bytes).0.answer ≡ reading.Done n → T (good (next (matrix_in (matrix_read s bytes)) n))) → T (good (with_matrix refuse s bytes next))
    unfolding read_matrix
    with_matrix_lem seven s t bytes next =
        after_matrix_lem s bytes next
        (rw (is_true (accepted_scheme s) t) (matrix_only ok one two three four six five seven s.head bytes no_things (replicate 2304 0)))

-- a matrix that was read from bytes is accepted
matrix_accepted : (s : Scheme) → T (accepted_scheme s) → (bytes : List ℕ) → Bytes bytes → (n : ℕ) → (matrix_read s bytes).0.answer ≡ reading.Done n →
    T (accepted_matrix s.head (matrix_in (matrix_read s bytes)))
matrix_accepted s ok bytes small n e =
    let r = matrix_read s bytes in
    read_accepted bytes s ok no_things (replicate 2304 0) r.1 r.0 n small (by_head bytes s no_things (replicate 2304 0) ok) e

-- ---- a list, as the library runs it
of_ran : (good : Called → Bool) → T (good (call 9 4 0 0 0)) → T (good (call 9 5 0 0 0)) →
    (s : Scheme) (m : Matrix) (l : Listed) (results out : List ℕ) → ((count written : ℕ) → T (good (ended_by count written l.ending))) →
    T (good (run_matrix s m l results out).called)
unfolding run_matrix
of_ran good t u s m l results out v =
    by (leb (reply_width * length l.requests) (length results)) (leb (length (bytes_after s m l)) (length out)) _
    (v (length l.requests) (length (bytes_after s m l)))
  where
    by : (fits fits' : Bool) (r : Ran) → T (good r.called) → T (good (cond fits (cond fits' r (not_run results out 9 5 0)) (not_run results out 9 4 0)).called)
    by true true r w = w
    by true false r w = u
    by false fits' r w = t

ended_number : (ok : ℕ → Bool) → T (ok 0) → (count written : ℕ) (e : Reading) → T (ok (ended_by count written e).number)
ended_number ok t count written (reading.Done next) = t
ended_number ok t count written (reading.Refused k at) = t

ended_told : (ok : ℕ → Bool) → T (ok 0) → (count written : ℕ) (e : Reading) → T (passed ok e) → T (ok (get_or (ended_by count written e).report 4 0))
ended_told ok t count written (reading.Done next) u = t
ended_told ok t count written (reading.Refused k at) u = u

any_passed : (a : Reading) → T (passed (λ k. true) a)
any_passed (reading.Done next) = tt
any_passed (reading.Refused k at) = tt

-- ---- the functions: a number that is listed with one passes by computing
pub numbers : Numbers
unfolding all any all_from one_of table of_a_record of_a_request of_a_head of_a_command of_a_scheme of_a_part of_a_matrix of_both of_a_step of_converting read_head read_command any_record_at matrix_records.read_head read_thing read_cell read_matrix read_matrix_by_head read_rest write_record write_scheme write_matrix write_matrix_by_head write_request check_scheme check_against check_matrix run_against run_bytes convert_scheme_bytes convert_against convert_matrix_bytes mark_against mark_bytes forward_bytes back_bytes request_bytes
numbers = record {
  in_table = tt;
  a_record = λ bytes at kinds. of_record_lem (one_of of_a_record) tt (record_at bytes at kinds) (only_front (one_of of_a_record) tt tt bytes at kinds);
  a_head = λ bytes at.
      let ok = one_of of_a_head in
      of_item ok tt of_head_at (λ b next. refl) (λ r. refl) (head_at bytes at) (head_only ok tt tt tt tt tt bytes at);
  a_command = λ bytes at h.
      let ok = one_of (27 ∷ of_a_command) in
      let read = command_at bytes h at in
      let fine-read = command_only ok tt tt tt tt tt tt bytes h at in
      of_item ok tt of_command_at (λ b next. refl) (λ r. refl) (against (accepted_head h) read)
      (against_head ok tt (accepted_head h) read fine-read);
  a_scheme = λ bytes held. of_reading_lem (one_of of_a_scheme) tt (read_scheme bytes held).answer (scheme_only (one_of of_a_scheme) tt tt tt tt tt tt tt bytes held);
  any_record = λ bytes at. any_record_lem (leb (at + 4) (length bytes)) (leb (at + 4 + number2 bytes at) (length bytes)) (kind_at bytes at) (at + 4) (number2 bytes at) at;
  a_matrix_head = λ bytes at kinds h.
      let ok = one_of (27 ∷ of_a_head) in
      let read = in_record bytes kinds (λ kind. head h) at in
      let fine-read = matrix_head_only ok tt tt tt tt h bytes kinds tt at in
      of_named ok tt of_head (λ b next. refl) (λ r. refl) (found_head (kind_at bytes at)) (against (accepted_head h) read)
      (against_head ok tt (accepted_head h) read fine-read);
  a_thing = λ bytes at kinds h highest last.
      let ok = one_of (27 ∷ of_a_part) in
      let read = in_record bytes kinds (thing h highest last) at in
      let fine-read = matrix_thing_only ok tt tt tt tt h bytes kinds tt tt highest last at in
      of_named ok tt of_thing (λ b next. refl) (λ r. refl) (found_thing (kind_at bytes at)) (against (accepted_head h) read)
      (against_head ok tt (accepted_head h) read fine-read);
  a_cell = λ bytes at kinds h th n last.
      let ok = one_of (27 ∷ of_a_part) in
      let read = in_record bytes kinds (λ kind. cell h (listed n th) last) at in
      let fine-read = matrix_cell_only ok tt tt tt tt h bytes kinds tt tt (listed n th) last at in
      of_named ok tt of_cell (λ b next. refl) (λ r. refl) (found_cell n th.ids (kind_at bytes at)) (against (accepted_head h) read)
      (against_head ok tt (accepted_head h) read fine-read);
  a_matrix = λ bytes s things cells. a_matrix_lem (accepted_scheme s && eqb (length cells) 2304) s.head bytes things cells;
  a_matrix_by_head = λ bytes h things cells. a_matrix_lem (accepted_head h && eqb (length cells) 2304) h bytes things cells;
  a_rest = λ bytes at h highest count things cells.
      a_rest_lem (accepted_head h && leb count 48 && leb at (length bytes) && eqb (length cells) 2304) h bytes at highest count things cells;
  a_request = λ bytes at. of_request (one_of of_a_request) tt (read_request bytes at).answer (request_only (one_of of_a_request) tt tt tt tt bytes at);
  a_list = λ bytes. of_reading_lem (one_of of_a_request) tt (read_list bytes).ending (list_only (one_of of_a_request) tt tt tt tt bytes);
  bytes_into = bytes_written (one_of (9 ∷ [])) tt tt;
  record_into = λ out at kind body. if_may (one_of (4 ∷ 9 ∷ [])) tt tt (leb (length body) 65535) 4 tt out at (record_bytes kind body);
  scheme_into = λ out s. if_may (one_of (9 ∷ 27 ∷ [])) tt tt (accepted_scheme s) 27 tt out 0 (scheme_bytes s);
  matrix_into = λ out s m. if_may (one_of (9 ∷ 27 ∷ [])) tt tt (accepted_scheme s && accepted_matrix s.head m) 27 tt out 0 (matrix_bytes s.head m);
  matrix_into_by_head = λ out h m. if_may (one_of (9 ∷ 27 ∷ [])) tt tt (accepted_head h && accepted_matrix h m) 27 tt out 0 (matrix_bytes h m);
  request_into = λ out at command ids. if_may (one_of (4 ∷ 9 ∷ [])) tt tt (leb (length ids) 8) 4 tt out at (bytes_of command ids);
  request = of_request_on (one_of (27 ∷ of_a_step)) tt tt tt;
  each_of_a_list = of_each (one_of of_a_step) tt tt;
  list = λ s m bytes out. of_list (one_of (9 ∷ 27 ∷ of_a_request)) tt tt s m tt tt tt tt bytes tt out;
  quiet_list = λ s m bytes. of_quiet_list (one_of (27 ∷ of_a_request)) tt tt s m tt tt tt tt bytes;
  mark = of_mark (one_of (12 ∷ [])) tt tt;
  mark_in_matrix = of_mark_in_matrix (one_of (12 ∷ 27 ∷ [])) tt tt tt;
  totals = of_totals_lem (one_of (27 ∷ [])) tt tt;
  scheme = λ s. of_scheme (one_of (27 ∷ of_converting)) tt tt tt tt s (or_right (accepted_scheme s) true tt);
  cells = λ s m. of_cells (one_of (27 ∷ of_converting)) tt tt tt tt s m (or_right (accepted_scheme s && accepted_matrix s.head m) true tt);
  converted_into = λ out s. scheme_into_lem (one_of (9 ∷ 27 ∷ of_converting)) tt tt tt tt tt out s (or_right (accepted_scheme s) true tt);
  matrix_converted_into = λ out s m.
      matrix_into_lem (one_of (9 ∷ 27 ∷ of_converting)) tt tt tt tt tt out s m (or_right (accepted_scheme s && accepted_matrix s.head m) true tt);
  moved_forward = λ old s out. of_forward (one_of (9 ∷ 27 ∷ of_a_matrix)) tt tt tt tt tt tt tt tt tt s old out (or_right (accepted_scheme s) true tt);
  moved_back = λ new s out. of_back (one_of (9 ∷ 23 ∷ 27 ∷ of_a_matrix)) tt tt tt tt tt tt tt tt tt s new out tt (or_right (accepted_scheme s) true tt);
  checks_scheme = λ scheme.
      let ok = one_of of_a_scheme in
      after_scheme_lem (λ (c : Called). ok c.number) ok not_read (λ k where' at t. t) scheme _ (scheme_only ok tt tt tt tt tt tt tt scheme no_scheme) (λ n e. tt);
  checks_matrix = λ scheme matrix small.
      let ok = one_of of_both in
      let good : Called → Bool = λ c. ok c.number in
      with_scheme_lem good ok not_read (λ k where' at t. t) tt tt tt tt tt tt tt scheme _ small
      (λ s n t. with_matrix_lem good ok not_read (λ k where' at u. u) tt tt tt tt tt tt tt s t matrix _ (λ k e. tt));
  runs = λ scheme matrix requests results out small.
      let ok = one_of (9 ∷ of_both) in
      let good : Ran → Bool = λ r. ok r.called.number in
      let l : Listed = read_list requests in
      with_scheme_lem good ok (not_run results out) (λ k where' at t. t) tt tt tt tt tt tt tt scheme _ small
      (λ s n t. with_matrix_lem good ok (not_run results out) (λ k where' at u. u) tt tt tt tt tt tt tt s t matrix _
      (λ k e. of_ran (λ (c : Called). ok c.number) tt tt s _ l results out (λ count written. ended_number ok tt count written l.ending)));
  list_ends = λ scheme matrix requests results out.
      let ok = one_of of_a_request in
      let good : Ran → Bool = λ r. ok (get_or r.called.report 4 0) in
      let l : Listed = read_list requests in
      let s : Scheme = (scheme_read scheme).scheme in
      after_scheme_lem good (λ k. true) (not_run results out) (λ k where' at t. tt) scheme _ (any_passed (scheme_read scheme).answer)
      (λ n e. after_matrix_lem good (λ k. true) (not_run results out) (λ k where' at t. tt) s matrix _ (any_passed (matrix_read s matrix).0.answer)
      (λ k f. of_ran (λ (c : Called). ok (get_or c.report 4 0)) tt tt s _ l results out
      (λ count written. ended_told ok tt count written l.ending (list_only ok tt tt tt tt requests))));
  converts_scheme = λ scheme out small.
      let ok = one_of (9 ∷ of_a_scheme ++ of_converting) in
      with_scheme_lem (λ (w : Wrote). ok w.called.number) ok (not_written out) (λ k where' at t. t) tt tt tt tt tt tt tt scheme _ small
      (λ s n t. writing_number ok 1 (convert_scheme_into out s).0 (scheme_into_lem ok tt tt tt tt tt out s (or_left (accepted_scheme s) false t)));
  converts_matrix = λ scheme matrix out small small'.
      let ok = one_of (9 ∷ of_both ++ of_converting) in
      let good : Wrote → Bool = λ w. ok w.called.number in
      with_scheme_lem good ok (not_written out) (λ k where' at t. t) tt tt tt tt tt tt tt scheme _ small
      (λ s n t. with_matrix_lem good ok (not_written out) (λ k where' at u. u) tt tt tt tt tt tt tt s t matrix _
      (λ k e. let m : Matrix = matrix_in (matrix_read s matrix) in
      let both : T (accepted_scheme s && accepted_matrix s.head m) = and_both (accepted_scheme s) _ t (matrix_accepted s t matrix small' k e) in
      writing_number ok 1 (convert_matrix_into out s m).0
      (matrix_into_lem ok tt tt tt tt tt out s m (or_left (accepted_scheme s && accepted_matrix s.head m) false both))));
  marks = λ mark scheme matrix id out small small'.
      let ok = one_of (9 ∷ 12 ∷ of_both) in
      let good : Wrote → Bool = λ w. ok w.called.number in
      with_scheme_lem good ok (not_written out) (λ k where' at t. t) tt tt tt tt tt tt tt scheme _ small
      (λ s n t. with_matrix_lem good ok (not_written out) (λ k where' at u. u) tt tt tt tt tt tt tt s t matrix _
      (λ k e. of_marked_bytes ok tt tt tt s t (matrix_in (matrix_read s matrix)) (matrix_accepted s t matrix small' k e) mark id out));
  moves_forward = λ scheme old out small.
      let ok = one_of (9 ∷ of_both) in
      with_scheme_lem (λ (w : Wrote). ok w.called.number) ok (not_written out) (λ k where' at t. t) tt tt tt tt tt tt tt scheme _ small
      (λ s n t. moving_number ok (forward_into old s out).0 (of_forward ok tt tt tt tt tt tt tt tt tt s old out (or_left (accepted_scheme s) false t)));
  moves_back = λ scheme new out small.
      let ok = one_of (9 ∷ 23 ∷ of_both) in
      with_scheme_lem (λ (w : Wrote). ok w.called.number) ok (not_written out) (λ k where' at t. t) tt tt tt tt tt tt tt scheme _ small
      (λ s n t. moving_number ok (back_into new s out).0 (of_back ok tt tt tt tt tt tt tt tt tt s new out tt (or_left (accepted_scheme s) false t)));
  writes_request = λ out at command ids.
      writing_number (one_of (4 ∷ 9 ∷ [])) 3 (write_request out at command ids).0
      (if_may (one_of (4 ∷ 9 ∷ [])) tt tt (leb (length ids) 8) 4 tt out at (bytes_of command ids));
}
