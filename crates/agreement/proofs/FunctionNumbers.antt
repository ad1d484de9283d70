-- Which numbers the functions on values and on single records can give, where success passes and each refusal of an answer does: readings against a head,
-- writing, conversion, a step, a list and totals. `Numbers` puts them together.
-- Assumes nothing.
use Rattle.std.specs.Prelude.{Result, Ok, Err}
use Prim.Native.Nat.{ℕ, zero, suc, ◌+◌, ◌*◌, ◌≤◌, ◌<◌}
use native.Mathlib.Omega.{arith}
use mathlib.Core.Path.{◌≡◌, refl, subst}
use mathlib.Core.Bool.{Bool, true, false, cond, ◌&&◌, ◌||◌}
use mathlib.Core.Option.{none, some}
use mathlib.Core.List.{List, [], ◌∷◌}
use borrow.Author.Tests.{eqb-true, eqb-false}
use lib.Dec.{T, eqb, leb, leb→le}
use lib.ListN.{length}
use Rattle.laws.specs.Check.{Fault, any, all, between}
use Rattle.laws.proofs.Bools.{and_left, and_right, and_both}
use Rattle.model.specs.Request.{Request, Answer, refused, at, number, answer, after, answers, step}
use Rattle.model.specs.Answers.{reply_of, reply_to, reply_width}
use Rattle.model.specs.Seats.{Matrix, seats}
use Rattle.model.specs.Promises.{tells_request}
use Rattle.model.specs.Accepted.{all_from, accepted_scheme, accepted_matrix}
use Rattle.model.specs.declared.Head.{Head}
use Rattle.model.specs.declared.Scheme.{Scheme}
use Rattle.model.specs.declared.Things.{Things}
use Rattle.model.proofs.Numbers.{request_numbers}
use Rattle.faults.specs.Numbers.{number_of}
use Rattle.faults.proofs.NumberLaws.{numbered}
use Rattle.records.specs.Reading.{Read, got, fault}
use Rattle.records.specs.Front.{Refusal, against}
use Rattle.records.specs.Results.{refused as refused_at, item_of}
use Rattle.records.specs.declared.Refused.{Refused}
use Rattle.records.specs.Writing.{write_bytes}
use Rattle.records.specs.Told.{Told, of_record, of_reading, of_writing}
use Rattle.records.specs.Outcome.RecordAnswer.{RecordAnswer}
use Rattle.records.specs.Outcome.RecordAnswer as record_answer
use Rattle.records.specs.Outcome.Reading.{Reading}
use Rattle.records.specs.Outcome.Reading as reading
use Rattle.records.specs.Outcome.Writing.{Writing}
use Rattle.records.specs.Outcome.Writing as writing
use Rattle.robot.specs.Library.{writing_by}
use Rattle.records.proofs.Faults.{fine, passed_record}
use Rattle.matrix_records.specs.Answers.{named}
use Rattle.matrix_bytes.specs.Read.{rest, matrix}
use Rattle.matrix_bytes.specs.Answers.{as_matrix}
use Rattle.request_bytes.specs.Told.{of_request_reading}
use Rattle.request_bytes.specs.Outcome.RequestReading.{RequestReading}
use Rattle.request_bytes.specs.Outcome.RequestReading as request_reading
use Rattle.request_list.specs.List.{Listed, read_list}
use Rattle.engine.specs.Step.{answered, request_on}
use Rattle.engine.specs.List.{Result as RunResult, run_answer, of_run, refused_run, run_on, run_quietly}
use Rattle.engine.specs.Answers.{Ran as Run}
use Rattle.engine.specs.Answers as ended
use Rattle.totals.specs.Totals.{memory_totals, totals_of, of_totals}
use Rattle.totals.specs.Outcome as total
use Rattle.conversion.specs.Conversion.{conversion_fault}
use Rattle.convert.specs.Convert.{scheme_fault, matrix_fault, converted_by, converted_scheme, cells_by, converted_cells, of_conversion}
use Rattle.convert.specs.Convert.{written_by, convert_scheme_into, convert_matrix_into}
use Rattle.agreement.specs.Numbers.{of_a_part, of_a_matrix}
use Rattle.agreement.specs.Numbers.{one_of, Gives}
use Rattle.agreement.proofs.FaultNumbers.{passed_fault, conversion_fault_lem, unless_27}
use Rattle.agreement.proofs.ReadNumbers.{passed, passed_request}
use Rattle.agreement.proofs.ReadNumbers.{matrix_only, matrix_rest_only, list_only}

-- ---- where success passes, and each refusal of an answer does, its number does: that of the fault of a number is this number
module _ (ok : ℕ → Bool) (None-passes : T (ok 0)) where
  pub of_record_lem : (a : RecordAnswer) → T (passed_record ok a) → T (ok (of_record a).number)
  of_record_lem (record_answer.Record kind start len) t = None-passes
  of_record_lem (record_answer.Refused k at) t = t

  pub of_reading_lem : (a : Reading) → T (passed ok a) → T (ok (of_reading a).number)
  of_reading_lem (reading.Done next) t = None-passes
  of_reading_lem (reading.Refused k at) t = t

  pub of_request : (a : RequestReading) → T (passed_request ok a) → T (ok (of_request_reading a).number)
  of_request (request_reading.Done next) t = None-passes
  of_request request_reading.End t = None-passes
  of_request (request_reading.Refused k at) t = t

  -- what a record says, where what tells it says 0 of a value and its own number of a refusal
  module _ {B : Type 0} (tell : Result (B × ℕ) Refused → Told) (none-told : (b : B) (next : ℕ) → (tell (Ok (b, next))).number ≡ 0)
      (refusal-told : (r : Refused) → (tell (Err r)).number ≡ number_of r.fault) where
    pub of_item : (r : Read ℕ Refusal B) → T (fine (λ f. ok f.number) r) → T (ok (tell (item_of r)).number)
    of_item (got b next) t = rw (none-told b next) None-passes
    of_item (fault f) t = rw (refusal-told (refused_at f.number f.at), numbered f.number) t

    pub of_named : {A : Type 0} (g : A → B) (r : Read ℕ Refusal A) → T (fine (λ f. ok f.number) r) → T (ok (tell (item_of (named g r))).number)
    of_named g (got a next) t = of_item (got (g a) next) t
    of_named g (fault f) t = of_item (fault f) t

  of_run_lem : (n : ℕ) (a : Reading) → T (passed ok a) → T (ok (of_run (run_answer n a)).number)
  of_run_lem n (reading.Done next) t = None-passes
  of_run_lem n (reading.Refused k at) t = t

-- ---- a record of any kind; and one against a head, which may be 27
pub against_head : {A : Type 0} (ok : ℕ → Bool) → T (ok 27) → (given : Bool) (r : Read ℕ Refusal A) → T (fine (λ f. ok f.number) r) →
    T (fine (λ f. ok f.number) (against given r))
against_head ok twenty-seven true r t = t
against_head ok twenty-seven false r t = twenty-seven

pub any_record_lem : (front body : Bool) (kind start len at : ℕ) →
    Gives (1 ∷ []) (of_record (cond front (cond body (record_answer.Record kind start len) (record_answer.Refused 1 at)) (record_answer.Refused 1 at))).number
unfolding one_of any
any_record_lem true true kind start len at = tt
any_record_lem true false kind start len at = tt
any_record_lem false body kind start len at = tt

-- ---- a matrix, or what stands behind its head, that is to be read: 27 where the scheme, the lent cells or what a head stated aren't right
pub a_matrix_lem : (right : Bool) (h : Head) (bytes : List ℕ) (things : Things) (cells : List ℕ) →
    let r = cond right (as_matrix things cells (matrix h bytes 0)) (record { answer = reading.Refused 27 0; things = things }, cells) in
    Gives (27 ∷ of_a_matrix) (of_reading r.0.answer).number
unfolding one_of any of_a_matrix
a_matrix_lem true h bytes things cells =
    let ok = one_of (27 ∷ of_a_matrix) in
    of_reading_lem ok tt (as_matrix things cells (matrix h bytes 0)).0.answer (matrix_only ok tt tt tt tt tt tt tt h bytes things cells)
a_matrix_lem false h bytes things cells = tt

pub a_rest_lem : (right : Bool) (h : Head) (bytes : List ℕ) (at highest count : ℕ) (things : Things) (cells : List ℕ) →
    let r = cond right (as_matrix things cells (rest h highest count bytes at)) (record { answer = reading.Refused 27 0; things = things }, cells) in
    Gives (27 ∷ of_a_part) (of_reading r.0.answer).number
unfolding one_of any of_a_part
a_rest_lem true h bytes at highest count things cells =
    let ok = one_of (27 ∷ of_a_part) in
    of_reading_lem ok tt (as_matrix things cells (rest h highest count bytes at)).0.answer (matrix_rest_only ok tt tt tt tt tt tt h bytes highest count at things cells)
a_rest_lem false h bytes at highest count things cells = tt

-- ---- writing: 9, and the number of what isn't written at all
module _ (ok : ℕ → Bool) (None-passes : T (ok 0)) (nine : T (ok 9)) where
  pub bytes_written : (out : List ℕ) (at : ℕ) (bytes : List ℕ) → T (ok (of_writing (write_bytes out at bytes).0).number)
  unfolding write_bytes
  bytes_written out at bytes = by (leb (at + length bytes) (length out)) _
    where
      by : (fits : Bool) (left : List ℕ) →
          T (ok (of_writing (cond {A = Writing × List ℕ} fits (writing.Done (at + length bytes), left) (writing.Refused 9, out)).0).number)
      by true left = None-passes
      by false left = nine

  pub if_may : (may : Bool) (k : ℕ) → T (ok k) → (out : List ℕ) (at : ℕ) (bytes : List ℕ) →
      T (ok (of_writing (cond may (write_bytes out at bytes) (writing.Refused k, out)).0).number)
  if_may true k t out at bytes = bytes_written out at bytes
  if_may false k t out at bytes = t

-- ---- what the library tells of a writing
pub writing_number : (ok : ℕ → Bool) (other : ℕ) (w : Writing) → T (ok (of_writing w).number) → T (ok (writing_by other w).number)
writing_number ok other (writing.Done next) t = t
writing_number ok other (writing.Refused k) t = t

-- ---- converting
module _ (ok : ℕ → Bool) (None-passes : T (ok 0)) (twenty : T (ok 20)) (twenty-one : T (ok 21)) (twenty-two : T (ok 22)) where
  scheme_fault_lem : (s : Scheme) → T (accepted_scheme s || ok 27) → T (passed_fault ok (scheme_fault s))
  unfolding scheme_fault
  scheme_fault_lem s t = unless_27 ok (accepted_scheme s) (conversion_fault s) t (conversion_fault_lem ok twenty twenty-one twenty-two s)

  matrix_fault_lem : (s : Scheme) (m : Matrix) → T ((accepted_scheme s && accepted_matrix s.head m) || ok 27) → T (passed_fault ok (matrix_fault s m))
  unfolding matrix_fault
  matrix_fault_lem s m t = unless_27 ok (accepted_scheme s && accepted_matrix s.head m) (conversion_fault s) t (conversion_fault_lem ok twenty twenty-one twenty-two s)

  pub of_scheme : (s : Scheme) → T (accepted_scheme s || ok 27) → T (ok (of_conversion (converted_scheme s).answer).number)
  unfolding converted_scheme
  of_scheme s t = by (scheme_fault s) (scheme_fault_lem s t)
    where
      by : (f : Fault) → T (passed_fault ok f) → T (ok (of_conversion (converted_by s f).answer).number)
      by none u = None-passes
      by (some k) u = u

  pub of_cells : (s : Scheme) (m : Matrix) → T ((accepted_scheme s && accepted_matrix s.head m) || ok 27) → T (ok (of_conversion (converted_cells s m).0).number)
  unfolding converted_cells
  of_cells s m t = by (matrix_fault s m) (matrix_fault_lem s m t)
    where
      by : (f : Fault) → T (passed_fault ok f) → T (ok (of_conversion (cells_by s m f).0).number)
      by none u = None-passes
      by (some k) u = u

  module _ (nine : T (ok 9)) where
    written_by_lem : (out bytes : List ℕ) (f : Fault) → T (passed_fault ok f) → T (ok (of_writing (written_by out bytes f).0).number)
    written_by_lem out bytes none t = bytes_written ok None-passes nine out 0 bytes
    written_by_lem out bytes (some k) t = t

    pub scheme_into_lem : (out : List ℕ) (s : Scheme) → T (accepted_scheme s || ok 27) → T (ok (of_writing (convert_scheme_into out s).0).number)
    unfolding convert_scheme_into
    scheme_into_lem out s t = written_by_lem out _ (scheme_fault s) (scheme_fault_lem s t)

    pub matrix_into_lem : (out : List ℕ) (s : Scheme) (m : Matrix) → T ((accepted_scheme s && accepted_matrix s.head m) || ok 27) →
        T (ok (of_writing (convert_matrix_into out s m).0).number)
    unfolding convert_matrix_into
    matrix_into_lem out s m t = written_by_lem out _ (matrix_fault s m) (matrix_fault_lem s m t)

-- ---- a step: 10 to 18
in_range : (f : ℕ → Bool) (n low k : ℕ) → T (all_from f low n) → low ≤ k → k < low + n → T (f k)
unfolding all_from
in_range f zero low k t l h = absurd (omega arith)
in_range f (suc n) low k t l h = by (eqb low k) refl (in_range f n (suc low) k (and_right (f low) _ t))
  where
    by : (b : Bool) → eqb low k ≡ b → (suc low ≤ k → k < suc low + n → T (f k)) → T (f k)
    by true e later = subst (λ (j : ℕ). T (f j)) (eqb-true low k e) (and_left (f low) _ t)
    by false e later = later (omega (arith, eqb-false low k e)) (omega arith)

module _ (ok : ℕ → Bool) (None-passes : T (ok 0)) (all_pass : T (all_from ok 10 9)) where
  of_step : (a : Answer) → T (tells_request a) → T (ok (number a))
  unfolding tells_request number between
  of_step none t = None-passes
  of_step (some r) t =
      let low : 10 ≤ r.number = leb→le 10 r.number (and_left (leb 10 r.number) _ t) in
      let high : r.number ≤ 18 = leb→le r.number 18 (and_right (leb 10 r.number) _ t) in
      in_range ok 9 10 r.number all_pass low (omega arith)

  pub of_each : (s : Scheme) (m : Matrix) (qs : List Request) → T (all (λ (a : Answer). ok (number a)) (answers seats s m qs))
  unfolding all answers
  of_each s m [] = tt
  of_each s m (q ∷ qs) =
      and_both (ok (number (answer (step seats s m q)))) _ (of_step _ (request_numbers Matrix seats s m q)) (of_each s (after m (step seats s m q)) qs)

  pub of_request_on : T (ok 27) → (s : Scheme) (m : Matrix) (command : ℕ) (ids : List ℕ) → T (ok (request_on s m command ids).0.answer.number)
  unfolding request_on reply_to reply_of answer number
  of_request_on t s m command ids = by (accepted_scheme s && accepted_matrix s.head m)
    where
      q : Request
      q = record { command = command; ids = ids }

      by : (right : Bool) → T (ok (cond right (answered s m q (step seats s m q)) (answered s m q (refused (at 27 0)))).0.answer.number)
      by true = of_step _ (request_numbers Matrix seats s m q)
      by false = t

-- ---- a list, as the engine runs it, and totals
module _ (ok : ℕ → Bool) (None-passes : T (ok 0)) (twenty-seven : T (ok 27)) (s : Scheme) (m : Matrix) where
  module _ (one : T (ok 1)) (two : T (ok 2)) (three : T (ok 3)) (four : T (ok 4)) (bytes : List ℕ) where
    abbrev the_list : Listed
    the_list = read_list bytes

    list_told : T (ok (of_run (run_answer (length the_list.requests) the_list.ending)).number)
    list_told = of_run_lem ok None-passes (length the_list.requests) the_list.ending (list_only ok one two three four bytes)

    pub of_list : T (ok 9) → (out : List ℕ) → T (ok (of_run (run_on s m bytes out).ran.answer).number)
    unfolding run_on
    of_list nine out = by (accepted_scheme s && accepted_matrix s.head m) (leb (reply_width * length the_list.requests) (length out)) _ list_told
      where
        by : (right fits : Bool) (r : RunResult) → T (ok (of_run r.ran.answer).number) →
            T (ok (of_run (cond right (cond fits r (refused_run m out 9)) (refused_run m out 27)).ran.answer).number)
        by true true r t = t
        by true false r t = nine
        by false fits r t = twenty-seven

    pub of_quiet_list : T (ok (of_run (run_quietly s m bytes).0.answer).number)
    unfolding run_quietly
    of_quiet_list = by (accepted_scheme s && accepted_matrix s.head m) _ list_told
      where
        by : (right : Bool) (r : Run × List ℕ) → T (ok (of_run r.0.answer).number) →
            T (ok (of_run (cond right r (record { answer = ended.Refused 27; things = m.things }, m.cells)).0.answer).number)
        by true r t = t
        by false r t = twenty-seven

  pub of_totals_lem : T (ok (of_totals (totals_of s m)).number)
  unfolding totals_of memory_totals
  of_totals_lem = by (accepted_scheme s && accepted_matrix s.head m)
    where
      by : (right : Bool) → T (ok (of_totals (cond right (memory_totals m) (total.Refused 27))).number)
      by true = None-passes
      by false = twenty-seven
