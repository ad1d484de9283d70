-- Which numbers a reading can be refused by: those of its lines, for any test that all of these pass.
-- Assumes nothing.
use Prim.Native.Nat.{ℕ, zero, suc, ◌^◌}
use mathlib.Core.Bool.{Bool, true, false, cond, not}
use mathlib.Core.List.{List, [], ◌∷◌}
use lib.Dec.{T, eqb, leb, ltb}
use lib.ListN.{length}
use Rattle.rights.specs.Sets.{within}
use Rattle.rights.specs.Numberings.{parameter}
use Rattle.rights.specs.declared.ThingType.{ThingType}
use Rattle.rights.specs.declared.Parameter.{Parameter}
use Rattle.laws.specs.Check.{is_some}
use Rattle.model.specs.Scheme.{is_subject, type_at}
use Rattle.model.specs.Seats.{Matrix}
use Rattle.model.specs.Accepted.{group, last_group}
use Rattle.model.specs.declared.Test.{Test}
use Rattle.model.specs.declared.Code.{Code}
use Rattle.model.specs.declared.Code.TheVariants.{Enter, Delete, Create, Destroy}
use Rattle.model.specs.declared.Operation.{Operation}
use Rattle.model.specs.declared.Head.{Head}
use Rattle.model.specs.declared.Scheme.{Scheme}
use Rattle.model.specs.declared.Things.{Things}
use Rattle.records.specs.Reading.{Read, got, fault, Reader, Body, ◌>>=◌, ◌>>◌, check, steps, byte, field, number}
use Rattle.records.specs.Front.{Refusal, in_record}
use Rattle.records.specs.Outcome.Reading.{Reading, Done, Refused}
use Rattle.records.proofs.Faults.{fine, Only, only_then, only_next, only_check, only_steps, only_byte, only_number, only_field, only_record}
use Rattle.command_bytes.specs.Read as scheme_records
use Rattle.command_bytes.specs.Read.{named, thing, test, code_of, by_code, operation, type_in, types_in, tests_in, operations_in, command_from, command, head_at, command_at}
use Rattle.scheme_bytes.specs.Read.{commands, at_end, scheme_rest, scheme}
use Rattle.scheme_bytes.specs.Answers.{as_scheme, read_scheme}
use Rattle.matrix_records.specs.Content.{ThingRecord, CellRecord}
use Rattle.matrix_records.specs.Read as matrix_records
use Rattle.matrix_records.specs.Read.{thing_with, is_row, above, cell, start}
use Rattle.matrix_bytes.specs.Read.{to_end, rest, matrix}
use Rattle.matrix_bytes.specs.Answers.{as_matrix}
use Rattle.request_bytes.specs.Read.{ids_in, request, request_at, no_request, as_request, read_request}
use Rattle.request_bytes.specs.declared.Request.{Request}
use Rattle.request_bytes.specs.Outcome.RequestReading.{RequestReading}
use Rattle.request_bytes.specs.Outcome.RequestReading as request_reading
use Rattle.request_list.specs.List.{on_answer, read_from, read_list}

-- a reading was done, or its number passes
abbrev pub passed : (ℕ → Bool) → Reading → Bool
passed ok (Done next) = true
passed ok (Refused k at) = ok k

-- ---- a line of a body: a field, a number, a check
module _ (ok : ℕ → Bool) (three : T (ok 3)) {B : Type 0} where
  a_field : (low limit k : ℕ) → T (ok k) → (f : ℕ → Body B) → ((v : ℕ) → Only ok (f v)) → Only ok (field low limit k >>= f)
  a_field low limit k t f = only_then ok (field low limit k) f (only_field ok three low limit k t)

  a_number : (w : ℕ) (f : ℕ → Body B) → ((v : ℕ) → Only ok (f v)) → Only ok (number w >>= f)
  a_number w f = only_then ok (number w) f (only_number ok three w)

  a_check : (b : Bool) (k : ℕ) → T (ok k) → (q : Body B) → Only ok q → Only ok (check b k >> q)
  a_check b k t q = only_next ok (check b k) q (only_check ok b k t)

-- ---- a scheme's head
module _ (ok : ℕ → Bool) (three : T (ok 3)) (four : T (ok 4)) (six : T (ok 6)) where
  head_body : Only ok scheme_records.head
  unfolding scheme_records.head
  head_body =
      a_field ok three 1 65 4 four _ (λ n.
      a_field ok three 1 17 4 four _ (λ m.
      a_number ok three 2 _ (λ subjects.
      a_check ok three (within m subjects) 6 six _ (
      a_field ok three 1 33 4 four _ (λ count i. tt)))))

  -- ---- a command
  module _ (five : T (ok 5)) where
    named_only : (h : Head) (types : List ThingType) → Only ok (named h types)
    unfolding named
    named_only h types =
        a_field ok three 0 h.rights 5 five _ (λ r.
        a_field ok three 0 (length types) 5 five _ (λ row.
        a_check ok three (is_subject h (type_at types (parameter row))) 6 six _ (
        a_field ok three 0 (length types) 5 five _ (λ column i. tt))))

    thing_only : (types : List ThingType) (fits : Parameter → Bool) → Only ok (thing types fits)
    unfolding thing
    thing_only types fits =
        a_field ok three 0 1 6 six _ (λ r.
        a_field ok three 0 (length types) 5 five _ (λ row.
        a_check ok three (fits (parameter row)) 6 six _ (
        a_field ok three 0 1 6 six _ (λ column i. tt))))

    test_only : (h : Head) (types : List ThingType) → Only ok (test h types)
    unfolding test
    test_only h types = a_field ok three 0 2 6 six _ (λ sense. only_then ok (named h types) _ (named_only h types) (λ n i. tt))

    by_code_lem : (h : Head) (types : List ThingType) (tests : List Test) (before : List Operation) (code : Code) → Only ok (by_code h types tests before code)
    by_code_lem h types tests before Enter = named_only h types
    by_code_lem h types tests before Delete = named_only h types
    by_code_lem h types tests before Create = thing_only types _
    by_code_lem h types tests before Destroy = thing_only types _

    operation_only : (h : Head) (types : List ThingType) (tests : List Test) (before : List Operation) → Only ok (operation h types tests before)
    unfolding operation
    operation_only h types tests before =
        a_field ok three 1 5 6 six _ (λ code.
        a_check ok three (leb (last_group before) (group (code_of code))) 6 six _ (
        only_then ok (by_code h types tests before (code_of code)) _ (by_code_lem h types tests before (code_of code)) (λ n i. tt)))

    type_only : (h : Head) → Only ok (type_in h)
    unfolding type_in
    type_only h = a_field ok three 0 h.types 5 five _ (λ t i. tt)

    from_only : (h : Head) (types : List ThingType) → Only ok (command_from h types)
    unfolding command_from
    from_only h types =
        a_field ok three 0 17 4 four _ (λ t.
        only_then ok (tests_in h types t) _ (only_steps ok (λ (u : Unit {0}). test h types) (λ u x. u) (λ u. test_only h types) t tt) (λ tests.
        a_field ok three 1 33 4 four _ (λ o.
        only_then ok (operations_in h types tests o) _
        (only_steps ok (operation h types tests) (λ before x. x ∷ before) (operation_only h types tests) o []) (λ operations i. tt))))

    command_body : (h : Head) → Only ok (command h)
    unfolding command
    command_body h =
        a_field ok three 1 9 4 four _ (λ k.
        only_then ok (types_in h k) _ (only_steps ok (λ (u : Unit {0}). type_in h) (λ u x. u) (λ u. type_only h) k tt) (λ types. from_only h types))

-- ---- a matrix's head, thing and cell
module _ (ok : ℕ → Bool) (three : T (ok 3)) (six : T (ok 6)) (h : Head) where
  matrix_head_body : T (ok 4) → Only ok (matrix_records.head h)
  unfolding matrix_records.head
  matrix_head_body four =
      a_field ok three 1 65 4 four _ (λ n.
      a_check ok three (eqb n h.rights) 6 six _ (
      a_field ok three 0 49 4 four _ (λ count.
      a_number ok three 2 _ (λ highest i. tt))))

  module _ (five : T (ok 5)) (seven : T (ok 7)) where
    thing_body : (highest last kind : ℕ) → Only ok (matrix_records.thing h highest last kind)
    unfolding matrix_records.thing
    thing_body highest last kind =
        a_number ok three 2 _ (λ id.
        a_check ok three (not (eqb id 0)) 6 six _ (
        a_check ok three (ltb last id) 7 seven _ (
        a_check ok three (leb id highest) 6 six _ (
        a_field ok three 0 h.types 5 five _ (λ t i. tt)))))

    cell_body : (things : List ThingRecord) (last : CellRecord) → Only ok (cell h things last)
    unfolding cell
    cell_body things last =
        a_number ok three 2 _ (λ row.
        a_check ok three (is_some (thing_with things row)) 5 five _ (
        a_check ok three (is_row h (thing_with things row)) 6 six _ (
        a_number ok three 2 _ (λ column.
        a_check ok three (is_some (thing_with things column)) 5 five _ (
        a_check ok three (above last row column) 7 seven _ (
        a_number ok three 8 _ (λ rights.
        a_check ok three (ltb rights (2 ^ h.rights)) 5 five _ (
        a_check ok three (not (eqb rights 0)) 6 six _ (λ i. tt)))))))))

-- ---- their records
either : {A : Type 0} (ok : ℕ → Bool) (b : Bool) (r q : Read ℕ Refusal A) → T (fine (λ f. ok f.number) r) → T (fine (λ f. ok f.number) q) →
    T (fine (λ f. ok f.number) (cond b r q))
either ok true r q t u = t
either ok false r q t u = u

matrix_passed : (ok : ℕ → Bool) (things : Things) (cells : List ℕ) (r : Read ℕ Refusal Matrix) → T (fine (λ f. ok f.number) r) →
    T (passed ok (as_matrix things cells r).0.answer)
matrix_passed ok things cells (got m next) t = tt
matrix_passed ok things cells (fault f) t = t

module _ (ok : ℕ → Bool) (one : T (ok 1)) (two : T (ok 2)) (three : T (ok 3)) (six : T (ok 6)) (h : Head) (s : List ℕ) (kinds : ℕ) where
  pub matrix_head_only : T (ok 4) → Only (λ f. ok f.number) (in_record s kinds (λ kind. matrix_records.head h))
  matrix_head_only four = only_record ok one two three s kinds (λ kind. matrix_records.head h) (λ kind. matrix_head_body ok three six h four)

  module _ (five : T (ok 5)) (seven : T (ok 7)) where
    pub matrix_thing_only : (highest last : ℕ) → Only (λ f. ok f.number) (in_record s kinds (matrix_records.thing h highest last))
    matrix_thing_only highest last =
        only_record ok one two three s kinds (matrix_records.thing h highest last) (thing_body ok three six h five seven highest last)

    pub matrix_cell_only : (things : List ThingRecord) (last : CellRecord) → Only (λ f. ok f.number) (in_record s kinds (λ kind. cell h things last))
    matrix_cell_only things last = only_record ok one two three s kinds (λ kind. cell h things last) (λ kind. cell_body ok three six h five seven things last)

-- ---- what stands behind a matrix's head
module _ (ok : ℕ → Bool) (one : T (ok 1)) (two : T (ok 2)) (three : T (ok 3)) (six : T (ok 6)) (five : T (ok 5)) (seven : T (ok 7)) (h : Head) (s : List ℕ) where
  abbrev passes : Refusal → Bool
  passes f = ok f.number

  module _ {A S : Type 0} (p : S → Reader ℕ Refusal A) (next : S → A → S) (each : (st : S) → Only passes (p st)) where
    to_end_lem : (fuel : ℕ) (st : S) → Only passes (to_end s p next fuel st)
    unfolding to_end
    to_end_lem zero st = λ i. tt
    to_end_lem (suc fuel) st = λ at.
        let more = only_then passes (p st) _ (each st) (λ a. only_then passes (to_end s p next fuel (next st a)) _ (to_end_lem fuel (next st a)) (λ xs i. tt)) at in
        either ok (eqb at (length s)) _ _ tt more

  abbrev thing_at : ℕ → ℕ → Reader ℕ Refusal ThingRecord
  thing_at highest last = in_record s 272 (matrix_records.thing h highest last)

  abbrev cell_at : List ThingRecord → CellRecord → Reader ℕ Refusal CellRecord
  cell_at things last = in_record s 32 (λ kind. cell h things last)

  pub rest_fine : (highest count : ℕ) → Only passes (rest h highest count s)
  unfolding rest
  rest_fine highest count =
      only_then passes (steps (thing_at highest) (λ last t. t.id) count 0) _
      (only_steps passes (thing_at highest) (λ last t. t.id) (matrix_thing_only ok one two three six h s 272 five seven highest) count 0) (λ things.
      only_then passes (to_end s (cell_at things) (λ last c. c) (length s) start) _
      (to_end_lem (cell_at things) (λ last c. c) (matrix_cell_only ok one two three six h s 32 five seven things) (length s) start) (λ cells i. tt))

  -- as `read_rest` answers it, where it isn't refused by 27
  pub matrix_rest_only : (highest count at : ℕ) (things : Things) (cells : List ℕ) → T (passed ok (as_matrix things cells (rest h highest count s at)).0.answer)
  matrix_rest_only highest count at things cells = matrix_passed ok things cells (rest h highest count s at) (rest_fine highest count at)

module _ (ok : ℕ → Bool) (one : T (ok 1)) (two : T (ok 2)) (three : T (ok 3)) (four : T (ok 4)) (six : T (ok 6)) where
  abbrev pub told : Refusal → Bool
  told f = ok f.number

  pub head_only : (s : List ℕ) → Only told (head_at s)
  head_only s = only_record ok one two three s 2 (λ kind. scheme_records.head) (λ kind. head_body ok three four six)

  module _ (five : T (ok 5)) where
    pub command_only : (s : List ℕ) (h : Head) → Only told (command_at s h)
    command_only s h = only_record ok one two three s 4 (λ kind. command h) (λ kind. command_body ok three four six five h)

    -- ---- a scheme, and what `read_scheme` answers
    module _ (eight : T (ok 8)) where
      end_only : (s : List ℕ) → Only told (at_end s)
      unfolding at_end
      end_only s at = either ok (eqb at (length s)) _ _ tt eight

      rest_only : (s : List ℕ) (h : Head) → Only told (scheme_rest s h)
      unfolding scheme_rest
      rest_only s h =
          only_then told (commands s h) _ (only_steps told (λ (u : Unit {0}). command_at s h) (λ u c. u) (λ u. command_only s h) h.count tt) (λ cs.
          only_next told (at_end s) _ (end_only s) (λ i. tt))

      scheme_fine : (s : List ℕ) → Only told (scheme s)
      unfolding scheme
      scheme_fine s = only_then told (head_at s) _ (head_only s) (rest_only s)

      pub scheme_only : (bytes : List ℕ) (table : Scheme) → T (passed ok (read_scheme bytes table).answer)
      unfolding read_scheme
      scheme_only bytes table = by (scheme bytes 0) (scheme_fine bytes 0)
        where
          by : (r : Read ℕ Refusal Scheme) → T (fine told r) → T (passed ok (as_scheme table r).answer)
          by (got s next) t = tt
          by (fault f) t = t

    -- ---- a matrix, and what `read_matrix` answers where it isn't refused by 27
    module _ (seven : T (ok 7)) (h : Head) (s : List ℕ) where
      pub matrix_fine : Only told (matrix h s)
      unfolding matrix
      matrix_fine =
          only_then told (in_record s 128 (λ kind. matrix_records.head h)) _ (matrix_head_only ok one two three six h s 128 four)
          (λ stated. rest_fine ok one two three six five seven h s stated.highest stated.count)

      pub matrix_only : (things : Things) (cells : List ℕ) → T (passed ok (as_matrix things cells (matrix h s 0)).0.answer)
      matrix_only things cells = matrix_passed ok things cells (matrix h s 0) (matrix_fine 0)

-- ---- a request, and a list of requests
abbrev pub passed_request : (ℕ → Bool) → RequestReading → Bool
passed_request ok (request_reading.Done next) = true
passed_request ok request_reading.End = true
passed_request ok (request_reading.Refused k at) = ok k

module _ (ok : ℕ → Bool) (one : T (ok 1)) (two : T (ok 2)) (three : T (ok 3)) (four : T (ok 4)) where
  request_body : Only ok request
  unfolding request
  request_body =
      only_then ok byte _ (only_byte ok three) (λ command. a_field ok three 0 9 4 four _ (λ count.
      only_then ok (ids_in count) _ (only_steps ok (λ (u : Unit {0}). number 2) (λ u x. u) (λ u. only_number ok three 2) count tt) (λ ids i. tt)))

  pub request_only : (bytes : List ℕ) (at : ℕ) → T (passed_request ok (read_request bytes at).answer)
  unfolding read_request request_at
  request_only bytes at = by (eqb at (length bytes)) (request_at bytes at) (only_record ok one two three bytes 64 (λ kind. request) (λ kind. request_body) at)
    where
      by : (b : Bool) (r : Read ℕ Refusal Request) → T (fine (λ f. ok f.number) r) →
          T (passed_request ok (cond b (record { answer = request_reading.End; request = no_request }) (as_request r)).answer)
      by true r t = tt
      by false (got q next) t = tt
      by false (fault f) t = t

  list_from : (fuel : ℕ) (bytes : List ℕ) (at : ℕ) → T (passed ok (read_from fuel bytes at).ending)
  unfolding read_from
  list_from zero bytes at = tt
  list_from (suc fuel) bytes at = by (read_request bytes at).answer (request_only bytes at) (list_from fuel bytes)
    where
      by : (a : RequestReading) → T (passed_request ok a) → ((next : ℕ) → T (passed ok (read_from fuel bytes next).ending)) →
          T (passed ok (on_answer at (read_request bytes at).request (read_from fuel bytes) a).ending)
      by (request_reading.Done next) t later = later next
      by request_reading.End t later = tt
      by (request_reading.Refused k p) t later = t

  pub list_only : (bytes : List ℕ) → T (passed ok (read_list bytes).ending)
  unfolding read_list
  list_only bytes = list_from (length bytes) bytes 0
