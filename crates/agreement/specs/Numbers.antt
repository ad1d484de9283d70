-- Which numbers each function can give that reads or writes a record or more, carries out requests, marks, counts, converts or moves: no others than those listed
-- with it, and each of these is in the outline's table of refusal numbers.
-- Assumes nothing.
use Rattle.std.specs.Prelude.{ℕ, Bool, List, [], ◌∷◌, ◌++◌, T, eqb, get_or}
use Rattle.laws.specs.Check.{any, all}
use Rattle.model.specs.Request.{Request, Answer, number, answers}
use Rattle.model.specs.Seats.{Matrix, seats}
use Rattle.model.specs.declared.Head.{Head}
use Rattle.model.specs.declared.Scheme.{Scheme}
use Rattle.model.specs.declared.Things.{Things}
use Rattle.records.specs.Front.{record_at}
use Rattle.records.specs.Writing.{write_bytes, write_record}
use Rattle.records.specs.Told.{of_record, of_reading, of_writing}
use Rattle.command_bytes.specs.Answers.{read_head, read_command, of_head_at, of_command_at}
use Rattle.scheme_bytes.specs.Answers.{read_scheme}
use Rattle.scheme_bytes.specs.Write.{write_scheme}
use Rattle.matrix_records.specs.Content.{CellRecord}
use Rattle.matrix_records.specs.Answers as matrix_records
use Rattle.matrix_records.specs.Answers.{any_record_at, read_thing, read_cell}
use Rattle.matrix_records.specs.Told.{of_head, of_thing, of_cell}
use Rattle.matrix_bytes.specs.Answers.{read_matrix, read_matrix_by_head, read_rest}
use Rattle.matrix_bytes.specs.Write.{write_matrix, write_matrix_by_head}
use Rattle.request_bytes.specs.Read.{read_request}
use Rattle.request_bytes.specs.Write.{write_request}
use Rattle.request_bytes.specs.Told.{of_request_reading}
use Rattle.request_list.specs.List.{read_list}
use Rattle.engine.specs.Step.{request_on}
use Rattle.engine.specs.List.{run_on, run_quietly, of_run}
use Rattle.hold.specs.Marking.{mark_thing, as_marked, marked_by, of_marking}
use Rattle.moving.specs.Answers.{forward_into, back_into, of_moved}
use Rattle.totals.specs.Totals.{totals_of, of_totals}
use Rattle.convert.specs.Convert.{converted_scheme, converted_cells, convert_scheme_into, convert_matrix_into, of_conversion}
use Rattle.robot.specs.Library.{check_scheme, check_matrix, run_bytes, convert_scheme_bytes, convert_matrix_bytes, mark_bytes, forward_bytes, back_bytes, request_bytes}
use Rattle.agreement.specs.LibraryAgrees.{Bytes}

-- the outline's table, 18 for a thing on hold, and 23 for a highest that a move would lose; 0 is success
unfoldable pub table : List ℕ
table = 1 ∷ 2 ∷ 3 ∷ 4 ∷ 5 ∷ 6 ∷ 7 ∷ 8 ∷ 9 ∷ 10 ∷ 11 ∷ 12 ∷ 13 ∷ 14 ∷ 15 ∷ 16 ∷ 17 ∷ 18 ∷ 20 ∷ 21 ∷ 22 ∷ 23 ∷ 27 ∷ []

-- those of a reading: of a record, a request, a scheme's head, a scheme, a matrix
unfoldable pub of_a_record : List ℕ
of_a_record = 1 ∷ 2 ∷ []

unfoldable pub of_a_request : List ℕ
of_a_request = 1 ∷ 2 ∷ 3 ∷ 4 ∷ []

unfoldable pub of_a_head : List ℕ
of_a_head = 1 ∷ 2 ∷ 3 ∷ 4 ∷ 6 ∷ []

unfoldable pub of_a_command : List ℕ
of_a_command = 1 ∷ 2 ∷ 3 ∷ 4 ∷ 5 ∷ 6 ∷ []

unfoldable pub of_a_scheme : List ℕ
of_a_scheme = 1 ∷ 2 ∷ 3 ∷ 4 ∷ 5 ∷ 6 ∷ 8 ∷ []

-- a thing's and a cell's record
unfoldable pub of_a_part : List ℕ
of_a_part = 1 ∷ 2 ∷ 3 ∷ 5 ∷ 6 ∷ 7 ∷ []

unfoldable pub of_a_matrix : List ℕ
of_a_matrix = 1 ∷ 2 ∷ 3 ∷ 4 ∷ 5 ∷ 6 ∷ 7 ∷ []

-- of a scheme and then a matrix of it, as the library reads them
unfoldable pub of_both : List ℕ
of_both = 1 ∷ 2 ∷ 3 ∷ 4 ∷ 5 ∷ 6 ∷ 7 ∷ 8 ∷ []

-- of carrying out a request, and of converting
unfoldable pub of_a_step : List ℕ
of_a_step = 10 ∷ 11 ∷ 12 ∷ 13 ∷ 14 ∷ 15 ∷ 16 ∷ 17 ∷ 18 ∷ []

unfoldable pub of_converting : List ℕ
of_converting = 20 ∷ 21 ∷ 22 ∷ []

-- success, or one of these
unfoldable pub one_of : List ℕ → ℕ → Bool
one_of ks k = any (eqb k) (0 ∷ ks)

abbrev pub Gives : List ℕ → ℕ → Type 0
Gives ks k = T (one_of ks k)

pub record Numbers : Type 0 where
  -- ---- all that is listed is in the table
  pub in_table : T (all (one_of table) (of_a_record ++ of_a_request ++ of_a_head ++ of_a_command ++ of_a_scheme ++ of_a_part ++ of_a_matrix ++ of_both ++ of_a_step ++ of_converting ++ 9 ∷ 23 ∷ 27 ∷ []))
  -- ---- readings
  pub a_record : (bytes : List ℕ) (at kinds : ℕ) → Gives of_a_record (of_record (record_at bytes at kinds)).number
  pub a_head : (bytes : List ℕ) (at : ℕ) → Gives of_a_head (of_head_at (read_head bytes at)).number
  pub a_command : (bytes : List ℕ) (at : ℕ) (h : Head) → Gives (27 ∷ of_a_command) (of_command_at (read_command bytes at h)).number
  pub a_scheme : (bytes : List ℕ) (held : Scheme) → Gives of_a_scheme (of_reading (read_scheme bytes held).answer).number
  pub any_record : (bytes : List ℕ) (at : ℕ) → Gives (1 ∷ []) (of_record (any_record_at bytes at)).number
  pub a_matrix_head : (bytes : List ℕ) (at kinds : ℕ) (h : Head) → Gives (27 ∷ of_a_head) (of_head (matrix_records.read_head bytes at kinds h)).number
  pub a_thing : (bytes : List ℕ) (at kinds : ℕ) (h : Head) (highest last : ℕ) → Gives (27 ∷ of_a_part) (of_thing (read_thing bytes at kinds h highest last)).number
  pub a_cell : (bytes : List ℕ) (at kinds : ℕ) (h : Head) (th : Things) (n : ℕ) (last : CellRecord) →
      Gives (27 ∷ of_a_part) (of_cell (read_cell bytes at kinds h th n last)).number
  pub a_matrix : (bytes : List ℕ) (s : Scheme) (things : Things) (cells : List ℕ) →
      Gives (27 ∷ of_a_matrix) (of_reading (read_matrix bytes s things cells).0.answer).number
  pub a_matrix_by_head : (bytes : List ℕ) (h : Head) (things : Things) (cells : List ℕ) →
      Gives (27 ∷ of_a_matrix) (of_reading (read_matrix_by_head bytes h things cells).0.answer).number
  pub a_rest : (bytes : List ℕ) (at : ℕ) (h : Head) (highest count : ℕ) (things : Things) (cells : List ℕ) →
      Gives (27 ∷ of_a_part) (of_reading (read_rest bytes at h highest count things cells).0.answer).number
  pub a_request : (bytes : List ℕ) (at : ℕ) → Gives of_a_request (of_request_reading (read_request bytes at).answer).number
  pub a_list : (bytes : List ℕ) → Gives of_a_request (of_reading (read_list bytes).ending).number
  -- ---- writings
  pub bytes_into : (out : List ℕ) (at : ℕ) (bytes : List ℕ) → Gives (9 ∷ []) (of_writing (write_bytes out at bytes).0).number
  pub record_into : (out : List ℕ) (at kind : ℕ) (body : List ℕ) → Gives (4 ∷ 9 ∷ []) (of_writing (write_record out at kind body).0).number
  pub scheme_into : (out : List ℕ) (s : Scheme) → Gives (9 ∷ 27 ∷ []) (of_writing (write_scheme out s).0).number
  pub matrix_into : (out : List ℕ) (s : Scheme) (m : Matrix) → Gives (9 ∷ 27 ∷ []) (of_writing (write_matrix out s m).0).number
  pub matrix_into_by_head : (out : List ℕ) (h : Head) (m : Matrix) → Gives (9 ∷ 27 ∷ []) (of_writing (write_matrix_by_head out h m).0).number
  pub request_into : (out : List ℕ) (at command : ℕ) (ids : List ℕ) → Gives (4 ∷ 9 ∷ []) (of_writing (write_request out at command ids).0).number
  -- ---- requests: one; each of a list; how the list ended
  pub request : (s : Scheme) (m : Matrix) (command : ℕ) (ids : List ℕ) → Gives (27 ∷ of_a_step) (request_on s m command ids).0.answer.number
  pub each_of_a_list : (s : Scheme) (m : Matrix) (qs : List Request) → T (all (λ (a : Answer). one_of of_a_step (number a)) (answers seats s m qs))
  pub list : (s : Scheme) (m : Matrix) (bytes out : List ℕ) → Gives (9 ∷ 27 ∷ of_a_request) (of_run (run_on s m bytes out).ran.answer).number
  pub quiet_list : (s : Scheme) (m : Matrix) (bytes : List ℕ) → Gives (27 ∷ of_a_request) (of_run (run_quietly s m bytes).0.answer).number
  -- ---- hold and release: of things alone, and of a matrix
  pub mark : (mark : Bool) (x : ℕ) (th : Things) → Gives (12 ∷ []) (of_marking (as_marked th (mark_thing mark x th)).answer).number
  pub mark_in_matrix : (mark : Bool) (s : Scheme) (th : Things) (cells : List ℕ) (x : ℕ) → Gives (12 ∷ 27 ∷ []) (of_marking (marked_by mark s th cells x).answer).number
  -- ---- totals and conversion
  pub totals : (s : Scheme) (m : Matrix) → Gives (27 ∷ []) (of_totals (totals_of s m)).number
  pub scheme : (s : Scheme) → Gives (27 ∷ of_converting) (of_conversion (converted_scheme s).answer).number
  pub cells : (s : Scheme) (m : Matrix) → Gives (27 ∷ of_converting) (of_conversion (converted_cells s m).0).number
  pub converted_into : (out : List ℕ) (s : Scheme) → Gives (9 ∷ 27 ∷ of_converting) (of_writing (convert_scheme_into out s).0).number
  pub matrix_converted_into : (out : List ℕ) (s : Scheme) (m : Matrix) → Gives (9 ∷ 27 ∷ of_converting) (of_writing (convert_matrix_into out s m).0).number
  -- ---- moving: 23 on the way back only
  pub moved_forward : (old : List ℕ) (s : Scheme) (out : List ℕ) → Gives (9 ∷ 27 ∷ of_a_matrix) (of_moved (forward_into old s out).0).number
  pub moved_back : (new : List ℕ) (s : Scheme) (out : List ℕ) → Gives (9 ∷ 23 ∷ 27 ∷ of_a_matrix) (of_moved (back_into new s out).0).number
  -- ---- the robots' library, which never gives 27: all that it is handed are bytes, and it reads them
  pub checks_scheme : (scheme : List ℕ) → Gives of_a_scheme (check_scheme scheme).number
  pub checks_matrix : (scheme matrix : List ℕ) → Bytes scheme → Gives of_both (check_matrix scheme matrix).number
  pub runs : (scheme matrix requests results out : List ℕ) → Bytes scheme → Gives (9 ∷ of_both) (run_bytes scheme matrix requests results out).called.number
  pub list_ends : (scheme matrix requests results out : List ℕ) → Gives of_a_request (get_or (run_bytes scheme matrix requests results out).called.report 4 0)
  pub converts_scheme : (scheme out : List ℕ) → Bytes scheme → Gives (9 ∷ of_a_scheme ++ of_converting) (convert_scheme_bytes scheme out).called.number
  pub converts_matrix : (scheme matrix out : List ℕ) → Bytes scheme → Bytes matrix →
      Gives (9 ∷ of_both ++ of_converting) (convert_matrix_bytes scheme matrix out).called.number
  pub marks : (mark : Bool) (scheme matrix : List ℕ) (id : ℕ) (out : List ℕ) → Bytes scheme → Bytes matrix →
      Gives (9 ∷ 12 ∷ of_both) (mark_bytes mark scheme matrix id out).called.number
  pub moves_forward : (scheme old out : List ℕ) → Bytes scheme → Gives (9 ∷ of_both) (forward_bytes scheme old out).called.number
  pub moves_back : (scheme matrix out : List ℕ) → Bytes scheme → Gives (9 ∷ 23 ∷ of_both) (back_bytes scheme matrix out).called.number
  pub writes_request : (out : List ℕ) (at command : ℕ) (ids : List ℕ) → Gives (4 ∷ 9 ∷ []) (request_bytes out at command ids).called.number
