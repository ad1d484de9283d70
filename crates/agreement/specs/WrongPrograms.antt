-- Wrong programs that the outline says to try against the statements, each as a whole family: none of them meets the statement of the function that
-- it pretends to be. A program is told by what it gives for every input; a statement is the definition that a function's contract equates that with.
-- Assumes nothing.
use Rattle.std.specs.Prelude.{ℕ, ◌≡◌, List, [], ◌∷◌, T, take, Result}
use Rattle.faults.specs.declared.Fault.{Fault}
use Rattle.model.specs.Request.{Request}
use Rattle.model.specs.Seats.{Matrix, stands_for}
use Rattle.model.specs.Accepted.{accepted_scheme, accepted_matrix}
use Rattle.model.specs.declared.Scheme.{Scheme}
use Rattle.engine.specs.Step.{request_on}
use Rattle.engine.specs.Answers.{Stepped}
use Rattle.scheme_bytes.specs.Write.{write_scheme}
use Rattle.matrix_bytes.specs.Write.{write_matrix}
use Rattle.records.specs.Results.{written}
use Rattle.convert.specs.Convert.{converted_scheme, converted_cells, convert_scheme_into, convert_matrix_into}
use Rattle.convert.specs.Results.{scheme_result, cells_result}
use Rattle.totals.specs.Totals.{paper_totals, totals_of}
use Rattle.totals.specs.Outcome.{as_totals}
use Rattle.totals.specs.declared.answers.Totals.{Totals}

-- ---- what a request is asked of, and the statement of `request`: the answer with the things, and what the cells then hold
pub record Asked : Type 0 where
  pub scheme : Scheme
  pub matrix : Matrix
  pub command : ℕ
  pub ids : List ℕ

pub record Held : Type 0 where
  pub scheme : Scheme
  pub matrix : Matrix

abbrev pub Meets : {I O : Type 0} → (I → O) → (I → O) → Type 0
Meets {I = I} statement program = (i : I) → program i ≡ statement i

abbrev pub stated_request : Asked → Stepped × List ℕ
stated_request q = request_on q.scheme q.matrix q.command q.ids

abbrev pub result_of : Stepped × List ℕ → ℕ
result_of r = r.0.answer.number

abbrev pub stated_cells : Held → Result (Unit {0}) Fault × List ℕ
stated_cells h = cells_result (converted_cells h.scheme h.matrix)

abbrev pub stated_scheme : Scheme → Result (Unit {0}) Fault × Scheme
stated_scheme s = scheme_result (converted_scheme s)

abbrev pub stated_totals : Held → Result Totals Fault
stated_totals h = as_totals (totals_of h.scheme h.matrix)

-- ---- the two conversions as bytes: into a buffer, of a scheme, and of a matrix of it
pub record Into : Type 0 where
  pub out : List ℕ
  pub held : Held

abbrev pub stated_scheme_bytes : Into → Result ℕ Fault × List ℕ
stated_scheme_bytes i = written (convert_scheme_into i.out i.held.scheme)

abbrev pub stated_matrix_bytes : Into → Result ℕ Fault × List ℕ
stated_matrix_bytes i = written (convert_matrix_into i.out i.held.scheme i.held.matrix)

-- the matrix after requests that are carried out by one call of `request` each
unfoldable pub after_calls : Scheme → Matrix → List Request → Matrix
after_calls s m [] = m
after_calls s m (q ∷ qs) =
    let r = request_on s m q.command q.ids in
    after_calls s (record { things = r.0.things; cells = r.1 }) qs

-- a list of requests, and how many of them have been called
pub record Calls : Type 0 where
  pub scheme : Scheme
  pub matrix : Matrix
  pub requests : List Request
  pub called : ℕ

abbrev pub stated_calls : Calls → Matrix
stated_calls c = after_calls c.scheme c.matrix (take c.called c.requests)

pub record WrongPrograms : Type 0 where
  -- a version that refuses everything, whatever number it gives
  pub refuses_all : (program : Asked → Stepped × List ℕ) → ((q : Asked) → result_of (program q) ≡ 0 → ⊥) → Meets stated_request program → ⊥
  -- one with a single constant result
  pub constant : (program : Asked → Stepped × List ℕ) (k : ℕ) → ((q : Asked) → result_of (program q) ≡ k) → Meets stated_request program → ⊥
  -- one that does nothing
  pub does_nothing : (program : Asked → Stepped × List ℕ) → ((q : Asked) → (program q).1 ≡ q.matrix.cells) → Meets stated_request program → ⊥
  -- one that converts by copying
  pub copies_matrix : (program : Held → Result (Unit {0}) Fault × List ℕ) → ((h : Held) → (program h).1 ≡ h.matrix.cells) →
      Meets stated_cells program → ⊥
  pub copies_scheme : (program : Scheme → Result (Unit {0}) Fault × Scheme) → ((s : Scheme) → (program s).1 ≡ s) → Meets stated_scheme program → ⊥
  -- one that converts into bytes by copying, and one that does nothing and pretends
  pub copies_scheme_bytes : (program : Into → Result ℕ Fault × List ℕ) → ((i : Into) → program i ≡ written (write_scheme i.out i.held.scheme)) →
      Meets stated_scheme_bytes program → ⊥
  pub idle_scheme_bytes : (program : Into → Result ℕ Fault × List ℕ) → ((i : Into) → (program i).1 ≡ i.out) → Meets stated_scheme_bytes program → ⊥
  pub copies_matrix_bytes : (program : Into → Result ℕ Fault × List ℕ) →
      ((i : Into) → program i ≡ written (write_matrix i.out i.held.scheme i.held.matrix)) → Meets stated_matrix_bytes program → ⊥
  pub idle_matrix_bytes : (program : Into → Result ℕ Fault × List ℕ) → ((i : Into) → (program i).1 ≡ i.out) → Meets stated_matrix_bytes program → ⊥
  -- one that carries out the whole list at the first request, and pretends later
  pub whole_list_at_first : (program : Calls → Matrix) →
      ((s : Scheme) (m : Matrix) (qs : List Request) → program (record { scheme = s; matrix = m; requests = qs; called = 1 }) ≡ after_calls s m qs) →
      Meets stated_calls program → ⊥
  -- one that gives invented totals: of any accepted matrix others than the papers' matrix has
  pub invented_totals : (program : Held → Result Totals Fault) (h : Held) → T (accepted_scheme h.scheme) → T (accepted_matrix h.scheme.head h.matrix) →
      (program h ≡ as_totals (paper_totals (stands_for h.matrix)) → ⊥) → Meets stated_totals program → ⊥
