-- Demand 3, said of what robots link: of the calls `slushferret_convert_scheme`, `slushferret_convert_matrix` and `slushferret_run`, on bytes alone.
-- Each definition named here is what a call's contract equates its number, its report and its buffers with. Assumes nothing.
use Rattle.std.specs.Prelude.{ℕ, ◌*◌, ◌≤◌, ◌<◌, ◌≡◌, List, length, take, drop, get_or, replicate}
use Rattle.std.proofs.Math.Option.{none}
use Rattle.model.specs.Request.{Request}
use Rattle.model.specs.Answers.{reply_to, reply_width, reply_bytes, replies_in}
use Rattle.model.specs.Arrays.{no_scheme}
use Rattle.model.specs.Seats.{Matrix, matrix_of, no_things, stands_for}
use Rattle.model.specs.declared.Scheme.{Scheme}
use Rattle.conversion.specs.Conversion.{convert_scheme}
use Rattle.conversion.specs.Demand3.{Mirrors, Within}
use Rattle.records.specs.Bytes.{each_bytes}
use Rattle.records.specs.Outcome.Reading.{Done}
use Rattle.scheme_bytes.specs.Answers.{read_scheme}
use Rattle.matrix_bytes.specs.Answers.{read_matrix}
use Rattle.matrix_bytes.specs.MatrixAnswer.{MatrixAnswer}
use Rattle.request_list.specs.List.{read_list, list_bytes}
use Rattle.robot.specs.Library.{Called, Ran, Wrote, run_bytes, convert_scheme_bytes, convert_matrix_bytes}
use Rattle.agreement.specs.Replies.{ToEach, obeyed_by, besides_steps}
use Rattle.agreement.specs.Agreement.{Doubles}

-- ---- what a call tells

-- so many answers were stored, so many bytes written: the third and the fourth number of its report
abbrev pub stored : Called → ℕ
stored c = get_or c.report 2 0

abbrev pub written : Called → ℕ
written c = get_or c.report 3 0

-- all that it reports but for the bytes written: where a fault lies, its position, the answers stored, and the number of a record that can't be read
abbrev pub besides_written : Called → List ℕ × List ℕ
besides_written c = (take 3 c.report, drop 4 c.report)

-- the bytes that a conversion, a hold, a release or a move wrote, and those of the matrix that a run left
unfoldable pub written_bytes : Wrote → List ℕ
written_bytes w = take (written w.called) w.out

unfoldable pub matrix_after : Ran → List ℕ
matrix_after r = take (written r.called) r.out

-- each number is that of a byte; no matrix has more bytes than fit in here
abbrev pub Bytes : List ℕ → Type 0
Bytes bs = (i : ℕ) → get_or bs i 0 < 256

abbrev pub HasRoom : List ℕ → Type 0
HasRoom out = 37208 ≤ length out

-- ---- what bytes are: those of this scheme, and of this matrix of it, as every call reads them
abbrev pub IsScheme : List ℕ → Scheme → Type 0
IsScheme bytes s = read_scheme bytes no_scheme ≡ record { answer = Done (length bytes); scheme = s }

abbrev pub IsMatrix : List ℕ → Scheme → Matrix → Type 0
IsMatrix bytes s m =
    ◌≡◌ {A = MatrixAnswer × List ℕ} (read_matrix bytes s no_things (replicate 2304 0)) (record { answer = Done (length bytes); things = m.things }, m.cells)

-- what a call reads of an image: where scheme or image can't be read, a matrix of no things
unfoldable pub read_in : List ℕ → List ℕ → Matrix
read_in scheme image = let r = read_matrix image (read_scheme scheme no_scheme).scheme no_things (replicate 2304 0) in matrix_of r.0.things r.1

-- these requests of a scheme were run, and each was carried out: as many answers were stored, each says so, with the steps of all its tests and operations,
-- and no record was left unread
pub record AllCarriedOut (s : Scheme) (qs : List Request) (r : Ran) : Type 0 where
  pub called : r.called.number ≡ 0
  pub whole : get_or r.called.report 4 0 ≡ 0
  pub as_many : stored r.called ≡ length qs
  pub replied : take (reply_width * length qs) r.answers ≡ each_bytes (λ (q : Request). reply_bytes (reply_to s q none)) qs

-- ---- the office runs its own bytes, a robot with every entry the converted ones: the same list, the same buffer for the answers
pub record Alike (s : Scheme) (start : Matrix) (requests : List ℕ) (office robot : Ran) : Type 0 where
  -- the same number, the same report but for the bytes written, the same answers but for the steps
  pub same_number : robot.called.number ≡ office.called.number
  pub same_report : besides_written robot.called ≡ besides_written office.called
  pub same_answers :
      let n = length (read_list requests).requests in
      besides_steps n robot.answers ≡ besides_steps n office.answers
  -- the office's steps are tests and operations (`HowManySteps`); the robot's are those tests and twice those operations
  pub robot_steps : office.called.number ≡ 0 → ToEach (Doubles s) s (stands_for start) (read_list requests).requests (replies_in robot.answers)
  -- and what both then wrote are the bytes of matrices that mirror: the same things, the plain rights agree, a partner stands exactly where its right
  -- doesn't
  pub mirrored : office.called.number ≡ 0 →
      (m : Matrix) × (full : Matrix) × IsMatrix (matrix_after office) s m × IsMatrix (matrix_after robot) (convert_scheme s) full × Mirrors s.head (stands_for m) (stands_for full)

-- ---- a robot that started with entries missing carried out these, and stopped: the office, the robot and a complete robot run just them
pub record Stricter (s : Scheme) (ps : List Request) (office poor full : Ran) : Type 0 where
  pub office_does : AllCarriedOut s ps office
  pub robot_did : AllCarriedOut (convert_scheme s) ps poor
  pub no_entry_more :
      (p : Matrix) × (c : Matrix) × IsMatrix (matrix_after poor) (convert_scheme s) p × IsMatrix (matrix_after full) (convert_scheme s) c × Within (stands_for p) (stands_for c)

-- the office's bytes, and those that the two conversion calls wrote of them
pub record CallsAgree (scheme matrix robot_scheme robot_matrix : List ℕ) : Type 0 where
  -- what they are
  pub s : Scheme
  pub m : Matrix
  pub robot : Matrix
  pub is_scheme : IsScheme scheme s
  pub is_matrix : IsMatrix matrix s m
  pub robot_is_scheme : IsScheme robot_scheme (convert_scheme s)
  pub robot_is_matrix : IsMatrix robot_matrix (convert_scheme s) robot
  -- With every entry there: whatever bytes are run as a list, whatever the buffers hold and however many answers fit.
  pub complete : (requests answers out out' : List ℕ) → HasRoom out → HasRoom out' →
      Alike s m requests (run_bytes scheme matrix requests answers out) (run_bytes robot_scheme robot_matrix requests answers out')
  -- A robot that starts with any entries missing (its bytes are those of a matrix `p` within the complete one) runs any list, and stops at its first
  -- refusal: ps is what it carried out before that, told from the answers that the call stored.
  pub incomplete : (poor requests answers out : List ℕ) (p : Matrix) → Bytes poor → IsMatrix poor (convert_scheme s) p → Within (stands_for p) (stands_for robot) →
      Bytes requests → (run_bytes robot_scheme poor requests answers out).called.number ≡ 0 →
      let ps = obeyed_by (read_list requests).requests (run_bytes robot_scheme poor requests answers out).answers in
      (answers' out₁ out₂ out₃ : List ℕ) → reply_width * length ps ≤ length answers' → HasRoom out₁ → HasRoom out₂ → HasRoom out₃ →
      Stricter s ps (run_bytes scheme matrix (list_bytes ps) answers' out₁) (run_bytes robot_scheme poor (list_bytes ps) answers' out₂)
      (run_bytes robot_scheme robot_matrix (list_bytes ps) answers' out₃)

-- Both conversion calls gave 0.
abbrev pub LibraryAgrees : Type 0
LibraryAgrees = (scheme matrix out out' : List ℕ) → Bytes scheme → Bytes matrix →
    (convert_scheme_bytes scheme out).called.number ≡ 0 → (convert_matrix_bytes scheme matrix out').called.number ≡ 0 →
    CallsAgree scheme matrix (written_bytes (convert_scheme_bytes scheme out)) (written_bytes (convert_matrix_bytes scheme matrix out'))
