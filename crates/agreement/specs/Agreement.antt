-- Demand 3, said of the functions: whatever the office holds, whatever buffers the conversion calls wrote to, and whatever bytes are run as a list of
-- requests. Each definition named here is what a function's contract equates its result with. Assumes nothing.
use Rattle.std.specs.Prelude.{ℕ, ◌+◌, ◌*◌, ◌≤◌, ◌<◌, ◌≡◌, ◌≢◌, List, T, length, take, get_or}
use Rattle.std.proofs.Math.Option.{none}
use Rattle.model.specs.Request.{Request}
use Rattle.model.specs.Answers.{reply_to, reply_width, reply_bytes, replies_in}
use Rattle.model.specs.StepsTaken.{taken}
use Rattle.model.specs.Seats.{Matrix, stands_for}
use Rattle.model.specs.Accepted.{accepted_matrix}
use Rattle.model.specs.Papers.{State, papers}
use Rattle.model.specs.declared.Reply.{Reply}
use Rattle.model.specs.declared.Scheme.{Scheme}
use Rattle.model.specs.declared.Things.{Things}
use Rattle.conversion.specs.Conversion.{convert_scheme}
use Rattle.conversion.specs.Demand3.{Mirrors, Within}
use Rattle.records.specs.Bytes.{each_bytes}
use Rattle.records.specs.Outcome.Reading as reading
use Rattle.records.specs.Outcome.Writing.{Writing}
use Rattle.records.specs.Outcome.Writing as writing
use Rattle.scheme_bytes.specs.Answers.{read_scheme}
use Rattle.matrix_bytes.specs.Answers.{read_matrix}
use Rattle.matrix_bytes.specs.MatrixAnswer.{MatrixAnswer}
use Rattle.request_list.specs.List.{read_list, list_bytes}
use Rattle.engine.specs.List.{Result, run_on}
use Rattle.engine.specs.Answers.{Whole, Refused}
use Rattle.convert.specs.Convert.{convert_scheme_into, convert_matrix_into}
use Rattle.agreement.specs.Replies.{ToEach, obeyed_by, besides_steps}

-- the matrix that a run left in memory, and the papers' matrix that it stands for
abbrev pub left_in : Result → Matrix
left_in r = record { things = r.ran.things; cells = r.cells }

unfoldable pub left_by : Result → State
left_by r = stands_for (left_in r)

-- these requests of a scheme were run, and each was carried out: the list came to its end after as many, and as many replies that say so, with the steps
-- of all its tests and operations, were stored. (A run that was refused as a whole has another answer.)
pub record CarriedOut (s : Scheme) (qs : List Request) (r : Result) : Type 0 where
  pub ended : r.ran.answer ≡ Whole (length qs)
  pub replied : take (reply_width * length qs) r.replies ≡ each_bytes (λ (q : Request). reply_bytes (reply_to s q none)) qs

-- the robot's reply reports the steps of as many tests as the office takes for this request on its own matrix, and of twice its operations
unfoldable pub Doubles : Scheme → State → Request → Reply → Type 0
Doubles s m q r = r.steps ≡ (taken papers s m q).tests + 2 * (taken papers s m q).operations

-- the office holds s and m; robotScheme and robotMatrix are what the two conversion calls wrote
pub record Agree (s : Scheme) (m : Matrix) (robot_scheme robot_matrix : List ℕ) : Type 0 where
  -- what the robot holds once it has read them
  pub robot : Matrix
  pub reads_scheme : (table : Scheme) → read_scheme robot_scheme table ≡ record { answer = reading.Done (length robot_scheme); scheme = convert_scheme s }
  pub reads_matrix : (things : Things) (cells : List ℕ) → length cells ≡ 2304 →
      ◌≡◌ {A = MatrixAnswer × List ℕ} (read_matrix robot_matrix (convert_scheme s) things cells)
      (record { answer = reading.Done (length robot_matrix); things = robot.things }, robot.cells)
  -- With every entry there, each answer is equal, whatever the list and the answers' buffer: every byte but the steps of the answers.
  pub same_ending : (bytes out : List ℕ) → (run_on (convert_scheme s) robot bytes out).ran.answer ≡ (run_on s m bytes out).ran.answer
  pub same_answers : (bytes out : List ℕ) →
      let n = length (read_list bytes).requests in
      besides_steps n (run_on (convert_scheme s) robot bytes out).replies ≡ besides_steps n (run_on s m bytes out).replies
  -- The office's steps are tests and operations (`HowManySteps`); the robot's are those tests and twice those operations.
  pub robot_steps : (bytes out : List ℕ) → ((k : ℕ) → (run_on s m bytes out).ran.answer ≢ Refused k) →
      ToEach (Doubles s) s (stands_for m) (read_list bytes).requests (replies_in (run_on (convert_scheme s) robot bytes out).replies)
  -- After it (so after each request, a list being any list) the things are the same, the plain rights agree, and a partner stands exactly where its
  -- right doesn't.
  pub mirrored : (bytes out : List ℕ) → Mirrors s.head (left_by (run_on s m bytes out)) (left_by (run_on (convert_scheme s) robot bytes out))
  -- A robot that starts with any of its entries missing runs any list, and stops at its first refusal: ps is what it carried out before that, told from
  -- the replies that `run_list` stored. Just those the office carries out too, from the full matrix and in that order, as the robot did; and the robot
  -- then holds no entry that a complete one lacks after just those.
  pub incomplete : (poor : Matrix) (bytes out out' : List ℕ) → T (accepted_matrix (convert_scheme s).head poor) → Within (stands_for poor) (stands_for robot) →
      ((i : ℕ) → get_or bytes i 0 < 256) → reply_width * length (read_list bytes).requests ≤ length out →
      let ps = obeyed_by (read_list bytes).requests (run_on (convert_scheme s) poor bytes out).replies in
      reply_width * length ps ≤ length out' →
      CarriedOut s ps (run_on s m (list_bytes ps) out')
      × CarriedOut (convert_scheme s) ps (run_on (convert_scheme s) poor (list_bytes ps) out')
      × Within (left_by (run_on (convert_scheme s) poor (list_bytes ps) out')) (left_by (run_on (convert_scheme s) robot (list_bytes ps) out'))

-- Both conversion calls have answered that they are done. (Then scheme and matrix are accepted and can be converted, as what was read always is.)
abbrev pub FunctionsAgree : Type 0
FunctionsAgree = (s : Scheme) (m : Matrix) (out out' left left' : List ℕ) (written written' : ℕ) →
    ◌≡◌ {A = Writing × List ℕ} (convert_scheme_into out s) (writing.Done written, left) →
    ◌≡◌ {A = Writing × List ℕ} (convert_matrix_into out' s m) (writing.Done written', left') →
    Agree s m (take written left) (take written' left')
