-- Demand 3 of the functions. A conversion that was done tells that all was accepted; what the robot then reads stands for the converted matrix; and
-- a run in memory is a run on paper, of which `Demand3` speaks.
-- Assumes nothing.
use Prim.Native.Nat.{ℕ, ◌*◌, ◌≤◌, ◌<◌}
use mathlib.Core.Path.{◌≡◌, refl, sym, ap, ◌∙◌}
use mathlib.Core.Bool.{Bool, true, false, cond, ◌&&◌}
use mathlib.Core.Option.{none, some}
use mathlib.Core.List.{List, [], ◌∷◌, ◌++◌}
use lib.Dec.{T, le→leb}
use lib.Seq.{take-length}
use lib.ListN.{length, take, drop, get_or}
use Rattle.laws.specs.Check.{Fault, passes}
use Rattle.model.specs.Request.{Request, answer, after, step, run, answers}
use Rattle.model.specs.Answers.{steps_to, reply_of, reply_to, reply_each, reply_width, replies_in}
use Rattle.model.specs.Papers.{State, papers}
use Rattle.model.specs.Seats.{Matrix, stands_for}
use Rattle.model.specs.Accepted.{accepted_scheme, accepted_matrix}
use Rattle.model.specs.declared.Reply.{Reply}
use Rattle.model.specs.declared.Scheme.{Scheme}
use Rattle.model.specs.declared.Things.{Things}
use Rattle.laws.proofs.Bools.{is_true, and_left, and_right}
use Rattle.laws.proofs.Differ.{constructors_differ}
use Rattle.model.proofs.StepsTaken.{steps_taken}
use Rattle.conversion.specs.Conversion.{conversion_fault, convertible, convert_scheme, convert_matrix}
use Rattle.conversion.specs.Demand3.{Mirrors, Agree as OnPaper, Within}
use Rattle.conversion.proofs.Converted.{converts}
use Rattle.conversion.proofs.Demand3.{demand3}
use Rattle.conversion.proofs.Robot.{still_mirrors}
use Rattle.conversion.proofs.RobotSteps.{robot_steps_lem as robot_steps_twice}
use Rattle.records.specs.Outcome.Reading as reading
use Rattle.records.specs.Outcome.Writing.{Writing}
use Rattle.records.specs.Outcome.Writing as writing
use Rattle.records.proofs.Wrote.{pair_eq, wrote, wrote_first}
use Rattle.scheme_bytes.specs.Answers.{read_scheme}
use Rattle.scheme_bytes.specs.Write.{write_scheme}
use Rattle.scheme_bytes.proofs.FunctionTrips.{function_trips as scheme_trips}
use Rattle.matrix_bytes.specs.Answers.{read_matrix}
use Rattle.matrix_bytes.specs.Content.{reseated}
use Rattle.matrix_bytes.specs.Write.{matrix_bytes, write_matrix}
use Rattle.matrix_bytes.specs.MatrixAnswer.{MatrixAnswer}
use Rattle.matrix_bytes.proofs.FunctionTrips.{function_trips as matrix_trips}
use Rattle.matrix_bytes.proofs.RoundTrips.{round_trips}
use Rattle.matrix_bytes.proofs.AcceptedTrip.{accepted_iff_read}
use Rattle.request_list.specs.List.{list_bytes}
use Rattle.engine.proofs.ListLaws.{replies_stored}
use Rattle.engine.specs.List.{run_on}
use Rattle.convert.specs.Convert.{scheme_fault, matrix_fault, written_by, convert_scheme_into, convert_matrix_into}
use Rattle.agreement.specs.Replies.{ToEach, obeyed_by, besides_steps}
use Rattle.agreement.specs.Agreement.{left_by, CarriedOut, Doubles, FunctionsAgree}
use Rattle.agreement.specs.LibraryAgrees.{Bytes}
use Rattle.agreement.specs.Incomplete.{Poorer, BothDo}
use Rattle.agreement.proofs.ListsAhead.{writable, list}
use Rattle.agreement.proofs.Runs.{asked, room, many, ran_if, ran, left_so, replied, obeys, list_room, carried_out}
use Rattle.agreement.proofs.Obeyed.{same_besides}

-- ---- what a conversion that was done tells: there was no fault, and so many bytes stand in front of the buffer
no_fault : (may : Bool) (f : Fault) → cond may f (some 27) ≡ none → T may × T (passes f)
unfolding passes
no_fault true f e = (tt, rw e tt)
no_fault false f e = constructors_differ (cc)

written_by_lem : (out bytes : List ℕ) (f : Fault) (n : ℕ) (left : List ℕ) → ◌≡◌ {A = Writing × List ℕ} (written_by out bytes f) (writing.Done n, left) →
    (f ≡ none) × (n ≡ length (take n left))
written_by_lem out bytes none n left e =
    let (size, same) = wrote_first out bytes n left (wrote true 27 out 0 bytes n left e).1 in (refl, size ∙ ap length (sym same))
written_by_lem out bytes (some k) n left e = let (p, d) = pair_eq e in constructors_differ (cc)

-- ---- the office and the robot

-- on paper, wherever they mirror: each reply of the robot reports the office's tests, and twice its operations
module _ (s : Scheme) (ok : T (accepted_scheme s)) (can : T (convertible s)) where
  doubles : (office robot : State) → Mirrors s.head office robot → (q : Request) →
      Doubles s office q (reply_to (convert_scheme s) q (answer (step papers (convert_scheme s) robot q)))
  unfolding Doubles reply_to reply_of steps_to
  doubles office robot m q =
      let twice = robot_steps_twice s office robot q ok can m in
      rw ((steps_taken papers).counts (convert_scheme s) robot q, twice.same_tests, twice.twice)

  -- they still do after the request
  mirrors_on : (office robot : State) → Mirrors s.head office robot → (q : Request) →
      Mirrors s.head (after office (step papers s office q)) (after robot (step papers (convert_scheme s) robot q))
  unfolding run
  mirrors_on office robot m q = still_mirrors s ok can office robot m (q ∷ []) 1

  doubles_each : (office robot : State) → Mirrors s.head office robot → (qs : List Request) (more : List Reply) →
      ToEach (Doubles s) s office qs (reply_each (convert_scheme s) qs (answers papers (convert_scheme s) robot qs) ++ more)
  unfolding ToEach reply_each answers
  doubles_each office robot m [] more = tt
  doubles_each office robot m (q ∷ qs) more = (
    doubles office robot m q,
    doubles_each (after office (step papers s office q)) (after robot (step papers (convert_scheme s) robot q)) (mirrors_on office robot m q) qs more,
  )

-- what the robot has read
abbrev pub robot_of : Scheme → Matrix → Matrix
robot_of s m = reseated (convert_scheme s).head (convert_matrix s.head m)

module _ (s : Scheme) (m : Matrix) (ok : T (accepted_scheme s)) (of : T (accepted_matrix s.head m)) (can : T (convertible s)) where
  abbrev new : Scheme
  new = convert_scheme s

  abbrev full : Matrix
  full = convert_matrix s.head m

  abbrev robot : Matrix
  robot = robot_of s m

  pub new_ok : T (accepted_scheme new)
  new_ok = (converts.scheme s ok can).0

  full_ok : T (accepted_matrix new.head full)
  full_ok = converts.matrix s m ok can of

  pub robot_ok : T (accepted_matrix new.head robot)
  robot_ok =
      let bytes : List ℕ = matrix_bytes new.head full in
      let (tidy, below, there, same) = accepted_iff_read.reads new full new_ok full_ok in
      (round_trips.back new bytes robot (length bytes) new_ok below there).0

  module _ (bytes out : List ℕ) where
    on_paper : OnPaper s (stands_for m) (stands_for robot) (asked bytes)
    on_paper = rw (round_trips.same_content new full new_ok full_ok) (demand3 s m (asked bytes) ok can of)

    pub same_ending_lem : (run_on new robot bytes out).ran.answer ≡ (run_on s m bytes out).ran.answer
    same_ending_lem = rw (ran new robot new_ok robot_ok bytes out, ran s m ok of bytes out) (go (room bytes out))
      where
        go : (fits : Bool) → (ran_if new robot bytes out fits).ran.answer ≡ (ran_if s m bytes out fits).ran.answer
        go true = refl
        go false = refl

    abbrev Same : Type 0
    Same = besides_steps (length (asked bytes)) (run_on new robot bytes out).replies ≡ besides_steps (length (asked bytes)) (run_on s m bytes out).replies

    pub same_answers_lem : Same
    same_answers_lem = go (room bytes out) refl
      where
        behind : List ℕ
        behind = drop (reply_width * length (asked bytes)) out

        go : (fits : Bool) → room bytes out ≡ fits → Same
        go true e =
            rw (replied new robot new_ok robot_ok bytes out (rw e tt), replied s m ok of bytes out (rw e tt), on_paper.same_answers)
            (same_besides s new (asked bytes) (answers papers s (stands_for m) (asked bytes)) behind)
        go false e = rw (ran new robot new_ok robot_ok bytes out, ran s m ok of bytes out, e)

    -- each reply of the robot, told of the office's matrix
    pub robot_steps_lem : T (room bytes out) → ToEach (Doubles s) s (stands_for m) (asked bytes) (replies_in (run_on new robot bytes out).replies)
    robot_steps_lem fits =
        rw (replied new robot new_ok robot_ok bytes out fits, replies_stored (reply_each new (asked bytes) _) _)
        (doubles_each s ok can (stands_for m) (stands_for robot) start (asked bytes) _)
      where
        start : Mirrors s.head (stands_for m) (stands_for robot)
        start = unfold run in on_paper.after_each 0

    pub mirrored : Mirrors s.head (left_by (run_on s m bytes out)) (left_by (run_on new robot bytes out))
    mirrored = rw (left_so s m ok of bytes out, left_so new robot new_ok robot_ok bytes out) (on_paper.after_each (many bytes out))

    -- a robot with entries missing, and any list: what it carried out before its first refusal
    module _ (poor : Matrix) (p : T (accepted_matrix new.head poor)) (w : Within (stands_for poor) (stands_for robot)) (small : Bytes bytes)
        (fits : reply_width * length (asked bytes) ≤ length out) (out' : List ℕ) where
      abbrev ps : List Request
      ps = obeyed_by (asked bytes) (run_on new poor bytes out).replies

      pair : Poorer new poor robot
      pair = record { scheme = new_ok; presence = (converts.scheme s ok can).1; accepted = (p, robot_ok); within = w }

      -- the office does
      pub office_does_lem : reply_width * length ps ≤ length out' → CarriedOut s ps (run_on s m (list_bytes ps) out')
      office_does_lem =
          rw (obeys new poor new_ok p bytes out (le→leb _ _ fits))
          (λ fits'. carried_out s m ok of _ (writable new poor robot pair bytes out small fits) out' fits' (on_paper.incomplete (stands_for poor) w).office_does)

      -- and so does a complete robot, which stays richer
      both_do : reply_width * length ps ≤ length out' → BothDo new ps (run_on new poor (list_bytes ps) out') (run_on new robot (list_bytes ps) out')
      both_do fits' =
          let is : take (length ps) ps ≡ ps = take-length ps in
          rw is at ((list new poor robot pair bytes out small fits).after_each (length ps) out' out' (rw is fits') (rw is fits'))

    -- what the poorer robot obeyed, the office does, and so does the poorer robot itself
    pub incomplete : (poor : Matrix) (out' : List ℕ) → T (accepted_matrix new.head poor) → Within (stands_for poor) (stands_for robot) →
        ((i : ℕ) → get_or bytes i 0 < 256) → reply_width * length (asked bytes) ≤ length out →
        let ps = obeyed_by (asked bytes) (run_on new poor bytes out).replies in
        reply_width * length ps ≤ length out' →
        CarriedOut s ps (run_on s m (list_bytes ps) out')
        × CarriedOut new ps (run_on new poor (list_bytes ps) out')
        × Within (left_by (run_on new poor (list_bytes ps) out')) (left_by (run_on new robot (list_bytes ps) out'))
    incomplete poor out' p w small fits fits' =
        let both = both_do poor p w small fits out' fits' in
        (office_does_lem poor p w small fits out' fits', both.poorer_did, unfold left_by in both.left.within)

-- ---- what two conversions that were done tell
pub record Converted (s : Scheme) (m : Matrix) (robot_scheme robot_matrix : List ℕ) : Type 0 where
  pub ok : T (accepted_scheme s)
  pub of : T (accepted_matrix s.head m)
  pub can : T (convertible s)
  pub reads_scheme : (table : Scheme) → read_scheme robot_scheme table ≡ record { answer = reading.Done (length robot_scheme); scheme = convert_scheme s }
  pub reads_matrix : (things : Things) (cells : List ℕ) → length cells ≡ 2304 →
      ◌≡◌ {A = MatrixAnswer × List ℕ} (read_matrix robot_matrix (convert_scheme s) things cells)
      (record { answer = reading.Done (length robot_matrix); things = (robot_of s m).things }, (robot_of s m).cells)

pub converted : (s : Scheme) (m : Matrix) (out out' left left' : List ℕ) (written written' : ℕ) →
    ◌≡◌ {A = Writing × List ℕ} (convert_scheme_into out s) (writing.Done written, left) →
    ◌≡◌ {A = Writing × List ℕ} (convert_matrix_into out' s m) (writing.Done written', left') →
    Converted s m (take written left) (take written' left')
unfolding convert_scheme_into convert_matrix_into matrix_fault convertible write_scheme write_matrix
converted s m out out' left left' written written' e e' =
    let (none_first, size) = written_by_lem out _ (scheme_fault s) written left e in
    let (none_then, size') = written_by_lem out' _ (matrix_fault s m) written' left' e' in
    let (both, can) = no_fault (accepted_scheme s && accepted_matrix s.head m) (conversion_fault s) none_then in
    let ok : T (accepted_scheme s) = and_left (accepted_scheme s) _ both in
    let of : T (accepted_matrix s.head m) = and_right (accepted_scheme s) _ both in
    let a = is_true (accepted_scheme (convert_scheme s)) (new_ok s m ok of can) in
    let b = is_true (accepted_matrix (convert_scheme s).head (convert_matrix s.head m)) (full_ok s m ok of can) in
    let scheme = scheme_trips.written out (convert_scheme s) written left (rw a (rw none_first at e)) in
    let matrix = matrix_trips.written out' (convert_scheme s) (convert_matrix s.head m) written' left' (rw (a, b) (rw none_then at e')) in
    record {
      ok = ok;
      of = of;
      can = can;
      reads_scheme = λ table. rw (← size) (scheme table);
      reads_matrix = λ things cells l. rw (← size') (matrix.0 things cells l);
    }

pub functions_agree : FunctionsAgree
functions_agree s m out out' left left' written written' e e' =
    let c = converted s m out out' left left' written written' e e' in
    record {
      robot = robot_of s m;
      reads_scheme = c.reads_scheme;
      reads_matrix = c.reads_matrix;
      same_ending = same_ending_lem s m c.ok c.of c.can;
      same_answers = same_answers_lem s m c.ok c.of c.can;
      robot_steps = λ bytes out whole. robot_steps_lem s m c.ok c.of c.can bytes out (list_room s m c.ok c.of bytes out whole);
      mirrored = mirrored s m c.ok c.of c.can;
      incomplete = λ poor bytes out out'. incomplete s m c.ok c.of c.can bytes out poor out';
    }
