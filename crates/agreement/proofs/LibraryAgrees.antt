-- Demand 3 of the robots' library. Both conversion calls were done (`LibraryCalls`), so `Agreement` speaks of what their bytes are; and each run call is
-- a run of what its own bytes are (`LibraryRuns`).
-- Assumes nothing.
use Prim.Native.Nat.{ℕ, ◌*◌, ◌≤◌}
use mathlib.Core.Path.{◌≡◌, ◌∙◌}
use mathlib.Core.List.{List}
use lib.Dec.{T, le→leb}
use lib.ListN.{length, take, length-replicate}
use lib.Seq.{take-length}
use Rattle.model.specs.Arrays.{no_scheme}
use Rattle.model.specs.Request.{Request}
use Rattle.model.specs.Answers.{reply_width}
use Rattle.model.specs.Seats.{Matrix, no_things, stands_for}
use Rattle.model.specs.declared.Scheme.{Scheme}
use Rattle.conversion.specs.Conversion.{convert_scheme, tests_presence}
use Rattle.conversion.specs.Demand3.{Within}
use Rattle.conversion.proofs.Converted.{converts}
use Rattle.request_list.specs.List.{list_bytes}
use Rattle.engine.specs.List.{run_on}
use Rattle.robot.specs.Library.{run_bytes}
use Rattle.agreement.specs.LibraryAgrees.{Bytes, HasRoom, IsScheme, IsMatrix, AllCarriedOut, Alike, Stricter, LibraryAgrees}
use Rattle.agreement.specs.Replies.{obeyed_by}
use Rattle.agreement.proofs.Runs.{asked}
use Rattle.agreement.proofs.Agreement.{robot_of, new_ok, robot_ok, same_ending_lem, same_answers_lem, robot_steps_lem, mirrored, office_does_lem, Converted}
use Rattle.agreement.proofs.Incomplete.{CallsDo, calls_do}
use Rattle.agreement.proofs.LibraryCalls.{empty, both_done}
use Rattle.agreement.proofs.LibraryRuns.{Held, matrix_held, call_runs, had_room, same_told, all_done}

module _ (s : Scheme) (m : Matrix) (scheme matrix robot_scheme robot_matrix : List ℕ) (is_scheme : IsScheme scheme s) (is_matrix : IsMatrix matrix s m)
    (c : Converted s m robot_scheme robot_matrix) where
  abbrev new : Scheme
  new = convert_scheme s

  office : Held scheme matrix s m
  office = record { ok = c.ok; of = c.of; is_scheme = is_scheme; is_matrix = is_matrix }

  robot : Held robot_scheme robot_matrix new (robot_of s m)
  robot = record {
    ok = new_ok s m c.ok c.of c.can;
    of = robot_ok s m c.ok c.of c.can;
    is_scheme = c.reads_scheme no_scheme;
    is_matrix = c.reads_matrix no_things empty (length-replicate {A = ℕ} 2304 0);
  }

  -- a robot with every entry
  complete : (requests answers out out' : List ℕ) → HasRoom out → HasRoom out' →
      Alike s m requests (run_bytes scheme matrix requests answers out) (run_bytes robot_scheme robot_matrix requests answers out')
  complete requests answers out out' room room' =
      let a = call_runs office requests answers out room in
      let b = call_runs robot requests answers out' room' in
      let (number, report) = same_told a b (same_ending_lem s m c.ok c.of c.can requests answers) in
      record {
        same_number = number;
        same_report = report;
        same_answers = rw (b.answers, a.answers) (same_answers_lem s m c.ok c.of c.can requests answers);
        robot_steps = λ e.
            let fits = (had_room office requests answers out e).0 in
            rw b.answers (robot_steps_lem s m c.ok c.of c.can requests answers (le→leb _ _ fits));
        mirrored = λ e.
            let (end, is, stands) = a.left e in
            let (end', is', stands') = b.left (number ∙ e) in
            (end, end', is, is', rw (stands, stands') (mirrored s m c.ok c.of c.can requests answers));
      }

  -- a robot with entries missing, whose call gave 0
  module _ (poor requests answers out : List ℕ) (p : Matrix) (small : Bytes poor) (is_poor : IsMatrix poor new p)
      (within : Within (stands_for p) (stands_for (robot_of s m))) (low : Bytes requests)
      (e : (run_bytes robot_scheme poor requests answers out).called.number ≡ 0) where
    held : Held robot_scheme poor new p
    held = record { ok = robot.ok; of = matrix_held poor small new robot.ok p is_poor; is_scheme = robot.is_scheme; is_matrix = is_poor }

    abbrev ps : List Request
    ps = obeyed_by (asked requests) (run_bytes robot_scheme poor requests answers out).answers

    -- the office does what was carried out
    office_did : (answers' out₁ : List ℕ) → reply_width * length ps ≤ length answers' → HasRoom out₁ →
        AllCarriedOut s ps (run_bytes scheme matrix (list_bytes ps) answers' out₁)
    office_did =
        let (fits, first) = had_room held requests answers out e in
        rw first.answers (λ answers' out₁ fits' room.
        all_done (call_runs office (list_bytes (obeyed_by (asked requests) (run_on new p requests answers).replies)) answers' out₁ room) (office_does_lem s m c.ok c.of c.can requests answers p held.of within low fits answers' fits'))

    -- and so does a complete robot, which stays richer: `Incomplete` of the converted scheme
    stricter : (answers' out₁ out₂ out₃ : List ℕ) → reply_width * length ps ≤ length answers' → HasRoom out₁ → HasRoom out₂ → HasRoom out₃ →
        Stricter s ps (run_bytes scheme matrix (list_bytes ps) answers' out₁) (run_bytes robot_scheme poor (list_bytes ps) answers' out₂)
        (run_bytes robot_scheme robot_matrix (list_bytes ps) answers' out₃)
    stricter answers' out₁ out₂ out₃ fits' room₁ room₂ room₃ =
        let is : take (length ps) ps ≡ ps = take-length ps in
        let presence : T (tests_presence new) = (converts.scheme s c.ok c.can).1 in
        let both : CallsDo robot_scheme new ps (run_bytes robot_scheme poor (list_bytes ps) answers' out₂) (run_bytes robot_scheme robot_matrix (list_bytes ps) answers' out₃) =
        rw is at (calls_do held robot presence within requests answers out low e (length ps) answers' answers' out₂ out₃ (rw is fits') (rw is fits') room₂ room₃) in
        let wrote = both.wrote in
        record {
          office_does = office_did answers' out₁ fits' room₁;
          robot_did = both.poorer_did;
          no_entry_more = (wrote.poorer, wrote.richer, wrote.is_poorer.is_matrix, wrote.is_richer.is_matrix, wrote.within);
        }

pub library_agrees : LibraryAgrees
library_agrees scheme matrix out out' small small' e e' =
    let (s, m, is, is', c) = both_done scheme matrix out out' small small' e e' in
    record {
      s = s;
      m = m;
      robot = robot_of s m;
      is_scheme = is;
      is_matrix = is';
      robot_is_scheme = (robot s m scheme matrix _ _ is is' c).is_scheme;
      robot_is_matrix = (robot s m scheme matrix _ _ is is' c).is_matrix;
      complete = complete s m scheme matrix _ _ is is' c;
      incomplete = stricter s m scheme matrix _ _ is is' c;
    }
