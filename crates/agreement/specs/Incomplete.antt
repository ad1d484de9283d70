-- Robots back from service with part of their matrix missing can only be stricter, said of the functions and of what robots link: of every accepted scheme
-- without absence tests, creates and destroys included. On paper it is said in crates/incomplete, where two examples show what its conditions are
-- for (`Looser`). Demand 3's second half is this of a converted scheme (`Agreement`, `LibraryAgrees`). Assumes nothing.
use Rattle.std.specs.Prelude.{ℕ, ◌*◌, ◌≤◌, ◌≡◌, List, T, length, take}
use Rattle.model.specs.Request.{Request}
use Rattle.model.specs.Answers.{reply_width}
use Rattle.model.specs.Arrays.{no_scheme}
use Rattle.model.specs.Seats.{Matrix, matrix_of, stands_for}
use Rattle.model.specs.Accepted.{accepted_scheme, accepted_matrix}
use Rattle.model.specs.declared.Scheme.{Scheme}
use Rattle.conversion.specs.Conversion.{tests_presence}
use Rattle.conversion.specs.Demand3.{Within}
use Rattle.scheme_bytes.specs.Answers.{read_scheme}
use Rattle.request_list.specs.List.{read_list, list_bytes}
use Rattle.engine.specs.Step.{request_on}
use Rattle.engine.specs.List.{Result, run_on}
use Rattle.robot.specs.Library.{Ran, run_bytes}
use Rattle.agreement.specs.Replies.{obeyed_by}
use Rattle.agreement.specs.Agreement.{left_in, CarriedOut}
use Rattle.agreement.specs.LibraryAgrees.{matrix_after, Bytes, HasRoom, read_in, AllCarriedOut}

-- ---- in memory

-- two accepted matrices of an accepted scheme without absence tests: the same things, marks and highest id, the entries of one within the other
pub record Poorer (s : Scheme) (poorer richer : Matrix) : Type 0 where
  pub scheme : T (accepted_scheme s)
  pub presence : T (tests_presence s)
  pub accepted : T (accepted_matrix s.head poorer) × T (accepted_matrix s.head richer)
  pub within : Within (stands_for poorer) (stands_for richer)

-- just these requests are run on both: both carry out each of them, and leave two such matrices again
pub record BothDo (s : Scheme) (qs : List Request) (poorer richer : Result) : Type 0 where
  pub poorer_did : CarriedOut s qs poorer
  pub richer_does : CarriedOut s qs richer
  pub left : Poorer s (left_in poorer) (left_in richer)

-- ps is what the poorer carried out of a list before its first refusal
pub record ListAhead (s : Scheme) (poorer richer : Matrix) (bytes out : List ℕ) (ps : List Request) : Type 0 where
  -- the same list on the richer: its replies to those are the poorer's, byte for byte
  pub same_replies : (out' : List ℕ) → reply_width * length (read_list bytes).requests ≤ length out' →
      take (reply_width * length ps) (run_on s richer bytes out').replies ≡ take (reply_width * length ps) (run_on s poorer bytes out).replies
  -- after each of them: when just the first k are run on both
  pub after_each : (k : ℕ) (out₁ out₂ : List ℕ) →
      let qs = take k ps in
      reply_width * length qs ≤ length out₁ → reply_width * length qs ≤ length out₂ →
      BothDo s qs (run_on s poorer (list_bytes qs) out₁) (run_on s richer (list_bytes qs) out₂)
  -- and where the poorer refused nothing of the list, what the two runs of it left
  pub left : (out' : List ℕ) → reply_width * length (read_list bytes).requests ≤ length out' → length ps ≡ length (read_list bytes).requests →
      Poorer s (left_in (run_on s poorer bytes out)) (left_in (run_on s richer bytes out'))

-- ---- on bytes: of a scheme's bytes, and of two images

-- the things, marks and highest id of one image are those of the other, and its entries within the other's, as every call reads them
abbrev pub ImageWithin : List ℕ → List ℕ → List ℕ → Type 0
ImageWithin scheme poor rich = Within (stands_for (read_in scheme poor)) (stands_for (read_in scheme rich))

-- just these requests were run by two calls: both carried out each of them, and wrote two such images again
pub record BothCallsDo (scheme : List ℕ) (qs : List Request) (poor rich : Ran) : Type 0 where
  pub poorer_did : AllCarriedOut (read_scheme scheme no_scheme).scheme qs poor
  pub richer_does : AllCarriedOut (read_scheme scheme no_scheme).scheme qs rich
  pub left : ImageWithin scheme (matrix_after poor) (matrix_after rich)

-- two calls with one list, the first on the poorer image; ps is what it carried out before its first refusal
pub record CallsAhead (scheme poor rich requests : List ℕ) (on_poor on_rich : Ran) (ps : List Request) : Type 0 where
  -- the answers up to that refusal are the same, byte for byte
  pub same_answers : take (reply_width * length ps) on_rich.answers ≡ take (reply_width * length ps) on_poor.answers
  -- after each of them: when just the first k are run on both
  pub after_each : (k : ℕ) (answers₁ answers₂ out₁ out₂ : List ℕ) →
      let qs = take k ps in
      reply_width * length qs ≤ length answers₁ → reply_width * length qs ≤ length answers₂ → HasRoom out₁ → HasRoom out₂ →
      BothCallsDo scheme qs (run_bytes scheme poor (list_bytes qs) answers₁ out₁) (run_bytes scheme rich (list_bytes qs) answers₂ out₂)
  -- and where nothing was refused on the poorer image, what the two calls wrote
  pub left : length ps ≡ length (read_list requests).requests → ImageWithin scheme (matrix_after on_poor) (matrix_after on_rich)

-- ---- the promise
pub record Incomplete : Type 0 where
  -- `request`: what it carries out on the poorer it carries out on the richer, with the same reply, and leaves two such matrices again. So it is request
  -- after request, up to the poorer's first refusal.
  pub request : (s : Scheme) (poorer richer : Matrix) (command : ℕ) (ids : List ℕ) → Poorer s poorer richer →
      let p = request_on s poorer command ids in
      let r = request_on s richer command ids in
      p.0.answer.number ≡ 0 → (r.0.answer ≡ p.0.answer) × Poorer s (matrix_of p.0.things p.1) (matrix_of r.0.things r.1)
  -- `run_list`, whatever list the poorer is given that has room for its replies: told from these, what it carried out before its first refusal.
  pub list : (s : Scheme) (poorer richer : Matrix) (bytes out : List ℕ) → Poorer s poorer richer → Bytes bytes →
      reply_width * length (read_list bytes).requests ≤ length out →
      ListAhead s poorer richer bytes out (obeyed_by (read_list bytes).requests (run_on s poorer bytes out).replies)
  -- `slushferret_run`, two calls that gave 0: told from the answers that the first one stored.
  pub calls : (scheme poor rich requests answers answers' out out' : List ℕ) → Bytes scheme → Bytes poor → Bytes rich → Bytes requests →
      T (tests_presence (read_scheme scheme no_scheme).scheme) → ImageWithin scheme poor rich →
      let on_poor = run_bytes scheme poor requests answers out in
      let on_rich = run_bytes scheme rich requests answers' out' in
      on_poor.called.number ≡ 0 → on_rich.called.number ≡ 0 →
      CallsAhead scheme poor rich requests on_poor on_rich (obeyed_by (read_list requests).requests on_poor.answers)
