-- A run of what is accepted is neither refused as a whole (27) nor short of room (9), and the texts of its parts are the whole text, which is so short
-- that its length is the position behind it. Assumes nothing.
use Prim.Native.Nat.{ℕ, ◌+◌, ◌*◌, ◌≤◌, ◌<◌}
use native.Mathlib.Omega.{arith}
use mathlib.Core.Path.{◌≡◌, refl, sym, ap, ◌∙◌}
use mathlib.Core.List.{List, [], ◌∷◌, ◌++◌, append_assoc}
use lib.Dec.{T}
use lib.ListN.{length, get_or, take, drop, replicate, length-append, length-take}
use lib.Seq.{sets, get_or-take}
use native.Mathlib.Decide.{dec_lt}
use borrow.Author.Tests.{le-leb}
use Rattle.std.specs.Prelude.{Result, Ok, Err}
use Rattle.std.proofs.lemmas.List.{get_or_past}
use Rattle.laws.proofs.Bools.{is_true}
use Rattle.laws.proofs.Differ.{constructors_differ}
use Rattle.faults.specs.Numbers.{number_of}
use Rattle.model.specs.Answers.{reply_each, reply_bytes, reply_width, replies_in}
use Rattle.model.specs.Request.{run, answers}
use Rattle.model.specs.Seats.{Matrix, matrix_of, no_things, seats}
use Rattle.model.specs.Accepted.{accepted_scheme, accepted_matrix}
use Rattle.model.specs.Arrays.{no_scheme}
use Rattle.model.specs.declared.Reply.{Reply}
use Rattle.model.specs.declared.Scheme.{Scheme}
use Rattle.model.specs.declared.Things.{Things}
use Rattle.records.specs.Bytes.{each_bytes}
use Rattle.records.specs.Writing.{placed}
use Rattle.records.specs.Results.{refused, reading_result}
use Rattle.records.specs.declared.Refused.{Refused}
use Rattle.records.specs.Outcome.Reading.{Reading}
use Rattle.records.specs.Outcome.Reading as reading
use Rattle.lines.specs.Put.{largest, put_text}
use Rattle.lines.proofs.PutLaws.{from_start, put_then}
use Rattle.lines.proofs.LineLaws.{few_in_line}
use Rattle.scheme_bytes.specs.Answers.{SchemeAnswer, read_scheme, scheme_result}
use Rattle.matrix_bytes.specs.Answers.{read_matrix, matrix_result}
use Rattle.matrix_bytes.specs.MatrixAnswer.{MatrixAnswer}
use Rattle.engine.specs.List.{run_answer, run_on}
use Rattle.engine.specs.Given.{Given, gives}
use Rattle.request_list.specs.List.{read_list}
use Rattle.totals.specs.Totals.{totals_of}
use Rattle.totals.specs.Outcome as totals
use Rattle.printout.specs.Text.{heading, bad_line, request_lines, ending_line, end_line, run_text, answers_text, input, on_matrix, matrix_text, on_scheme, play_text}
use Rattle.printout.specs.Inner.Ending.{list_text}
use Rattle.printout.specs.declared.text.Columns.TheVariants.{ToTest, ToSteps}
use Rattle.request_list.proofs.ListLaws.{few_requests}
use Rattle.printout.proofs.RequestLaws.{few_lines, few_bad, few_ending, lines_more, refusal_line}
use Rattle.printout.proofs.ReadLaws.{accepted_read}
use Rattle.engine.proofs.ListLaws.{replies_stored}

-- ---- a run of an accepted matrix, with room for a reply per byte

module _ (s : Scheme) (m : Matrix) (ok : T (accepted_scheme s)) (of : T (accepted_matrix s.head m)) (bytes buffer : List ℕ)
    (room : reply_width * length bytes ≤ length buffer) (ran : Given) (e : ran ≡ gives (run_on s m bytes buffer)) where
  abbrev after : Matrix
  after = run seats s m (read_list bytes).requests

  abbrev list : List Reply
  list = reply_each s (read_list bytes).requests (answers seats s m (read_list bytes).requests)

  abbrev stored : List ℕ
  stored = each_bytes reply_bytes list

  abbrev things : Things
  things = ran.1

  abbrev cells : List ℕ
  cells = ran.2

  abbrev replies : List ℕ
  replies = ran.3

  carried_out : ran ≡ gives (record {
    ran = record { answer = run_answer (length (read_list bytes).requests) (read_list bytes).ending; things = after.things };
    cells = after.cells;
    replies = placed buffer 0 stored;
  })
  unfolding run_on
  carried_out =
      let fits = le-leb (reply_width * length (read_list bytes).requests) (length buffer) (omega (arith, few_requests bytes, room)) in
      e ∙ rw (is_true (accepted_scheme s) ok, is_true (accepted_matrix s.head m) of, fits)

  now_is : matrix_of things cells ≡ after
  now_is = ap (λ (r : Given). matrix_of r.1 r.2) carried_out

  lines_are : list_text ToTest 0 (read_list bytes) (replies_in replies) ≡ list_text ToTest 0 (read_list bytes) list
  unfolding placed
  lines_are =
      let behind = drop (0 + length stored) buffer in
      let n : replies ≡ stored ++ behind = ap (λ (r : Given). r.3) carried_out in
      rw (n, replies_stored list behind, lines_more ToTest 0 s m (read_list bytes).requests (replies_in behind))

  pub printed : (out : List ℕ) → length out ≤ largest → {p : ℕ} {first : List ℕ} → ◌≡◌ {A = ℕ × List ℕ} (p, first) (put_text out 0 (heading ToTest))
      → {q : ℕ} {second : List ℕ} → ◌≡◌ {A = ℕ × List ℕ} (q, second) (put_text first p (list_text ToTest 0 (read_list bytes) (replies_in replies)))
      → (t : totals.Outcome) → t ≡ totals_of s (matrix_of things cells)
      → {r : ℕ} {third : List ℕ} → ◌≡◌ {A = ℕ × List ℕ} (r, third) (put_text second q (end_line t)) → (r, third) ≡ put_text out 0 (run_text s m (read_list bytes))
  unfolding run_text
  printed out far a b t f c =
      let l = read_list bytes in
      let parts = append_assoc (heading ToTest) (request_lines ToTest 0 l.requests list) (ending_line l.ending) in
      let text : (heading ToTest ++ list_text ToTest 0 l (replies_in replies)) ++ end_line t ≡ run_text s m l =
      rw (lines_are, f, now_is) (ap (λ (x : List ℕ). x ++ end_line (totals_of s after)) (sym parts)) in
      c ∙ put_then out 0 _ (b ∙ put_then out 0 (heading ToTest) a far _) far _ ∙ ap (put_text out 0) text

-- ---- how long the text is at most

few_end : (t : totals.Outcome) → length (end_line t) ≤ 67
few_end (totals.Counted things cells entries) = omega (arith, few_in_line (things ∷ cells ∷ entries ∷ []))
few_end (totals.Refused k) = omega (arith, few_bad 0 k)

few_run : (s : Scheme) (m : Matrix) (requests : List ℕ) → length requests ≤ 65536 → length (run_text s m (read_list requests)) ≤ largest
unfolding run_text heading
few_run s m requests h =
    let l = read_list requests in
    let lines = few_lines ToTest 0 l.requests (reply_each s l.requests (answers seats s m l.requests)) in
    let ends = few_end (totals_of s (run seats s m l.requests)) in
    simp length-append (omega (arith, few_requests requests, few_ending l.ending))

few_matrix : (s : Scheme) (requests : List ℕ) → length requests ≤ 65536 → (m : MatrixAnswer × List ℕ) (r : Reading)
    → length (on_matrix s requests m r) ≤ largest
few_matrix s requests h m (reading.Done next) = few_run s _ requests h
few_matrix s requests h m (reading.Refused k at) = omega (arith, few_bad at k)

few_scheme : (s : Scheme) (matrix requests : List ℕ) → length requests ≤ 65536 → (r : Reading) → length (on_scheme s matrix requests r) ≤ largest
unfolding matrix_text
few_scheme s matrix requests h (reading.Done next) =
    let m = read_matrix matrix s no_things (replicate 2304 0) in
    few_matrix s requests h m m.0.answer
few_scheme s matrix requests h (reading.Refused k at) = omega (arith, few_bad at k)

few_play : (scheme matrix requests : List ℕ) → length (play_text scheme matrix requests) ≤ largest
unfolding play_text input
few_play scheme matrix requests =
    let s = read_scheme (take 65536 scheme) no_scheme in
    few_scheme s.scheme (take 65536 matrix) (take 65536 requests) (omega (arith, length-take 65536 requests)) s.answer

-- ---- the answers that were stored before

few_answers : (requests stored : List ℕ) → length (answers_text requests stored) ≤ largest
unfolding answers_text heading input
few_answers requests stored =
    let front = take 65536 requests in
    let l = read_list front in
    simp length-append (omega (arith, few_lines ToSteps 0 l.requests (replies_in stored), few_requests front, few_ending l.ending, length-take 65536 requests))

pub answers_printed : (requests stored front : List ℕ) → front ≡ input requests → (out : List ℕ) → length out ≤ largest
    → {p : ℕ} {first : List ℕ} → ◌≡◌ {A = ℕ × List ℕ} (p, first) (put_text out 0 (heading ToSteps))
    → {q : ℕ} {second : List ℕ} → ◌≡◌ {A = ℕ × List ℕ} (q, second) (put_text first p (list_text ToSteps 0 (read_list front) (replies_in stored)))
    → ◌≡◌ {A = ℕ × List ℕ} (q, second) (length (answers_text requests stored), sets out 0 (answers_text requests stored))
unfolding answers_text
answers_printed requests stored front is out far a b =
    let l = read_list (input requests) in
    let text : heading ToSteps ++ list_text ToSteps 0 (read_list front) (replies_in stored) ≡ answers_text requests stored =
    rw is (sym (append_assoc (heading ToSteps) (request_lines ToSteps 0 l.requests (replies_in stored)) (ending_line l.ending))) in
    b ∙ put_then out 0 (heading ToSteps) a far _ ∙ ap (put_text out 0) text ∙ from_start out _ (few_answers requests stored)

-- ---- a scheme and a matrix that were read, or weren't

-- the line of a refusal, from the fault and the position that the reading gave
bad_line_lem : (f : Reading → List ℕ) → ((k at : ℕ) → f (reading.Refused k at) ≡ bad_line at k) → (r : Reading) (x : Refused)
    → reading_result r ≡ Err x → bad_line x.at (number_of x.fault) ≡ f r
bad_line_lem f is (reading.Done next) x e = constructors_differ (cc)
bad_line_lem f is (reading.Refused k at) x e = let g : refused k at ≡ x = cc in refusal_line k at (sym g) ∙ sym (is k at)

read_back : (r : Reading) {next : ℕ} → reading_result r ≡ Ok next → r ≡ reading.Done next
read_back (reading.Done n) {next} e = let f : n ≡ next = cc in ap reading.Done f
read_back (reading.Refused k at) e = constructors_differ (cc)

module _ (scheme matrix requests : List ℕ) (front : List ℕ) (is : front ≡ input scheme) (table : Scheme) (none : table ≡ no_scheme)
    (now : Result ℕ Refused × Scheme) (at_front : now ≡ scheme_result (read_scheme front table)) where
  e : now ≡ scheme_result (read_scheme (input scheme) no_scheme)
  e = at_front ∙ rw (is, none)

  abbrev a : SchemeAnswer
  a = read_scheme (input scheme) no_scheme

  pub scheme_bad : (x : Refused) → now.0 ≡ Err x → bad_line x.at (number_of x.fault) ≡ play_text scheme matrix requests
  unfolding play_text
  scheme_bad x f =
      bad_line_lem (on_scheme a.scheme (input matrix) (input requests)) (λ k at. refl) a.answer x
      (sym (ap (λ (y : Result ℕ Refused × Scheme). y.0) e) ∙ f)

  module _ (next : ℕ) (f : now.0 ≡ Ok next) where
    scheme_good : matrix_text now.1 (input matrix) (input requests) ≡ play_text scheme matrix requests
    unfolding play_text
    scheme_good =
        let g = read_back a.answer (sym (ap (λ (y : Result ℕ Refused × Scheme). y.0) e) ∙ f) in
        rw (e, g)

    module _ (second : List ℕ) (second_is : second ≡ input matrix) (things : Things) (free : things ≡ no_things)
        (there : Result ℕ Refused × Things × List ℕ) (at_second : there ≡ matrix_result (read_matrix second now.1 things (replicate 2304 0))) where
      h : there ≡ matrix_result (read_matrix (input matrix) now.1 no_things (replicate 2304 0))
      h = at_second ∙ rw (second_is, free)

      abbrev m : MatrixAnswer × List ℕ
      m = read_matrix (input matrix) now.1 no_things (replicate 2304 0)

      pub matrix_bad : (x : Refused) → there.0 ≡ Err x → bad_line x.at (number_of x.fault) ≡ play_text scheme matrix requests
      unfolding matrix_text
      matrix_bad x i =
          bad_line_lem (on_matrix now.1 (input requests) m) (λ k at. refl) m.0.answer x
          (sym (ap (λ (y : Result ℕ Refused × Things × List ℕ). y.0) h) ∙ i)
          ∙ scheme_good

      module _ (behind : ℕ) (i : there.0 ≡ Ok behind) where
        done : m.0.answer ≡ reading.Done behind
        done = read_back m.0.answer (sym (ap (λ (y : Result ℕ Refused × Things × List ℕ). y.0) h) ∙ i)

        pub accepted : ((j : ℕ) → get_or second j 0 < 256) → T (accepted_scheme now.1) × T (accepted_matrix now.1.head (matrix_of there.1 there.2))
        accepted low =
            let seen = accepted_read now.1 (input matrix) no_things (rw second_is at low) behind done in
            rw h seen

        pub matrix_good : (third : List ℕ) → third ≡ input requests
            → run_text now.1 (matrix_of there.1 there.2) (read_list third) ≡ play_text scheme matrix requests
        unfolding matrix_text
        matrix_good third third_is = rw (third_is, h) (ap (on_matrix now.1 (input requests) m) (sym done) ∙ scheme_good)

-- the text from the start of the output on: the position behind it is its length
pub told : (scheme matrix requests out : List ℕ) {r : ℕ} {new : List ℕ}
    → ◌≡◌ {A = ℕ × List ℕ} (r, new) (put_text out 0 (play_text scheme matrix requests))
    → ◌≡◌ {A = ℕ × List ℕ} (r, new) (length (play_text scheme matrix requests), sets out 0 (play_text scheme matrix requests))
told scheme matrix requests out b = b ∙ from_start out _ (few_play scheme matrix requests)

pub few_input : (bytes front : List ℕ) → front ≡ input bytes → length front ≤ 65536
unfolding input
few_input bytes front is = rw is (omega (arith, length-take 65536 bytes))

pub low_input : (bytes front : List ℕ) → front ≡ input bytes → ((j : ℕ) → get_or bytes j 0 < 256) → (j : ℕ) → get_or front j 0 < 256
unfolding input
low_input bytes front is low j = rw is (by (dec_lt j 65536))
  where
    by : Dec (j < 65536) → get_or (take 65536 bytes) j 0 < 256
    by (yes near) = rw (get_or-take 65536 bytes j 0 near) (low j)
    by (no beyond) = rw (get_or_past (take 65536 bytes) j 0 (omega (arith, beyond, length-take 65536 bytes))) (omega arith)
