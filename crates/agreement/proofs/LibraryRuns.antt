-- A run call of the library is a run of what its bytes are: it tells the same, stores the same answers, and what it wrote reads as a matrix that stands for
-- the one which the run left.
-- Assumes nothing.
use Prim.Native.Nat.{ℕ, ◌*◌, ◌≤◌}
use native.Mathlib.Omega.{arith}
use native.Mathlib.Nat.{zero-add}
use mathlib.Core.Path.{◌≡◌, refl, sym, ap, ◌∙◌}
use mathlib.Core.Bool.{Bool, true, false, cond}
use mathlib.Core.List.{List}
use lib.Dec.{T, leb, leb→le}
use lib.ListN.{length, take, get_or}
use borrow.Author.Tests.{le-leb}
use Rattle.laws.proofs.Bools.{is_true}
use Rattle.model.specs.Request.{Request, run}
use Rattle.model.specs.Answers.{reply_width}
use Rattle.model.specs.Seats.{Matrix, no_things, seats, stands_for}
use Rattle.model.specs.Accepted.{accepted_scheme, accepted_matrix}
use Rattle.model.specs.declared.Scheme.{Scheme}
use Rattle.records.specs.Writing.{placed}
use Rattle.records.specs.Outcome.Reading.{Reading}
use Rattle.records.specs.Outcome.Reading as reading
use Rattle.records.proofs.PlacedLaws.{take_through_placed}
use Rattle.matrix_bytes.specs.Answers.{read_matrix}
use Rattle.matrix_bytes.specs.Content.{reseated}
use Rattle.matrix_bytes.specs.Write.{matrix_bytes}
use Rattle.matrix_bytes.proofs.ReadMatrix.{by_head}
use Rattle.matrix_bytes.proofs.RoundTrips.{round_trips}
use Rattle.matrix_bytes.proofs.AcceptedTrip.{accepted_iff_read}
use Rattle.request_list.specs.List.{Listed, read_list}
use Rattle.engine.specs.List.{Result, run_answer, replies_to, run_on}
use Rattle.engine.specs.Answers.{RunAnswer}
use Rattle.engine.specs.Answers as ended
use Rattle.robot.specs.Library.{Called, Ran, bytes_after, ended_by, not_run, run_matrix, run_against, run_bytes}
use Rattle.robot.specs.Inner.Parts.{ending_by}
use Rattle.model.proofs.Joined.{run_kept}
use Rattle.robot.proofs.RunLaws.{read_accepted, always_fits, ended_told}
use Rattle.robot.proofs.CallLaws.{scheme_accepted}
use Rattle.agreement.specs.LibraryAgrees.{stored, written, besides_written, matrix_after, Bytes, HasRoom, IsScheme, IsMatrix, AllCarriedOut}
use Rattle.agreement.specs.Agreement.{left_by, CarriedOut}
use Rattle.agreement.proofs.Runs.{asked, room, ran_if, ran}
use Rattle.agreement.proofs.LibraryCalls.{empty, with_scheme_lem, with_matrix_lem, scheme_done, matrix_done}

-- a call tells what a run told, with the size of what it wrote
pub record AsRun (s : Scheme) (c : Ran) (r : Result) : Type 0 where
  pub size : ℕ
  pub called : c.called ≡ ending_by size r.ran.answer
  pub answers : c.answers ≡ r.replies
  pub left : c.called.number ≡ 0 → (end : Matrix) × IsMatrix (matrix_after c) s end × (stands_for end ≡ left_by r)
  -- and those are bytes, so that the next call may be handed them
  pub small : c.called.number ≡ 0 → Bytes (matrix_after c)

-- ---- of accepted ones, where there is room for the matrix
written_ended : (count size : ℕ) (e : Reading) → written (ended_by count size e) ≡ size
written_ended count size (reading.Done next) = refl
written_ended count size (reading.Refused k at) = refl

stored_ended : (count size : ℕ) (e : Reading) → stored (ended_by count size e) ≡ count
stored_ended count size (reading.Done next) = refl
stored_ended count size (reading.Refused k at) = refl

-- an accepted matrix's bytes are bytes, and read as the matrix with its things by rising id
module _ (s : Scheme) (m : Matrix) (ok : T (accepted_scheme s)) (of : T (accepted_matrix s.head m)) where
  pub bytes_read : IsMatrix (matrix_bytes s.head m) s (reseated s.head m)
  unfolding read_matrix
  bytes_read = rw (is_true (accepted_scheme s) ok, round_trips.there s m ok of)

  pub bytes_small : Bytes (matrix_bytes s.head m)
  bytes_small = (accepted_iff_read.reads s m ok of).1

module _ (s : Scheme) (m : Matrix) (ok : T (accepted_scheme s)) (of : T (accepted_matrix s.head m)) (requests results out : List ℕ) where
  abbrev list : Listed
  list = read_list requests

  abbrev after : List ℕ
  after = bytes_after s m list

  abbrev end : Matrix
  end = run seats s m list.requests

  end_ok : T (accepted_matrix s.head end)
  end_ok = run_kept s m list.requests ok of

  reads_after : IsMatrix after s (reseated s.head end)
  unfolding bytes_after
  reads_after = bytes_read s end ok end_ok

  small_after : Bytes after
  unfolding bytes_after
  small_after = bytes_small s end ok end_ok

  module _ (inside : length after ≤ length out) where
    stood : take (length after) (placed out 0 after) ≡ after
    stood = rw zero-add at (take_through_placed out 0 after (rw zero-add inside))

    abbrev call_if : Bool → Ran
    call_if fits =
        cond fits
        (record {
          called = ended_by (length list.requests) (length after) list.ending;
          answers = placed results 0 (replies_to s m list.requests);
          out = placed out 0 after;
        })
        (not_run results out 9 4 0)

    as_run_if : (fits : Bool) → AsRun s (call_if fits) (ran_if s m requests results fits)
    unfolding matrix_after left_by
    as_run_if true = record {
      size = length after;
      called = sym (ended_told (length list.requests) (length after) list.ending);
      answers = refl;
      left = λ z. (
        reseated s.head end,
        rw (written_ended (length list.requests) (length after) list.ending, stood) reads_after,
        round_trips.same_content s end ok end_ok,
      );
      small = λ z. rw (written_ended (length list.requests) (length after) list.ending, stood) small_after;
    }
    as_run_if false = record { size = 0; called = refl; answers = refl; left = λ z. absurd (omega arith); small = λ z. absurd (omega arith) }

    as_run : AsRun s (run_matrix s m list results out) (run_on s m requests results)
    unfolding run_matrix
    as_run = rw (ran s m ok of requests results, le-leb _ _ inside) (as_run_if (room requests results))

-- ---- what bytes are is accepted
module _ (bytes : List ℕ) (small : Bytes bytes) (s : Scheme) where
  pub scheme_held : IsScheme bytes s → T (accepted_scheme s)
  scheme_held is = scheme_accepted bytes small _ (sym is) _ refl

  pub matrix_held : T (accepted_scheme s) → (m : Matrix) → IsMatrix bytes s m → T (accepted_matrix s.head m)
  matrix_held ok m is = read_accepted bytes s ok no_things empty m.cells _ _ small (sym is ∙ by_head bytes s no_things empty ok) refl

-- ---- the call, on bytes of a scheme and of a matrix of it that are accepted
pub record Held (scheme matrix : List ℕ) (s : Scheme) (m : Matrix) : Type 0 where
  pub ok : T (accepted_scheme s)
  pub of : T (accepted_matrix s.head m)
  pub is_scheme : IsScheme scheme s
  pub is_matrix : IsMatrix matrix s m

module _ {scheme matrix : List ℕ} {s : Scheme} {m : Matrix} (h : Held scheme matrix s m) (requests results out : List ℕ) where
  abbrev call : Ran
  call = run_bytes scheme matrix requests results out

  run_is : call ≡ run_matrix s m (read_list requests) results out
  unfolding run_bytes run_against
  run_is = with_scheme_lem (not_run results out) scheme s _ h.is_scheme ∙ with_matrix_lem (not_run results out) matrix s m _ h.is_matrix

  pub call_runs : HasRoom out → AsRun s call (run_on s m requests results)
  call_runs fits = rw run_is (as_run s m h.ok h.of requests results out (always_fits s h.ok m h.of (read_list requests) (length out) fits))

  -- one that gave 0 had room for all of it
  pub had_room : call.called.number ≡ 0 → (reply_width * length (asked requests) ≤ length results) × AsRun s call (run_on s m requests results)
  unfolding run_matrix
  had_room e =
      let n : ℕ = reply_width * length (asked requests) in
      let k : ℕ = length (bytes_after s m (read_list requests)) in
      let (a, b) = by (leb n (length results)) (leb k (length out)) _ (rw run_is at e) in
      (leb→le n _ a, rw run_is (as_run s m h.ok h.of requests results out (leb→le k _ b)))
    where
      by : (a b : Bool) (r : Ran) → (cond a (cond b r (not_run results out 9 5 0)) (not_run results out 9 4 0)).called.number ≡ 0 → T a × T b
      by true true r e = (tt, tt)
      by true false r e = absurd (omega arith)
      by false b r e = absurd (omega arith)

-- one that gave 0 has read both
pub call_held : (scheme matrix requests results out : List ℕ) → Bytes scheme → Bytes matrix → (run_bytes scheme matrix requests results out).called.number ≡ 0 →
    (s : Scheme) × (m : Matrix) × Held scheme matrix s m
unfolding run_bytes run_against
call_held scheme matrix requests results out small small' e =
    let (s, is) = scheme_done (not_run results out) (λ r. r.called.number) (λ k x at. refl) scheme small _ e in
    let against = with_scheme_lem (not_run results out) scheme s (λ s n. run_against matrix requests results out s) is in
    let (m, is') = matrix_done (not_run results out) (λ r. r.called.number) (λ k x at. refl) matrix small' s _ (rw against at e) in
    let ok = scheme_held scheme small s is in
    (s, m, record { ok = ok; of = matrix_held matrix small' s ok m is'; is_scheme = is; is_matrix = is' })

-- ---- a call tells how many requests its run answered
pub count_told : {s : Scheme} {c : Ran} {r : Result} → AsRun s c r → (n : ℕ) (e : Reading) → r.ran.answer ≡ run_answer n e → stored c.called ≡ n
count_told a n e is = ap stored (a.called ∙ ap (ending_by a.size) is ∙ ended_told n a.size e) ∙ stored_ended n a.size e

-- ---- two calls whose runs ended alike tell the same but for the bytes written
alike : (x y : ℕ) (a : RunAnswer) → ((ending_by x a).number ≡ (ending_by y a).number) × (besides_written (ending_by x a) ≡ besides_written (ending_by y a))
alike x y (ended.Whole count) = (refl, refl)
alike x y (ended.Bad count k at) = (refl, refl)
alike x y (ended.Refused k) = (refl, refl)

pub same_told : {s s' : Scheme} {c c' : Ran} {r r' : Result} → AsRun s c r → AsRun s' c' r' → r'.ran.answer ≡ r.ran.answer →
    (c'.called.number ≡ c.called.number) × (besides_written c'.called ≡ besides_written c.called)
same_told {r = r} a b same = rw (a.called, b.called, same) (alike b.size a.size r.ran.answer)

-- ---- what a run carried out, the call did
pub all_done : {s : Scheme} {qs : List Request} {c : Ran} {r : Result} → AsRun s c r → CarriedOut s qs r → AllCarriedOut s qs c
all_done {qs = qs} {c = c} a did =
    let told : c.called ≡ ending_by a.size (ended.Whole (length qs)) = a.called ∙ rw did.ended in
    record {
      called = ap (λ (x : Called). x.number) told;
      whole = ap (λ (x : Called). get_or x.report 4 0) told;
      as_many = ap stored told;
      replied = rw a.answers did.replied;
    }
