-- A run of a list of requests: what the functions within it gave, joined to what `run_matrix` says. The scheme and the matrix were read, so both are
-- accepted, and so is the matrix afterwards: nothing is refused by 27.
-- Assumes nothing.
use Prim.Native.Nat.{ℕ, ◌*◌, ◌/◌, ◌≤◌, ◌<◌}
use native.Mathlib.Omega.{arith}
use native.Mathlib.Nat.{zero-add}
use mathlib.Core.Bool.{Bool, true, false, cond, ◌&&◌}
use mathlib.Core.List.{List}
use mathlib.Core.Path.{◌≡◌, refl, sym, ap, ◌∙◌}
use lib.Dec.{T, leb}
use lib.ListN.{length, get_or}
use borrow.Author.Tests.{le-leb, lt-leb}
use Rattle.model.specs.Request.{run}
use Rattle.model.specs.Answers.{reply_width}
use Rattle.model.specs.Seats.{Matrix, seats}
use Rattle.laws.specs.Check.{passes}
use Rattle.model.specs.Accepted.{head_fault, accepted_scheme, accepted_matrix}
use Rattle.model.specs.declared.Scheme.{Scheme}
use Rattle.model.specs.declared.Things.{Things}
use Rattle.laws.proofs.Bools.{is_true, and_right}
use Rattle.model.proofs.Joined.{run_kept}
use Rattle.records.specs.Writing.{placed, write_bytes}
use Rattle.records.specs.Outcome.Reading.{Reading}
use Rattle.records.specs.Outcome.Reading as reading
use Rattle.records.proofs.Wrote.{pair_eq, wrote}
use Rattle.matrix_bytes.specs.Answers.{read_matrix, read_matrix_by_head}
use Rattle.matrix_bytes.specs.Write.{matrix_bytes, write_matrix, write_matrix_by_head}
use Rattle.matrix_bytes.specs.MatrixAnswer.{MatrixAnswer}
use Rattle.matrix_bytes.proofs.RoundTrips.{head_passes}
use Rattle.matrix_bytes.proofs.FunctionTrips.{function_trips}
use Rattle.engine.specs.List.{replies_to, run_answer, Result as Run, refused_run, run_on, run_quietly}
use Rattle.engine.specs.declared.answers.Ended.{Ended}
use Rattle.engine.specs.Given.{Given, Quiet, ended_as, gives, gives_quietly}
use Rattle.std.specs.Prelude.{Result, Ok, Err, Some, None}
use Rattle.std.specs.Result.{result_unwrap_or}
use Rattle.faults.specs.Numbers.{number_of, fault_of}
use Rattle.faults.specs.declared.Fault.{Fault}
use Rattle.faults.proofs.NumberLaws.{numbered}
use Rattle.records.specs.Results.{refused, written}
use Rattle.robot.specs.Library.{Called, call, cut_short, bytes_after, ended_by, run_matrix}
use Rattle.robot.specs.Inner.Calls.{told_done, Answered, answered, matrix_found}
use Rattle.robot.specs.declared.report.Failure.{Failure}
use Rattle.robot.proofs.CallLaws.{matrix_was}
use Rattle.robot.specs.Inner.Parts.{count_in, ending_by, needed_by}
use Rattle.robot.specs.declared.run.Needed.{Needed}
use Rattle.robot.proofs.SizeLaws.{largest}
use Rattle.laws.proofs.Differ.{constructors_differ}
use Rattle.matrix_bytes.proofs.ReadMatrix.{by_head}
use Rattle.request_list.specs.List.{Listed, read_list}

-- ---- what was read is accepted
pub read_accepted : (bytes : List ℕ) (s : Scheme) → T (accepted_scheme s) → (things : Things) (cells new : List ℕ) (r : MatrixAnswer) (n : ℕ) →
    ((i : ℕ) → get_or bytes i 0 < 256) → ◌≡◌ {A = MatrixAnswer × List ℕ} (r, new) (read_matrix_by_head bytes s.head things cells) →
    r.answer ≡ reading.Done n → T (accepted_matrix s.head (record { things = r.things; cells = new }))
unfolding write_matrix
read_accepted bytes s ok things cells new r n small is e =
    let m : Matrix = record { things = r.things; cells = new } in
    let whole : r ≡ record { answer = reading.Done n; things = r.things } = λ i. record { answer = e i; things = r.things } in
    let got : ◌≡◌ {A = MatrixAnswer × List ℕ} (read_matrix bytes s things cells) (record { answer = reading.Done n; things = r.things }, new) =
    by_head bytes s things cells ok ∙ sym is ∙ ap (λ (x : MatrixAnswer). (x, new)) whole in
    let (end, again) = function_trips.read bytes s things cells n r.things new small got in
    let (t, w) = wrote (accepted_scheme s && accepted_matrix s.head m) 27 bytes 0 (matrix_bytes s.head m) _ _ (again bytes (omega arith)) in
    and_right (accepted_scheme s) _ t

pub found_matrix_accepted : (bytes : List ℕ) (s : Scheme) → T (accepted_scheme s) → ((i : ℕ) → get_or bytes i 0 < 256) → {p : Things × ℕ} {cells : List ℕ} →
    ◌≡◌ {A = Result (Things × ℕ) Failure × List ℕ} (Ok p, cells) (matrix_found bytes s.head) → T (accepted_matrix s.head (record { things = p.0; cells = cells }))
found_matrix_accepted bytes s ok small e = read_accepted bytes s ok _ _ _ _ _ small (matrix_was bytes s.head e) refl

abbrev Stored : Type 0
Stored = Result ℕ Fault

module _ (s : Scheme) (ok : T (accepted_scheme s)) where
  module _ (m : Matrix) (of : T (accepted_matrix s.head m)) (l : Listed) where
    abbrev end : Matrix
    end = run seats s m l.requests

    abbrev bytes : List ℕ
    bytes = bytes_after s m l

    pub always_fits : (room : ℕ) → 37208 ≤ room → length (bytes_after s m l) ≤ room
    unfolding bytes_after
    always_fits room h = omega (arith, largest s.head end (run_kept s m l.requests ok of))

    -- where there is room, the matrix afterwards is written
    module _ (out : List ℕ) (room : length (bytes_after s m l) ≤ length out) where
      pub written_after : (things : Things) (cells : List ℕ) → things ≡ end.things → cells ≡ end.cells → {r : Stored} {out' : List ℕ} →
          ◌≡◌ {A = Stored × List ℕ} (r, out') (written (write_matrix_by_head out s.head (record { things = things; cells = cells }))) →
          (result_unwrap_or r 0 ≡ length bytes) × (out' ≡ placed out 0 bytes)
      unfolding write_matrix_by_head write_bytes bytes_after
      written_after things cells et ec {r} {out'} e =
          let same : ◌≡◌ {A = Matrix} (record { things = things; cells = cells }) end = λ i. record { things = et i; cells = ec i } in
          let f : ◌≡◌ {A = Stored × List ℕ} (r, out') (Ok (length bytes), placed out 0 bytes) =
          e ∙ rw (
            same,
            is_true (passes (head_fault s.head)) (head_passes s ok),
            is_true (accepted_matrix s.head end) (run_kept s m l.requests ok of),
            zero-add,
            le-leb _ _ room,
          ) in
          let (a, b) = pair_eq f in (ap (λ (x : Stored). result_unwrap_or x 0) a, b)

-- ---- a list that was run: refused by 9 as a whole, or carried out to its end
pub ended_told : (n written : ℕ) (e : Reading) → ending_by written (run_answer n e) ≡ ended_by n written e
ended_told n written (reading.Done next) = refl
ended_told n written (reading.Refused k at) = refl

-- what is told of the list's end
abbrev done_told : ℕ → Ended → Called
done_told written x = told_done x.cut (record { at = 0; count = x.count; written = written; cut = x.cut })

ending_told : (n written : ℕ) (e : Reading) {x : Ended} → Ok x ≡ ended_as (run_answer n e) → done_told written x ≡ ended_by n written e
ending_told n written (reading.Done next) {x} f = let g : x ≡ record { count = n; cut = None } = cc in ap (done_told written) g
ending_told n written (reading.Refused k at) {x} f =
    let g : x ≡ record { count = n; cut = Some (refused k at) } = cc in
    ap (done_told written) g ∙ ap (λ (j : ℕ). cut_short j at n written) (numbered k)

ended_not : (n : ℕ) (e : Reading) {f : Fault} → Err f ≡ ended_as (run_answer n e) → ⊥
ended_not n (reading.Done next) g = constructors_differ (cc)
ended_not n (reading.Refused k at) g = constructors_differ (cc)

module _ (s : Scheme) (ok : T (accepted_scheme s)) (m : Matrix) (of : T (accepted_matrix s.head m)) (requests results : List ℕ) where
  abbrev l : Listed
  l = read_list requests

  abbrev count : ℕ
  count = length l.requests

  abbrev carried : Run
  carried = record {
    ran = record { answer = run_answer count l.ending; things = (end s ok m of l).things };
    cells = (end s ok m of l).cells;
    replies = placed results 0 (replies_to s m l.requests);
  }

  abbrev by_room : Bool → Run
  by_room b = cond b carried (refused_run m results 9)

  accepted : {g : Given} → g ≡ gives (run_on s m requests results) → g ≡ gives (by_room (leb (reply_width * count) (length results)))
  unfolding run_on
  accepted e = e ∙ rw (is_true (accepted_scheme s) ok, is_true (accepted_matrix s.head m) of)

  module _ (out : List ℕ) {th : Things} {cells replies : List ℕ} where
    pub run_refused : {f : Fault} → ◌≡◌ {A = Given} (Err f, th, cells, replies) (gives (run_on s m requests results)) →
        ◌≡◌ {A = Answered} (call (number_of f) 4 0 0 0, replies, out) (answered (run_matrix s m l results out))
    unfolding run_matrix
    run_refused {f} e = go (leb (reply_width * count) (length results)) refl (accepted e)
      where
        go : (b : Bool) → leb (reply_width * count) (length results) ≡ b → ◌≡◌ {A = Given} (Err f, th, cells, replies) (gives (by_room b)) →
            ◌≡◌ {A = Answered} (call (number_of f) 4 0 0 0, replies, out) (answered (run_matrix s m l results out))
        go true h g = absurd (ended_not count l.ending (ap (λ (x : Given). x.0) g))
        go false h g =
            let r : replies ≡ results = ap (λ (x : Given). x.3) g in
            let z : ◌≡◌ {A = Result Ended Fault} (Err f) (Err (fault_of 9)) = ap (λ (x : Given). x.0) g in
            let nine : number_of f ≡ 9 = (let y : f ≡ fault_of 9 = cc in ap number_of y ∙ numbered 9) in
            rw (h, r, nine)

    pub run_carried : {x : Ended} → ◌≡◌ {A = Given} (Ok x, th, cells, replies) (gives (run_on s m requests results)) →
        length (bytes_after s m l) ≤ length out → {r : Stored} {out' : List ℕ} →
        ◌≡◌ {A = Stored × List ℕ} (r, out') (written (write_matrix_by_head out s.head (record { things = th; cells = cells }))) →
        ◌≡◌ {A = Answered} (done_told (result_unwrap_or r 0) x, replies, out') (answered (run_matrix s m l results out))
    unfolding run_matrix
    run_carried {x} e room {r} {out'} is = go (leb (reply_width * count) (length results)) refl (accepted e)
      where
        go : (b : Bool) → leb (reply_width * count) (length results) ≡ b → ◌≡◌ {A = Given} (Ok x, th, cells, replies) (gives (by_room b)) →
            ◌≡◌ {A = Answered} (done_told (result_unwrap_or r 0) x, replies, out') (answered (run_matrix s m l results out))
        go true h g =
            let (size, stands) = written_after s ok m of l out room th cells (ap (λ (x : Given). x.1) g) (ap (λ (x : Given). x.2) g) is in
            let same : replies ≡ placed results 0 (replies_to s m l.requests) = ap (λ (x : Given). x.3) g in
            let told = ending_told count (length (bytes_after s m l)) l.ending (ap (λ (x : Given). x.0) g) in
            rw (h, le-leb _ _ room, same, stands, size, told)
        go false h g = let z = ap (λ (x : Given). x.0) g in constructors_differ (cc)

-- ---- what a trial tells
told_count : (n : ℕ) (e : Reading) → count_in (ended_as (run_answer n e)) ≡ n
told_count n (reading.Done next) = refl
told_count n (reading.Refused k at) = refl

module _ (s : Scheme) (ok : T (accepted_scheme s)) (m : Matrix) (of : T (accepted_matrix s.head m)) (requests : List ℕ) where
  quietly : {g : Quiet} → g ≡ gives_quietly (run_quietly s m requests) → ◌≡◌ {A = Quiet} g (
    ended_as (run_answer (length (read_list requests).requests) (read_list requests).ending),
    (end s ok m of (read_list requests)).things,
    (end s ok m of (read_list requests)).cells,
  )
  unfolding run_quietly
  quietly e = e ∙ rw (is_true (accepted_scheme s) ok, is_true (accepted_matrix s.head m) of)

  pub trial_tells : {a : Result Ended Fault} {th : Things} {cells : List ℕ} → ◌≡◌ {A = Quiet} (a, th, cells) (gives_quietly (run_quietly s m requests)) →
      (out : List ℕ) → 37208 ≤ length out → {r : Stored} {out' : List ℕ} →
      ◌≡◌ {A = Stored × List ℕ} (r, out') (written (write_matrix_by_head out s.head (record { things = th; cells = cells }))) →
      ◌≡◌ {A = Needed} (record { answers = count_in a; bytes = result_unwrap_or r 0 }) (needed_by s m (read_list requests))
  unfolding needed_by
  trial_tells {a} {th} {cells} e out room is =
      let l : Listed = read_list requests in
      let q = quietly e in
      let (size, stands) = written_after s ok m of l out (always_fits s ok m of l (length out) room) th cells (ap (λ (x : Quiet). x.1) q) (ap (λ (x : Quiet). x.2) q) is in
      let counted : count_in a ≡ length l.requests = ap (λ (x : Quiet). count_in x.0) q ∙ told_count _ l.ending in
      rw (counted, size)

pub tried_fits : (s : Scheme) (m : Matrix) (l : Listed) (need : Needed) → need ≡ needed_by s m l → (room : ℕ) → need.bytes ≤ room →
    length (bytes_after s m l) ≤ room
unfolding needed_by
tried_fits s m l need is room h = omega (arith, ap (λ (x : Needed). x.bytes) is)

-- ---- what a trial tells not to fit, before anything is stored
module _ (s : Scheme) (m : Matrix) (l : Listed) (need : Needed) (is : need ≡ needed_by s m l) (results out : List ℕ) where
  pub answers_short : length results / reply_width < need.answers →
      ◌≡◌ {A = Answered} (call 9 4 0 0 0, results, out) (answered (run_matrix s m l results out))
  unfolding run_matrix needed_by
  answers_short h =
      let e : need.answers ≡ length l.requests = ap (λ (x : Needed). x.answers) is in
      rw (lt-leb (reply_width * length l.requests) (length results) (omega arith))

  pub out_short : need.answers ≤ length results / reply_width → length out < need.bytes →
      ◌≡◌ {A = Answered} (call 9 5 0 0 0, results, out) (answered (run_matrix s m l results out))
  unfolding run_matrix needed_by
  out_short g h =
      let e : need.answers ≡ length l.requests = ap (λ (x : Needed). x.answers) is in
      let f : need.bytes ≡ length (bytes_after s m l) = ap (λ (x : Needed). x.bytes) is in
      rw (
        le-leb (reply_width * length l.requests) (length results) (omega arith),
        lt-leb (length (bytes_after s m l)) (length out) (omega arith),
      )
