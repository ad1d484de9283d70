-- What a function of the library leaves, from what the calls within it gave: the readings of a scheme and of a matrix, then what was made of them.
-- Assumes nothing.
use Prim.Native.Nat.{ℕ, ◌<◌}
use native.Mathlib.Omega.{arith}
use mathlib.Core.Path.{◌≡◌, refl, sym, ap, ◌∙◌}
use mathlib.Core.List.{List}
use lib.Dec.{T}
use lib.ListN.{get_or, replicate}
use Rattle.model.specs.Request.{Outcome}
use Rattle.model.specs.Seats.{Matrix, matrix_of, no_things}
use Rattle.model.specs.Accepted.{accepted_scheme}
use Rattle.model.specs.declared.Head.{Head}
use Rattle.model.specs.declared.Scheme.{Scheme}
use Rattle.model.specs.declared.Things.{Things}
use Rattle.records.specs.Outcome.Reading.{Reading}
use Rattle.records.specs.Outcome.Reading.{Done, Refused}
use Rattle.records.specs.Outcome.Writing.{Writing}
use Rattle.records.proofs.Wrote.{wrote as was_written}
use Rattle.scheme_bytes.specs.Write.{scheme_bytes, write_scheme}
use Rattle.scheme_bytes.specs.Answers.{read_scheme}
use Rattle.scheme_bytes.specs.Answers.{SchemeAnswer}
use Rattle.scheme_bytes.proofs.FunctionTrips.{function_trips}
use Rattle.matrix_bytes.specs.Answers.{read_matrix_by_head}
use Rattle.matrix_bytes.specs.Write.{write_matrix}
use Rattle.matrix_bytes.specs.MatrixAnswer.{MatrixAnswer}
use Rattle.hold.specs.Marking.{as_marked, marked_result}
use Rattle.moving.specs.Outcome.Moved.{Moved}
use Rattle.robot.specs.Library.{Called, call, gives, gives_wrote, gives_ran, reported, Wrote, Ran, writing_by, wrote, moving_by, moved, after_scheme, with_scheme, after_matrix, with_matrix, marked_into}
use Rattle.robot.specs.Inner.Calls.{place_number, Filled, filled, Answered, answered, stored_told, moved_told, found, scheme_found, matrix_found}
use Rattle.robot.specs.declared.report.Failure.{Failure}
use Rattle.robot.specs.declared.report.Place.TheVariants as place
use Rattle.std.specs.Prelude.{Result, Ok, Err}
use Rattle.faults.specs.Numbers.{number_of, fault_of}
use Rattle.faults.specs.declared.Fault.{Fault}
use Rattle.faults.proofs.NumberLaws.{numbered}
use Rattle.laws.proofs.Differ.{constructors_differ}
use Rattle.model.specs.Request.{done, refused}
use Rattle.records.specs.Outcome.Writing as writing
use Rattle.records.specs.Results.{refused as refused_at, reading_result, writing_result, written}
use Rattle.scheme_bytes.specs.Answers.{scheme_result}
use Rattle.matrix_bytes.specs.Answers.{matrix_result}
use Rattle.records.specs.declared.Refused.{Refused as Refusal}
use Rattle.moving.specs.Outcome.Moved as moving
use Rattle.moving.specs.Answers.{moved_result, moved_into}
use Rattle.model.specs.Arrays.{no_scheme}
use Rattle.matrix_bytes.proofs.ReadMatrix.{by_head}

-- ---- a scheme that was read is accepted
pub scheme_accepted : (bytes : List ℕ) → ((i : ℕ) → get_or bytes i 0 < 256) → (r : SchemeAnswer) → r ≡ read_scheme bytes no_scheme →
    (n : ℕ) → r.answer ≡ Done n → T (accepted_scheme r.scheme)
unfolding write_scheme
scheme_accepted bytes small r is n e =
    let whole : r ≡ record { answer = Done n; scheme = r.scheme } = λ i. record { answer = e i; scheme = r.scheme } in
    let again = (function_trips.read bytes no_scheme r.scheme n small (sym is ∙ whole)).1 bytes (omega arith) in
    (was_written (accepted_scheme r.scheme) 27 bytes 0 (scheme_bytes r.scheme) _ _ again).0

-- ---- what follows a reading, from what the function that reads gave
back : (n : ℕ) → number_of (fault_of n) ≡ n
back = numbered

module _ {A : Type 0} (refused : ℕ → ℕ → ℕ → A) where
  module _ (next : Scheme → ℕ → A) (bytes : List ℕ) where
    pub scheme_read : {p : Scheme × ℕ} → Ok p ≡ scheme_found bytes → next p.0 p.1 ≡ with_scheme refused bytes next
    unfolding scheme_found with_scheme
    scheme_read {p} e = let r = read_scheme bytes no_scheme in go r.scheme r.answer e
      where
        go : (s : Scheme) (a : Reading) → Ok p ≡ found place.Scheme s a → next p.0 p.1 ≡ after_scheme refused next s a
        go s (Done n) e = let f : p ≡ (s, n) = cc in ap (λ (q : Scheme × ℕ). next q.0 q.1) f
        go s (Refused k at) e = constructors_differ (cc)

    pub scheme_refused : {f : Failure} → Err f ≡ scheme_found bytes →
        refused (number_of f.fault) (place_number f.place) f.at ≡ with_scheme refused bytes next
    unfolding scheme_found with_scheme
    scheme_refused {f} e = let r = read_scheme bytes no_scheme in go r.scheme r.answer e
      where
        go : (s : Scheme) (a : Reading) → Err f ≡ found place.Scheme s a →
            refused (number_of f.fault) (place_number f.place) f.at ≡ after_scheme refused next s a
        go s (Done n) e = constructors_differ (cc)
        go s (Refused k at) e =
            let g : f ≡ record { fault = fault_of k; place = place.Scheme; at = at } = cc in
            ap (λ (x : Failure). refused (number_of x.fault) (place_number x.place) x.at) g ∙ ap (λ (n : ℕ). refused n 1 at) (back k)

  -- against a scheme that is accepted
  module _ (next : Matrix → ℕ → A) (bytes : List ℕ) (s : Scheme) (ok : T (accepted_scheme s)) where
    abbrev read : MatrixAnswer × List ℕ
    read = read_matrix_by_head bytes s.head no_things (replicate 2304 0)

    same : after_matrix refused next read read.0.answer ≡ with_matrix refused s bytes next
    unfolding with_matrix
    same = ap (λ (x : MatrixAnswer × List ℕ). after_matrix refused next x x.0.answer) (sym (by_head bytes s no_things (replicate 2304 0) ok))

    pub matrix_read : {p : Things × ℕ} {cells : List ℕ} → ◌≡◌ {A = Result (Things × ℕ) Failure × List ℕ} (Ok p, cells) (matrix_found bytes s.head) →
        next (record { things = p.0; cells = cells }) p.1 ≡ with_matrix refused s bytes next
    unfolding matrix_found
    matrix_read {p} {cells} e =
        go read.0.things read.1 read.0.answer (ap (λ (x : Result (Things × ℕ) Failure × List ℕ). x.0) e) (ap (λ (x : Result (Things × ℕ) Failure × List ℕ). x.1) e)
        ∙ same
      where
        go : (th : Things) (left : List ℕ) (a : Reading) → Ok p ≡ found place.Matrix th a → cells ≡ left →
            next (record { things = p.0; cells = cells }) p.1 ≡ after_matrix refused next (record { answer = a; things = th }, left) a
        go th left (Done n) e ec =
            let f : p ≡ (th, n) = cc in
            rw ec (ap (λ (q : Things × ℕ). next (record { things = q.0; cells = left }) q.1) f)
        go th left (Refused k at) e ec = constructors_differ (cc)

    pub matrix_refused : {f : Failure} {cells : List ℕ} → ◌≡◌ {A = Result (Things × ℕ) Failure × List ℕ} (Err f, cells) (matrix_found bytes s.head) →
        refused (number_of f.fault) (place_number f.place) f.at ≡ with_matrix refused s bytes next
    unfolding matrix_found
    matrix_refused {f} e = go read.0.things read.1 read.0.answer (ap (λ (x : Result (Things × ℕ) Failure × List ℕ). x.0) e) ∙ same
      where
        go : (th : Things) (left : List ℕ) (a : Reading) → Err f ≡ found place.Matrix th a →
            refused (number_of f.fault) (place_number f.place) f.at ≡ after_matrix refused next (record { answer = a; things = th }, left) a
        go th left (Done n) e = constructors_differ (cc)
        go th left (Refused k at) e =
            let g : f ≡ record { fault = fault_of k; place = place.Matrix; at = at } = cc in
            ap (λ (x : Failure). refused (number_of x.fault) (place_number x.place) x.at) g ∙ ap (λ (n : ℕ). refused n 2 at) (back k)

-- from the function's result back to what it read
pub matrix_was : (bytes : List ℕ) (h : Head) {p : Things × ℕ} {cells : List ℕ} →
    ◌≡◌ {A = Result (Things × ℕ) Failure × List ℕ} (Ok p, cells) (matrix_found bytes h) →
    ◌≡◌ {A = MatrixAnswer × List ℕ} (record { answer = Done p.1; things = p.0 }, cells) (read_matrix_by_head bytes h no_things (replicate 2304 0))
unfolding matrix_found
matrix_was bytes h {p} {cells} e =
    let r = read_matrix_by_head bytes h no_things (replicate 2304 0) in
    go r.0.things r.1 r.0.answer (ap (λ (x : Result (Things × ℕ) Failure × List ℕ). x.0) e) (ap (λ (x : Result (Things × ℕ) Failure × List ℕ). x.1) e)
  where
    go : (th : Things) (left : List ℕ) (a : Reading) → Ok p ≡ found place.Matrix th a → cells ≡ left →
        ◌≡◌ {A = MatrixAnswer × List ℕ} (record { answer = Done p.1; things = p.0 }, cells) (record { answer = a; things = th }, left)
    go th left (Done n) e ec = let f : p ≡ (th, n) = cc in rw (f, ec)
    go th left (Refused k at) e ec = constructors_differ (cc)

-- a scheme that the function read is accepted
pub found_accepted : (bytes : List ℕ) → ((i : ℕ) → get_or bytes i 0 < 256) → {p : Scheme × ℕ} → Ok p ≡ scheme_found bytes → T (accepted_scheme p.0)
unfolding scheme_found
found_accepted bytes small {p} e = let r = read_scheme bytes no_scheme in go r refl e
  where
    go : (r : SchemeAnswer) → r ≡ read_scheme bytes no_scheme → Ok p ≡ found place.Scheme r.scheme r.answer → T (accepted_scheme p.0)
    go r is e = by r.answer refl e
      where
        by : (a : Reading) → r.answer ≡ a → Ok p ≡ found place.Scheme r.scheme a → T (accepted_scheme p.0)
        by (Done n) ea e = let f : r.scheme ≡ p.0 = ap (λ (q : Scheme × ℕ). q.0) (let g : (r.scheme, n) ≡ p = cc in g) in rw f at (scheme_accepted bytes small r is n ea)
        by (Refused k at) ea e = constructors_differ (cc)

-- ---- what was found, from what the readers gave
module _ (bytes : List ℕ) {table s : Scheme} (none : table ≡ no_scheme) where
  scheme_as : {r : Result ℕ Refusal} (a : SchemeAnswer) → ◌≡◌ {A = Result ℕ Refusal × Scheme} (r, s) (scheme_result a) → (r ≡ reading_result a.answer) × (s ≡ a.scheme)
  scheme_as a e = (ap (λ (x : Result ℕ Refusal × Scheme). x.0) e, ap (λ (x : Result ℕ Refusal × Scheme). x.1) e)

  pub scheme_ok : {n : ℕ} → ◌≡◌ {A = Result ℕ Refusal × Scheme} (Ok n, s) (scheme_result (read_scheme bytes table)) → Ok (s, n) ≡ scheme_found bytes
  unfolding scheme_found
  scheme_ok {n} e = let (f, g) = scheme_as (read_scheme bytes no_scheme) (rw none at e) in go (read_scheme bytes no_scheme).scheme (read_scheme bytes no_scheme).answer f g
    where
      go : (t : Scheme) (a : Reading) → Ok n ≡ reading_result a → s ≡ t → Ok (s, n) ≡ found place.Scheme t a
      go t (Done m) f g = let h : n ≡ m = cc in rw (g, h)
      go t (Refused k at) f g = constructors_differ (cc)

  pub scheme_err : {r : Refusal} → ◌≡◌ {A = Result ℕ Refusal × Scheme} (Err r, s) (scheme_result (read_scheme bytes table)) →
      Err (record { fault = r.fault; place = place.Scheme; at = r.at }) ≡ scheme_found bytes
  unfolding scheme_found
  scheme_err {r} e = let (f, g) = scheme_as (read_scheme bytes no_scheme) (rw none at e) in go (read_scheme bytes no_scheme).scheme (read_scheme bytes no_scheme).answer f
    where
      go : (t : Scheme) (a : Reading) → Err r ≡ reading_result a → Err (record { fault = r.fault; place = place.Scheme; at = r.at }) ≡ found place.Scheme t a
      go t (Done m) f = constructors_differ (cc)
      go t (Refused k at) f = let h : r ≡ refused_at k at = cc in ap (λ (x : Refusal). Err (record { fault = x.fault; place = place.Scheme; at = x.at })) h

abbrev Given : Type 0
Given = Result ℕ Refusal × Things × List ℕ

abbrev Found : Type 0
Found = Result (Things × ℕ) Failure × List ℕ

module _ (bytes : List ℕ) (h : Head) {th : Things} {cells : List ℕ} (none : th ≡ no_things) (empty : cells ≡ replicate 2304 0) where
  pub matrix_ok : {now : Things} {left : List ℕ} {n : ℕ} → ◌≡◌ {A = Given} (Ok n, now, left) (matrix_result (read_matrix_by_head bytes h th cells)) →
      ◌≡◌ {A = Found} (Ok (now, n), left) (matrix_found bytes h)
  unfolding matrix_found
  matrix_ok {now} {left} {n} e =
      let was = read_matrix_by_head bytes h no_things (replicate 2304 0) in
      let f : ◌≡◌ {A = Given} (Ok n, now, left) (matrix_result was) = rw (none, empty) at e in
      go was.0.things was.0.answer was.1 (ap (λ (x : Given). x.0) f) (ap (λ (x : Given). x.1) f) (ap (λ (x : Given). x.2) f)
    where
      go : (t : Things) (a : Reading) (l : List ℕ) → Ok n ≡ reading_result a → now ≡ t → left ≡ l → ◌≡◌ {A = Found} (Ok (now, n), left) (found place.Matrix t a, l)
      go t (Done m) l f g i = let j : n ≡ m = cc in rw (g, i, j)
      go t (Refused k at) l f g i = constructors_differ (cc)

  pub matrix_err : {now : Things} {left : List ℕ} {r : Refusal} → ◌≡◌ {A = Given} (Err r, now, left) (matrix_result (read_matrix_by_head bytes h th cells)) →
      ◌≡◌ {A = Found} (Err (record { fault = r.fault; place = place.Matrix; at = r.at }), left) (matrix_found bytes h)
  unfolding matrix_found
  matrix_err {now} {left} {r} e =
      let was = read_matrix_by_head bytes h no_things (replicate 2304 0) in
      let f : ◌≡◌ {A = Given} (Err r, now, left) (matrix_result was) = rw (none, empty) at e in
      go was.0.things was.0.answer was.1 (ap (λ (x : Given). x.0) f) (ap (λ (x : Given). x.2) f)
    where
      go : (t : Things) (a : Reading) (l : List ℕ) → Err r ≡ reading_result a → left ≡ l →
          ◌≡◌ {A = Found} (Err (record { fault = r.fault; place = place.Matrix; at = r.at }), left) (found place.Matrix t a, l)
      go t (Done m) l f i = constructors_differ (cc)
      go t (Refused k at) l f i =
          let j : r ≡ refused_at k at = cc in
          let g : ◌≡◌ {A = Failure} (record { fault = r.fault; place = place.Matrix; at = r.at }) (record { fault = fault_of k; place = place.Matrix; at = at }) =
          ap (λ (x : Refusal). record { fault = x.fault; place = place.Matrix; at = x.at }) j in
          rw (i, g)

-- ---- what is told of what was stored
pub stored_is : (other : ℕ) (w : Writing) → stored_told other (writing_result w) ≡ writing_by other w
stored_is other (writing.Done n) = refl
stored_is other (writing.Refused k) = rw (back k)

pub moved_is : (m : Moved) → moved_told (moved_result m) ≡ moving_by m
moved_is (moving.Done n) = refl
moved_is (moving.Refused k at) = rw (back k)

module _ {c : Called} {out' : List ℕ} where
  pub wrote_is : (other : ℕ) {r : Result ℕ Fault} (w : Writing × List ℕ) → c ≡ stored_told other r →
      ◌≡◌ {A = Result ℕ Fault × List ℕ} (r, out') (written w) → ◌≡◌ {A = Filled} (c, out') (filled (wrote other w))
  wrote_is other w e f =
      ap (λ (x : Called). (x, out')) e ∙ ap (λ (x : Result ℕ Fault × List ℕ). (stored_told other x.0, x.1)) f ∙ ap (λ (x : Called). (x, w.1)) (stored_is other w.0)

  pub moved_wrote : {r : Result ℕ Refusal} (m : Moved × List ℕ) → c ≡ moved_told r →
      ◌≡◌ {A = Result ℕ Refusal × List ℕ} (r, out') (moved_into m) → ◌≡◌ {A = Filled} (c, out') (filled (moved m))
  moved_wrote m e f =
      ap (λ (x : Called). (x, out')) e ∙ ap (λ (x : Result ℕ Refusal × List ℕ). (moved_told x.0, x.1)) f ∙ ap (λ (x : Called). (x, m.1)) (moved_is m.0)

-- a mark, and the matrix with it
module _ (s : Scheme) (cells : List ℕ) (th : Things) (o : Outcome Things) where
  pub marked_not : (out : List ℕ) {f : Fault} {now : Things} → ◌≡◌ {A = Result (Unit {0}) Fault × Things} (Err f, now) (marked_result (as_marked th o)) →
      ◌≡◌ {A = Filled} (call (number_of f) 2 0 0 0, out) (filled (marked_into out s cells o))
  unfolding marked_into
  marked_not out {f} e = go o (ap (λ (x : Result (Unit {0}) Fault × Things). x.0) e)
    where
      go : (o : Outcome Things) → Err f ≡ (marked_result (as_marked th o)).0 → ◌≡◌ {A = Filled} (call (number_of f) 2 0 0 0, out) (filled (marked_into out s cells o))
      go (done now) e = constructors_differ (cc)
      go (refused r) e = let g : f ≡ fault_of r.number = cc in rw (g, back r.number)

  pub marked_wrote : (out : List ℕ) {now : Things} {c : Called} {out' : List ℕ} {r : Result ℕ Fault} →
      ◌≡◌ {A = Result (Unit {0}) Fault × Things} (Ok tt, now) (marked_result (as_marked th o)) → c ≡ stored_told 2 r →
      ◌≡◌ {A = Result ℕ Fault × List ℕ} (r, out') (written (write_matrix out s (matrix_of now cells))) → ◌≡◌ {A = Filled} (c, out') (filled (marked_into out s cells o))
  unfolding marked_into
  marked_wrote out {now} {c} {out'} {r} e f g = go o e
    where
      go : (o : Outcome Things) → ◌≡◌ {A = Result (Unit {0}) Fault × Things} (Ok tt, now) (marked_result (as_marked th o)) →
          ◌≡◌ {A = Filled} (c, out') (filled (marked_into out s cells o))
      go (done m) e =
          let h : now ≡ m = ap (λ (x : Result (Unit {0}) Fault × Things). x.1) e in
          wrote_is 2 (write_matrix out s (matrix_of m cells)) f (rw h at g)
      go (refused q) e = let d = ap (λ (x : Result (Unit {0}) Fault × Things). x.0) e in constructors_differ (cc)

-- ---- beside the buffers the report
pub told_filled : (report : List ℕ) {n : ℕ} {report' out' : List ℕ} {c : Called} (w : Wrote) → ◌≡◌ {A = ℕ × List ℕ} (n, report') (gives report c) →
    ◌≡◌ {A = Filled} (c, out') (filled w) → ◌≡◌ {A = ℕ × List ℕ × List ℕ} (n, out', report') (gives_wrote report w)
told_filled report {out' = out'} w e f =
    ap (λ (x : ℕ × List ℕ). (x.0, out', x.1)) e ∙ ap (λ (x : Filled). (x.0.number, x.1, reported report x.0)) f

pub told_answered : (report : List ℕ) {n : ℕ} {report' answers' out' : List ℕ} {c : Called} (r : Ran) → ◌≡◌ {A = ℕ × List ℕ} (n, report') (gives report c) →
    ◌≡◌ {A = Answered} (c, answers', out') (answered r) → ◌≡◌ {A = ℕ × List ℕ × List ℕ × List ℕ} (n, answers', out', report') (gives_ran report r)
told_answered report {answers' = answers'} {out' = out'} r e f =
    ap (λ (x : ℕ × List ℕ). (x.0, answers', out', x.1)) e ∙ ap (λ (x : Answered). (x.0.number, x.1, x.2, reported report x.0)) f
