-- One matrix after another, of the functions and of the library: each run, and each call that gave 0, leaves what a run on paper leaves, and anything else
-- leaves the matrix as it was. So whatever is called, again and again, what there is in the end is what one run on paper leaves. Assumes nothing.
use Prim.Native.Nat.{ℕ}
use mathlib.Core.Path.{◌≡◌, refl, sym, ap, ◌∙◌}
use mathlib.Core.Bool.{Bool, true, false, not, cond, ◌&&◌}
use mathlib.Core.Option.{some}
use mathlib.Core.List.{List, [], ◌∷◌, ◌++◌}
use lib.Dec.{T, eqb}
use lib.ListN.{length, take, get_or-replicate}
use borrow.Author.Tests.{eqb-true}
use Rattle.laws.specs.Check.{◌or_else◌, must, passes, is_some, between}
use Rattle.laws.proofs.Bools.{from_true, and_left, and_right}
use Rattle.model.specs.Request.{Request, Thing, run}
use Rattle.model.specs.Arrays.{scheme_of, no_scheme}
use Rattle.model.specs.Papers.{papers}
use Rattle.model.specs.Seats.{Matrix, matrix_of, known, seat, thing_at, no_things, stands_for}
use Rattle.model.specs.Accepted.{head_fault, accepted_scheme, accepted_matrix}
use Rattle.model.specs.declared.Scheme.{Scheme}
use Rattle.model.specs.declared.Things.{Things}
use Rattle.model.proofs.Find.{find_lt, known_nonzero, seat_is, is_known}
use Rattle.model.proofs.NeverAgain.{run_append}
use Rattle.records.specs.Front.{Refusal}
use Rattle.records.specs.Reading.{Read, got, fault}
use Rattle.records.specs.Outcome.Reading.{Done, Refused}
use Rattle.scheme_bytes.specs.Answers.{as_scheme, read_scheme, SchemeAnswer}
use Rattle.scheme_bytes.specs.Read.{scheme as reads_scheme}
use Rattle.scheme_bytes.proofs.FunctionTrips.{function_trips as scheme_trips}
use Rattle.matrix_bytes.specs.Answers.{as_matrix, read_matrix}
use Rattle.matrix_bytes.specs.Read.{matrix as reads_matrix}
use Rattle.matrix_bytes.specs.MatrixAnswer.{MatrixAnswer}
use Rattle.matrix_bytes.proofs.FunctionTrips.{function_trips as matrix_trips}
use Rattle.engine.specs.List.{run_on}
use Rattle.robot.specs.Library.{Ran, run_bytes}
use Rattle.agreement.specs.Agreement.{left_in, left_by}
use Rattle.agreement.specs.LibraryAgrees.{matrix_after, Bytes, IsScheme, IsMatrix, read_in}
use Rattle.agreement.specs.NeverAgain.{Run, after_runs, Call, kept_image, image_after, has_thing}
use Rattle.agreement.proofs.Runs.{asked, many, left_kept, left_so}
use Rattle.agreement.proofs.LibraryCalls.{empty}
use Rattle.agreement.proofs.LibraryRuns.{Held, had_room, matrix_held}

-- ---- one matrix after another

-- some requests, run on paper, lead from what the first stands for to what the second stands for
pub record Later (s : Scheme) (m end : Matrix) : Type 0 where
  pub requests : List Request
  pub left : stands_for end ≡ run papers s (stands_for m) requests

later_same : (s : Scheme) (m : Matrix) → Later s m m
unfolding run
later_same s m = record { requests = []; left = refl }

later_then : {s : Scheme} {m mid end : Matrix} → Later s m mid → Later s mid end → Later s m end
later_then {s} {m} a b = record { requests = a.requests ++ b.requests; left = b.left ∙ rw (a.left, run_append s (stands_for m) a.requests b.requests) }

-- ---- runs
module _ (s : Scheme) (ok : T (accepted_scheme s)) where
  run_later : (m : Matrix) → T (accepted_matrix s.head m) → (bytes out : List ℕ) →
      T (accepted_matrix s.head (left_in (run_on s m bytes out))) × Later s m (left_in (run_on s m bytes out))
  run_later m of bytes out =
      (left_kept s m ok of bytes out, record { requests = take (many bytes out) (asked bytes); left = unfold left_by in left_so s m ok of bytes out })

  pub runs_later : (m : Matrix) → T (accepted_matrix s.head m) → (rs : List Run) →
      T (accepted_matrix s.head (after_runs s m rs)) × Later s m (after_runs s m rs)
  unfolding after_runs
  runs_later m of [] = (of, later_same s m)
  runs_later m of (r ∷ rs) =
      let (of', a) = run_later m of r.list r.replies in
      let (of'', b) = runs_later (left_in (run_on s m r.list r.replies)) of' rs in
      (of'', later_then a b)

-- a stranger's runs are refused by 27, each of them
pub stranger_stays : (s : Scheme) (m : Matrix) → (accepted_scheme s && accepted_matrix s.head m) ≡ false → (rs : List Run) → after_runs s m rs ≡ m
unfolding after_runs run_on
stranger_stays s m e [] = refl
stranger_stays s m e (r ∷ rs) = rw e (stranger_stays s m e rs)

-- ---- what a call reads

-- before anything is read, no id is a thing's
no_one : (x : ℕ) → T (known no_things x) → ⊥
unfolding known seat
no_one x t =
    let low = find_lt no_things.ids x (and_right (not (eqb x 0)) _ t) in
    known_nonzero no_things x t (sym (seat_is no_things x t) ∙ get_or-replicate {A = ℕ} 48 _ 0 0 low)

-- a table that bytes weren't read into isn't accepted
scheme_is : (bytes : List ℕ) → Bytes bytes → T (accepted_scheme (read_scheme bytes no_scheme).scheme) →
    IsScheme bytes (read_scheme bytes no_scheme).scheme
unfolding read_scheme
scheme_is bytes small = go (reads_scheme bytes 0) refl
  where
    go : (r : Read ℕ Refusal Scheme) → reads_scheme bytes 0 ≡ r → T (accepted_scheme (as_scheme no_scheme r).scheme) →
        as_scheme no_scheme r ≡ record { answer = Done (length bytes); scheme = (as_scheme no_scheme r).scheme }
    go (got s n) e t = rw (scheme_trips.read bytes no_scheme s n small (ap (as_scheme no_scheme) e)).0
    go (fault f) e t = absurd (unfold accepted_scheme no_scheme scheme_of head_fault must between passes ◌or_else◌ in t)

-- where an id is a thing's, scheme and image were read
image_is : (bytes : List ℕ) → Bytes bytes → (s : Scheme) (x : ℕ) → T (known (read_matrix bytes s no_things empty).0.things x) →
    T (accepted_scheme s) × (m : Matrix) × IsMatrix bytes s m
unfolding read_matrix
image_is bytes small s x = go (accepted_scheme s && eqb (length empty) 2304) refl (reads_matrix s.head bytes 0) refl
  where
    go : (b : Bool) → (accepted_scheme s && eqb (length empty) 2304) ≡ b → (r : Read ℕ Refusal Matrix) → reads_matrix s.head bytes 0 ≡ r →
        T (known (cond b (as_matrix no_things empty r) (record { answer = Refused 27 0; things = no_things }, empty)).0.things x) →
        T (accepted_scheme s) × (m : Matrix) × IsMatrix bytes s m
    go true e (got m n) f t =
        let is : ◌≡◌ {A = MatrixAnswer × List ℕ} (read_matrix bytes s no_things empty) (record { answer = Done n; things = m.things }, m.cells) =
        rw (e, f) in
        (and_left (accepted_scheme s) _ (from_true e), m, is ∙ rw (matrix_trips.read bytes s no_things empty n m.things m.cells small is).0)
    go true e (fault z) f t = absurd (no_one x t)
    go false e r f t = absurd (no_one x t)

pub reads : (scheme image : List ℕ) → Bytes scheme → Bytes image → (x : ℕ) → T (has_thing scheme image x) →
    (s : Scheme) × (m : Matrix) × Held scheme image s m
unfolding has_thing read_in
reads scheme image small small' x there =
    let s : Scheme = (read_scheme scheme no_scheme).scheme in
    let (ok, m, is) = image_is image small' s x there in
    (s, m, record { ok = ok; of = matrix_held image small' s ok m is; is_scheme = scheme_is scheme small ok; is_matrix = is })

pub read_as : {scheme image : List ℕ} {s : Scheme} {m : Matrix} → Held scheme image s m → read_in scheme image ≡ m
unfolding read_in
read_as {image = image} h =
    ap (λ (r : SchemeAnswer). let q = read_matrix image r.scheme no_things empty in matrix_of q.0.things q.1) h.is_scheme
    ∙ ap (λ (r : MatrixAnswer × List ℕ). matrix_of r.0.things r.1) h.is_matrix

pub there_known : (th : Things) (x : ℕ) {t : Thing} → thing_at th x ≡ some t → T (known th x)
unfolding is_some
there_known th x e = rw (← (is_known th x), e) tt

pub reads_there : (scheme image : List ℕ) → Bytes scheme → Bytes image → (x : ℕ) (t : Thing) → thing_at (read_in scheme image).things x ≡ some t →
    (s : Scheme) × (m : Matrix) × Held scheme image s m × (thing_at m.things x ≡ some t)
reads_there scheme image small small' x t is =
    let (s, m, h) = reads scheme image small small' x (unfold has_thing in there_known _ x is) in
    (s, m, h, rw (read_as h) at is)

-- ---- calls
call_later : {scheme image : List ℕ} {s : Scheme} {m : Matrix} → Held scheme image s m → (c : Call) →
    (end : Matrix) × Held scheme (kept_image scheme image c) s end × Later s m end
unfolding kept_image
call_later {scheme} {image} {s} {m} h c = go (eqb r.called.number 0) refl
  where
    r : Ran
    r = run_bytes scheme image c.list c.answers c.out

    go : (b : Bool) → eqb r.called.number 0 ≡ b → (end : Matrix) × Held scheme (cond b (matrix_after r) image) s end × Later s m end
    go true e =
        let zero = eqb-true r.called.number 0 e in
        let told = (had_room h c.list c.answers c.out zero).1 in
        let (end, is, stands) = told.left zero in (
          end,
          record { ok = h.ok; of = matrix_held (matrix_after r) (told.small zero) s h.ok end is; is_scheme = h.is_scheme; is_matrix = is },
          (let ran = (run_later s h.ok m h.of c.list c.answers).1 in record { requests = ran.requests; left = stands ∙ unfold left_by in ran.left }),
        )
    go false e = (m, h, later_same s m)

pub calls_later : {scheme image : List ℕ} {s : Scheme} {m : Matrix} → Held scheme image s m → (cs : List Call) →
    (end : Matrix) × Held scheme (image_after scheme image cs) s end × Later s m end
unfolding image_after
calls_later {s = s} {m = m} h [] = (m, h, later_same s m)
calls_later {scheme = scheme} {image = image} h (c ∷ cs) =
    let (mid, h', a) = call_later h c in
    let (end, h'', b) = calls_later {image = kept_image scheme image c} h' cs in
    (end, h'', later_then a b)
