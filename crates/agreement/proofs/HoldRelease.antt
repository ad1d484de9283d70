-- Hold and release by the library's calls: what they wrote reads as the marked matrix, with its things by rising id, and so stands for what is done on paper.
-- And hold, then release, of a thing that wasn't on hold: what was held and read, released, has the bytes of what was held, released, which is the matrix from
-- before. Assumes nothing.
use Prim.Native.Nat.{ℕ, ◌+◌, ◌≤◌}
use native.Mathlib.Nat.{zero-add}
use native.Mathlib.Omega.{arith}
use mathlib.Core.Path.{◌≡◌, refl, sym, ap, ◌∙◌}
use mathlib.Core.Bool.{Bool, true, false, cond, ◌&&◌}
use mathlib.Core.Option.{some}
use mathlib.Core.List.{List}
use lib.Dec.{T, leb}
use lib.ListN.{length}
use borrow.Author.Tests.{leb-true, le-leb}
use Rattle.laws.proofs.Bools.{is_true}
use Rattle.model.specs.Request.{Thing, done}
use Rattle.model.specs.Papers.{State}
use Rattle.model.specs.Seats.{Matrix, matrix_of, known, thing_at, no_things, paper_things, stands_for}
use Rattle.model.specs.Accepted.{accepted_scheme, accepted_matrix}
use Rattle.model.specs.declared.Head.{Head}
use Rattle.model.specs.declared.Scheme.{Scheme}
use Rattle.model.specs.declared.Things.{Things}
use Rattle.model.proofs.HeldLaws.{held}
use Rattle.model.proofs.Find.{is_known}
use Rattle.records.specs.Writing.{placed, write_bytes}
use Rattle.records.specs.Outcome.Writing.{Done, Refused}
use Rattle.records.proofs.PlacedLaws.{take_through_placed}
use Rattle.records.proofs.Wrote.{wrote as was_written, wrote_first}
use Rattle.matrix_bytes.specs.Content.{reseated}
use Rattle.matrix_bytes.specs.Write.{matrix_bytes, write_matrix}
use Rattle.matrix_bytes.proofs.RoundTrips.{round_trips}
use Rattle.matrix_bytes.proofs.FunctionTrips.{function_trips}
use Rattle.hold.specs.Marking.{mark_on_paper, mark_seat, mark_thing}
use Rattle.hold.specs.Promises.{paper_marked}
use Rattle.hold.proofs.Marks.{mark_known, marks}
use Rattle.robot.specs.Library.{Wrote, wrote, not_written, marked_into, mark_against, mark_bytes, hold_bytes, release_bytes}
use Rattle.agreement.specs.LibraryAgrees.{written_bytes, Bytes, read_in}
use Rattle.agreement.proofs.LibraryCalls.{empty, with_scheme_lem, with_matrix_lem}
use Rattle.agreement.proofs.LibraryRuns.{Held, bytes_read, bytes_small, matrix_held}
use Rattle.agreement.proofs.Later.{read_as, there_known, reads_there}
use Rattle.agreement.proofs.MarkedBytes.{with_mark, marked_bytes}

-- ---- the mark of a thing that is there

-- a mark changes no id
still_known : (b : Bool) (x : ℕ) (m : Matrix) → T (known m.things x) → T (known (with_mark b x m).things x)
unfolding known mark_seat
still_known b x m k = k

-- what stands for the same has the same things
same_known : (m n : Matrix) (x : ℕ) → stands_for n ≡ stands_for m → T (known m.things x) → T (known n.things x)
unfolding stands_for paper_things
same_known m n x same k =
    let alike : thing_at n.things x ≡ thing_at m.things x = ap (λ (p : State). p.things.thing x) same in
    rw (← (is_known n.things x), alike, is_known m.things x) k

-- held and released, it is as it was
released : (h : Head) (m : Matrix) (x : ℕ) (t : Thing) → T (accepted_matrix h m) → thing_at m.things x ≡ some t → t.on_hold ≡ false →
    with_mark false x (with_mark true x m) ≡ m
released h m x t of is off =
    let k = there_known m.things x is in
    let now : Things = (with_mark true x m).things in
    let there : mark_thing false x now ≡ done m.things =
    marks.last true false x m.things now (mark_known true x m.things k) ∙ rw off at (marks.again h m x t of is) in
    let same : (with_mark false x (with_mark true x m)).things ≡ m.things = cc (mark_known false x now (still_known true x m k)) in
    ap (λ (th : Things). matrix_of th m.cells) same

-- ---- a call of hold or of release, of a thing that is there
module _ {scheme matrix : List ℕ} {s : Scheme} {m : Matrix} (h : Held scheme matrix s m) (b : Bool) (x : ℕ) (k : T (known m.things x)) where
  marked_ok : T (accepted_matrix s.head (with_mark b x m))
  marked_ok = marks.kept s.head m b x _ h.of (mark_known b x m.things k)

  module _ (out : List ℕ) where
    abbrev bytes : List ℕ
    bytes = matrix_bytes s.head (with_mark b x m)

    call_is : mark_bytes b scheme matrix x out ≡ wrote 2 (write_bytes out 0 bytes)
    unfolding mark_bytes mark_against marked_into write_matrix
    call_is =
        with_scheme_lem (not_written out) scheme s _ h.is_scheme ∙ with_matrix_lem (not_written out) matrix s m _ h.is_matrix
        ∙ rw (mark_known b x m.things k, is_true (accepted_scheme s) h.ok, is_true (accepted_matrix s.head (with_mark b x m)) marked_ok)

    abbrev call_if : Bool → Wrote
    call_if fits = wrote 2 (cond fits (Done (0 + length bytes), placed out 0 bytes) (Refused 9, out))

    -- it gives 0 where there is room for the bytes, and only there
    call_fits : length bytes ≤ length out → ((mark_bytes b scheme matrix x out).called.number ≡ 0) × (written_bytes (mark_bytes b scheme matrix x out) ≡ bytes)
    unfolding write_bytes written_bytes
    call_fits fits =
        let room : 0 + length bytes ≤ length out = omega arith in
        rw (call_is, le-leb _ _ room) (refl, take_through_placed out 0 bytes room)

    had_room : (mark_bytes b scheme matrix x out).called.number ≡ 0 → length bytes ≤ length out
    unfolding write_bytes
    had_room e = go (leb (0 + length bytes) (length out)) refl (rw call_is at e)
      where
        go : (fits : Bool) → leb (0 + length bytes) (length out) ≡ fits → (call_if fits).called.number ≡ 0 → length bytes ≤ length out
        go true f e = omega (arith, leb-true (0 + length bytes) (length out) f)
        go false f e = absurd (omega arith)

  -- what it wrote, read again
  marked_held : Held scheme (matrix_bytes s.head (with_mark b x m)) s (reseated s.head (with_mark b x m))
  marked_held =
      let is = bytes_read s (with_mark b x m) h.ok marked_ok in
      record { ok = h.ok; of = matrix_held _ (bytes_small s (with_mark b x m) h.ok marked_ok) s h.ok _ is; is_scheme = h.is_scheme; is_matrix = is }

-- ---- what it wrote stands for what is done on paper
pub as_on_paper_lem : (mark : Bool) (scheme image : List ℕ) (x : ℕ) (t : Thing) (out : List ℕ) → Bytes scheme → Bytes image →
    thing_at (read_in scheme image).things x ≡ some t → (mark_bytes mark scheme image x out).called.number ≡ 0 →
    mark_on_paper mark x (stands_for (read_in scheme image)) ≡ done (stands_for (read_in scheme (written_bytes (mark_bytes mark scheme image x out))))
unfolding paper_marked
as_on_paper_lem mark scheme image x t out small small' there zero =
    let (s, m, h, is) = reads_there scheme image small small' x t there in
    let k = there_known m.things x is in
    let bytes = (call_fits h mark x k out (had_room h mark x k out zero)).1 in
    let joined : paper_marked m (done (with_mark mark x m).things) ≡ mark_on_paper mark x (stands_for m) =
    rw (mark_known mark x m.things k) at (marks.joined s.head m mark x h.of) in
    rw (read_as h, bytes, read_as (marked_held h mark x k))
    (sym joined ∙ ap done (sym (round_trips.same_content s (with_mark mark x m) h.ok (marked_ok h mark x k))))

-- ---- bytes that were read are the bytes of what they were read as
read_bytes : {scheme image : List ℕ} {s : Scheme} {m : Matrix} → Held scheme image s m → Bytes image → matrix_bytes s.head m ≡ image
unfolding write_matrix
read_bytes {image = image} {s = s} {m = m} h small =
    let again = (function_trips.read image s no_things empty _ m.things m.cells small h.is_matrix).1 image (omega arith) in
    let first = (was_written (accepted_scheme s && accepted_matrix s.head m) 27 image 0 (matrix_bytes s.head m) _ _ again).1 in
    sym (wrote_first image (matrix_bytes s.head m) _ _ first).1 ∙ rw zero-add at (take_through_placed image 0 image (omega arith))

-- ---- both calls
pub back_again_lem : (scheme image : List ℕ) (x : ℕ) (t : Thing) (out out' : List ℕ) → Bytes scheme → Bytes image →
    thing_at (read_in scheme image).things x ≡ some t → t.on_hold ≡ false → (hold_bytes scheme image x out).called.number ≡ 0 → length image ≤ length out' →
    let r = release_bytes scheme (written_bytes (hold_bytes scheme image x out)) x out' in (r.called.number ≡ 0) × (written_bytes r ≡ image)
back_again_lem scheme image x t out out' small small' there off zero fits =
    let (s, m, h, is) = reads_there scheme image small small' x t there in
    let k = there_known m.things x is in
    let on : Matrix = with_mark true x m in
    let on-ok = marked_ok h true x k in
    let wrote_on = (call_fits h true x k out (had_room h true x k out zero)).1 in
    let read_on : Matrix = reseated s.head on in
    let k' = still_known true x m k in
    let k'' = same_known on read_on x (round_trips.same_content s on h.ok on-ok) k' in
    let h' : Held scheme (matrix_bytes s.head on) s read_on = marked_held h true x k in
    let same : matrix_bytes s.head (with_mark false x read_on) ≡ image =
    marked_bytes s.head on (held s.head on on-ok) false x k' k'' ∙ ap (matrix_bytes s.head) (released s.head m x t h.of is off) ∙ read_bytes h small' in
    let (none, wrote-off) = call_fits h' false x k'' out' (rw same fits) in
    rw wrote_on (none, wrote-off ∙ same)
