-- Memory and papers agree on the marks that the office sets, and a mark leaves an accepted matrix accepted: the promise `Marks`.
-- Assumes nothing.
use Prim.Native.Nat.{ℕ, ◌<◌}
use mathlib.Core.Path.{◌≡◌, refl, sym, ap, ◌∙◌}
use mathlib.Core.Logic.{◌≢◌}
use mathlib.Core.Bool.{Bool, true, false, cond}
use mathlib.Core.Option.{Option, none, some}
use lib.Dec.{T, eqb}
use lib.ListN.{length, get_or, length-set}
use lib.Seq.{get_or-set_same, get_or-set_other, set-get_or, set-set}
use borrow.Author.Tests.{eqb-true, eqb-false}
use Rattle.laws.specs.Check.{must}
use Rattle.laws.proofs.Bools.{is_true, from_true, eqb_not}
use Rattle.laws.proofs.Differ.{constructors_differ}
use Rattle.model.specs.Scheme.{no_type}
use Rattle.model.specs.Request.{Thing, at, done, refused, unless_fault}
use Rattle.model.specs.Papers.{now_is, now_has}
use Rattle.model.specs.Seats.{Matrix, matrix_of, known, seat, thing_in, thing_at, paper_things, place, cell, stands_for}
use Rattle.model.specs.Accepted.{accepted_seat, standing, accepted_matrix}
use Rattle.model.specs.declared.Head.{Head}
use Rattle.model.specs.declared.Things.{Things}
use Rattle.model.proofs.Held.{Held}
use Rattle.model.proofs.HeldLaws.{held, accepted}
use Rattle.model.proofs.Find.{known_nonzero, seat_is, some_thing, seat_lt}
use Rattle.model.proofs.SeatChange.{things_eq, state_eq, stored, cond_when}
use Rattle.hold.specs.Marking.{marked_if, mark_on_paper, mark_seat, mark_thing}
use Rattle.hold.specs.Promises.{paper_marked, Marks}

-- ---- a mark of a thing that is there

module _ (h : Head) (m : Matrix) (b : Bool) (x : ℕ) (ok : Held h m) (k : T (known m.things x)) where
  abbrev th : Things
  th = m.things

  abbrev p : ℕ
  p = seat th x

  abbrev marked : Matrix
  marked = matrix_of (mark_seat b p th) m.cells

  -- what X is now
  abbrev now : Option Thing
  now = some (record { type = get_or th.types p no_type; on_hold = b })

  in_marks : p < length th.marks
  in_marks = rw ok.things.mark_room (seat_lt h th ok.things x k)

  -- a seat's test says nothing of the mark where someone sits
  seat_held : (i : ℕ) → i < 48 → T (accepted_seat h (mark_seat b p th) (get_or th.ids i 0) (thing_in (mark_seat b p th) i))
  unfolding mark_seat accepted_seat thing_in
  seat_held i l = stored (λ w. T (accepted_seat h th (get_or th.ids i 0) (record { type = get_or th.types i no_type; on_hold = w })))
      th.marks p b i false in_marks
      (λ e.
      let nz : get_or th.ids i 0 ≢ 0 = rw (e, seat_is th x k) (known_nonzero th x k) in
      rw (eqb_not _ 0 nz) (rw (eqb_not _ 0 nz) at (ok.things.seat i l)))
      (λ ne. ok.things.seat i l)

  mark_held : Held h marked
  unfolding mark_seat standing
  mark_held = record {
    things = record {
      id_room = ok.things.id_room;
      type_room = ok.things.type_room;
      mark_room = simp length-set ok.things.mark_room;
      apart = ok.things.apart;
      reach = ok.things.reach;
      seat = seat_held;
    };
    cells = record { room = ok.cells.room; small = ok.cells.small; bare = ok.cells.bare };
  }

  -- another id has another seat
  mark_at : (a : ℕ) (e : Bool) → eqb a x ≡ e → thing_at (mark_seat b p th) a ≡ cond e now (thing_at th a)
  unfolding mark_seat thing_at known seat thing_in
  mark_at a true e = let is : a ≡ x = eqb-true a x e in rw (is, is_true (known th x) k, get_or-set_same th.marks p b false in_marks)
  mark_at a false e = cond_when (known th a) none (λ ka.
      rw (get_or-set_other th.marks p (seat th a) b false (λ q. eqb-false a x e (sym (seat_is th a ka) ∙ rw q (seat_is th x k)))))

  mark_stands : stands_for marked ≡ record { things = now_has x now (stands_for m).things; rights = (stands_for m).rights }
  unfolding mark_seat stands_for paper_things now_has now_is known seat cell place
  mark_stands = state_eq _ _ (things_eq _ _ (λ a. mark_at a (eqb a x) refl) refl) (λ a c. refl)

-- ---- whether it is there

module _ (b : Bool) (x : ℕ) (th : Things) where
  pub mark_known : T (known th x) → mark_thing b x th ≡ done (mark_seat b (seat th x) th)
  unfolding mark_thing must unless_fault
  mark_known k = rw (is_true (known th x) k)

  mark_unknown : known th x ≡ false → mark_thing b x th ≡ refused (at 12 0)
  unfolding mark_thing must unless_fault
  mark_unknown e = rw e

-- ---- the promises

joined : (h : Head) (m : Matrix) (b : Bool) (x : ℕ) → T (accepted_matrix h m) → paper_marked m (mark_thing b x m.things) ≡ mark_on_paper b x (stands_for m)
unfolding mark_on_paper marked_if paper_marked stands_for paper_things thing_at thing_in
joined h m b x of = go (known m.things x) refl
  where
    go : (c : Bool) → known m.things x ≡ c →
        paper_marked m (mark_thing b x m.things) ≡ marked_if b x (stands_for m) (cond c (some (thing_in m.things (seat m.things x))) none)
    go true e = rw (mark_known b x m.things (from_true e)) (ap done (mark_stands h m b x (held h m of) (from_true e)))
    go false e = rw (mark_unknown b x m.things e)

kept : (h : Head) (m : Matrix) (b : Bool) (x : ℕ) (th : Things) → T (accepted_matrix h m) → mark_thing b x m.things ≡ done th →
    T (accepted_matrix h (matrix_of th m.cells))
kept h m b x th of e = go (known m.things x) refl
  where
    go : (c : Bool) → known m.things x ≡ c → T (accepted_matrix h (matrix_of th m.cells))
    go true k =
        let is : mark_seat b (seat m.things x) m.things ≡ th = cc (mark_known b x m.things (from_true k)) in
        rw (← is) (accepted h _ (mark_held h m b x (held h m of) (from_true k)))
    go false k = constructors_differ (cc (mark_unknown b x m.things k))

again : (h : Head) (m : Matrix) (x : ℕ) (t : Thing) → T (accepted_matrix h m) → thing_at m.things x ≡ some t →
    mark_thing t.on_hold x m.things ≡ done m.things
unfolding mark_seat thing_in thing_at
again h m x t of e = go (known m.things x) refl e
  where
    go : (c : Bool) → known m.things x ≡ c → cond c (some (thing_in m.things (seat m.things x))) none ≡ some t →
        mark_thing t.on_hold x m.things ≡ done m.things
    go true k e =
        let mark : t.on_hold ≡ get_or m.things.marks (seat m.things x) false =
        ap (λ (u : Thing). u.on_hold) (sym (some_thing m.things x t (rw k e))) in
        mark_known t.on_hold x m.things (from_true k) ∙ rw (mark, set-get_or m.things.marks (seat m.things x) false)
    go false k e = constructors_differ (cc)

last : (b c : Bool) (x : ℕ) (th now : Things) → mark_thing b x th ≡ done now → mark_thing c x now ≡ mark_thing c x th
last b c x th now e = go (known th x) refl
  where
    go : (d : Bool) → known th x ≡ d → mark_thing c x now ≡ mark_thing c x th
    go true k =
        let is : mark_seat b (seat th x) th ≡ now = cc (mark_known b x th (from_true k)) in
        rw (← is) (unfold mark_thing mark_seat known seat in rw (set-set th.marks (seat th x) b c))
    go false k = constructors_differ (cc (mark_unknown b x th k))

pub marks : Marks
marks = record { joined = joined; kept = kept; again = again; last = last }
