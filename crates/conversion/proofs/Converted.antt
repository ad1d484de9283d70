-- Memory and papers agree on what conversion is, a converted cell as a number, and the promise `Converts`.
-- Assumes nothing.
use Prim.Native.Nat.{ℕ, ◌+◌, ◌*◌, ◌^◌, ◌<◌}
use mathlib.Core.Path.{◌≡◌, refl, ◌∙◌}
use mathlib.Core.Bool.{Bool, true, false, cond, ◌&&◌, and-true, and-false}
use mathlib.Core.Option.{none, some}
use native.Mathlib.Omega.{arith}
use lib.Dec.{T}
use lib.ListN.{get_or}
use lib.Pow.{pow_pos}
use Rattle.rights.specs.Sets.{complement, converted}
use Rattle.rights.proofs.Converted.{converted_number}
use Rattle.laws.specs.Check.{is_some}
use Rattle.model.specs.Scheme.{is_subject, no_type}
use Rattle.model.specs.Papers.{is_subject_thing, cell_exists}
use Rattle.model.specs.Seats.{Matrix, known, seat, thing_in, thing_at, paper_things, place, cell, stands_for}
use Rattle.model.specs.Accepted.{accepted_matrix, standing}
use Rattle.model.specs.declared.Head.{Head}
use Rattle.model.specs.declared.Scheme.{Scheme}
use Rattle.model.specs.declared.Things.{Things}
use Rattle.laws.proofs.Bools.{from_true, and_left, and_right, is_true, eqb_not}
use Rattle.model.proofs.Held.{Held}
use Rattle.model.proofs.HeldLaws.{held}
use Rattle.model.proofs.Find.{known_nonzero, seat_is, seat_lt}
use Rattle.model.proofs.SeatChange.{state_eq, cond_when}
use Rattle.conversion.specs.Conversion.{convertible, convert_state, convert_matrix}
use Rattle.conversion.specs.Promises.{Converts}
use Rattle.conversion.proofs.Lists.{few_rights, by_cond, cells_at}
use Rattle.conversion.proofs.SchemeAccepted.{scheme_accepted}
use Rattle.conversion.proofs.Built.{converted_presence}
use Rattle.conversion.proofs.MatrixAccepted.{matrix_accepted}

module _ (h : Head) (m : Matrix) (ok : Held h m) (x y : ℕ) where
  abbrev th : Things
  th = m.things

  abbrev both : Bool
  both = known th x && known th y

  -- a cell of the papers' matrix: both things exist, and it stands at their seats
  exists_stands : cell_exists h (stands_for m) x y ≡ (both && standing h th (seat th x) (seat th y))
  unfolding cell_exists stands_for paper_things thing_at thing_in is_some standing
  exists_stands = go (known th x) (known th y) refl refl
    where
      row : Bool
      row = is_subject h (get_or th.types (seat th x) no_type)

      go : (a b : Bool) → known th x ≡ a → known th y ≡ b →
          (is_subject_thing h (cond a (some (thing_in th (seat th x))) none)
          && is_some (cond b (some (thing_in th (seat th y))) none))
          ≡ ((a && b) && standing h th (seat th x) (seat th y))
      go true true ea eb =
          let kx : T (known th x) = from_true ea in
          let ky : T (known th y) = from_true eb in
          rw (seat_is th x kx, seat_is th y ky, eqb_not x 0 (known_nonzero th x kx), eqb_not y 0 (known_nonzero th y ky)) (and-true row)
      go true false ea eb = and-false row
      go false b ea eb = refl

  same_cell : T both → cell (convert_matrix h m) x y ≡ cond (standing h th (seat th x) (seat th y)) (converted h.rights (cell m x y)) (cell m x y)
  unfolding cell place convert_matrix
  same_cell t =
      let lx = seat_lt h th ok.things x (search and_left) in
      let ly = seat_lt h th ok.things y (search and_right) in
      cells_at h th m.cells (seat th x) (seat th y) ly (rw ok.cells.room (omega arith))

  same_rights : (stands_for (convert_matrix h m)).rights x y ≡ (convert_state h (stands_for m)).rights x y
  unfolding convert_state stands_for convert_matrix
  same_rights = rw exists_stands (cond_when both 0 same_cell ∙ go both (standing h th (seat th x) (seat th y)) (cell m x y))
    where
      go : (b st : Bool) (c : ℕ) →
          cond b (cond st (converted h.rights c) c) 0 ≡ cond (b && st) (converted h.rights (cond b c 0)) (cond b c 0)
      go true st c = refl
      go false st c = refl

  pub small : (stands_for m).rights x y < 2 ^ h.rights
  unfolding stands_for cell
  small = by_cond (λ (c : ℕ). c < 2 ^ h.rights) both _ 0 (λ b. ok.cells.small _) (pow_pos h.rights)

pub joined : (h : Head) (m : Matrix) → T (accepted_matrix h m) → stands_for (convert_matrix h m) ≡ convert_state h (stands_for m)
unfolding convert_state stands_for convert_matrix
joined h m t = state_eq _ _ refl (same_rights h m (held h m t))

pub exact : (s : Scheme) (m : Matrix) (x y : ℕ) → T (convertible s) → T (accepted_matrix s.head m) → T (cell_exists s.head (stands_for m) x y) →
    (stands_for (convert_matrix s.head m)).rights x y
    ≡ (stands_for m).rights x y + 2 ^ s.head.rights * complement s.head.rights ((stands_for m).rights x y)
unfolding convert_state
exact s m x y cs t e =
    let ok = held s.head m t in
    same_rights s.head m ok x y ∙ rw (is_true (cell_exists s.head (stands_for m) x y) e)
    (converted_number s.head.rights _ (few_rights s cs) (small s.head m ok x y))

pub converts : Converts
converts = record {
  scheme = λ s ok can. (scheme_accepted s ok can, converted_presence s);
  matrix = λ s m ok. matrix_accepted s m;
  joined = λ s. joined s.head;
  exact = exact;
}
