-- Both ways, as the returns of the functions have them: 27, the reading, 23 on the way back, and what is written.
-- Assumes nothing.
use Prim.Native.Nat.{ℕ, ◌≤◌}
use mathlib.Core.Bool.{true, false}
use mathlib.Core.List.{List}
use mathlib.Core.Path.{◌≡◌, refl, sym, ap, ◌∙◌}
use lib.ListN.{length, replicate}
use borrow.Author.Tests.{eq-eqb, ne_eqb}
use Rattle.std.specs.Prelude.{Result, Ok, Err}
use Rattle.faults.specs.declared.Fault.{Fault}
use Rattle.laws.proofs.Bools.{is_true, from_true}
use Rattle.laws.proofs.Differ.{constructors_differ}
use Rattle.model.specs.Accepted.{accepted_head, accepted_scheme}
use Rattle.model.specs.Seats.{Matrix}
use Rattle.model.specs.declared.Scheme.{Scheme}
use Rattle.model.specs.declared.Things.{Things}
use Rattle.records.specs.Reading.{Read, got, fault}
use Rattle.records.specs.Front.{Refusal}
use Rattle.records.specs.Results.{refused, written}
use Rattle.records.specs.Writing.{write_bytes}
use Rattle.records.specs.Outcome.Writing.{Writing}
use Rattle.records.specs.Outcome.Writing as writing
use Rattle.records.specs.declared.Refused.{Refused}
use Rattle.records.proofs.Trip.{Bytes}
use Rattle.matrix_bytes.specs.Answers.{as_matrix, read_matrix_by_head}
use Rattle.matrix_bytes.specs.Read.{matrix}
use Rattle.matrix_bytes.specs.MatrixAnswer.{MatrixAnswer}
use Rattle.matrix_bytes.proofs.RoundTrips.{head_passes}
use Rattle.moving.specs.Old.{highest_listed, by_listed, old_content, old_matrix}
use Rattle.moving.specs.Moves.{new_image, old_image, forward, back}
use Rattle.moving.specs.Answers.{by_writing, moved_into, forward_into, back_into}
use Rattle.moving.specs.Inner.Parts.{things_of}
use Rattle.moving.proofs.OldTrips.{old_long}
use Rattle.moving.proofs.OldReads.{by_start}

-- what a function gives, with what the lent buffer then holds
abbrev Gives : Type 0
Gives = Result ℕ Refused × List ℕ

-- ---- from the things that were given back to what was read
not_read : (x : Read ℕ Refusal Matrix) {r : Refused} → Err r ≡ things_of x → (f : Refusal) × (x ≡ fault f) × (r ≡ refused f.number f.at)
not_read (got m n) e = constructors_differ (cc)
not_read (fault f) {r} e = (f, refl, let same : r ≡ refused f.number f.at = cc in same)

was_read : (x : Read ℕ Refusal Matrix) {th : Things} → Ok th ≡ things_of x → (m : Matrix) × (n : ℕ) × (x ≡ got m n) × (th ≡ m.things)
was_read (got m n) {th} e = (m, n, refl, let same : th ≡ m.things = cc in same)
was_read (fault f) e = constructors_differ (cc)

-- ---- and from what was written to what is answered
as_written : (w : Writing × List ℕ) {v : Result ℕ Fault} {left : List ℕ} → ◌≡◌ {A = Result ℕ Fault × List ℕ} (v, left) (written w) →
    ◌≡◌ {A = Gives} (by_start v, left) (moved_into (by_writing w))
as_written (writing.Done n, l) e = ap (λ (p : Result ℕ Fault × List ℕ). (by_start p.0, p.1)) e
as_written (writing.Refused k, l) e = ap (λ (p : Result ℕ Fault × List ℕ). (by_start p.0, p.1)) e

-- ---- forward
module _ (old : List ℕ) (s : Scheme) (out : List ℕ) where
  abbrev forwards : Gives
  forwards = moved_into (forward_into old s out)

  pub forward_27 : false ≡ accepted_scheme s → ◌≡◌ {A = Gives} (Err (refused 27 0), out) forwards
  unfolding forward_into
  forward_27 e = rw (← e)

  module _ (ok : true ≡ accepted_scheme s) where
    pub forward_refused : {r : Refused} → Err r ≡ things_of (old_content s.head old 0) → ◌≡◌ {A = Gives} (Err r, out) forwards
    unfolding forward_into forward old_matrix
    forward_refused {r} e = go (not_read (old_content s.head old 0) e)
      where
        go : (f : Refusal) × (old_content s.head old 0 ≡ fault f) × (r ≡ refused f.number f.at) → ◌≡◌ {A = Gives} (Err r, out) forwards
        go (f, is, same) = rw (← ok, is, same)

    module _ {th : Things} (e : Ok th ≡ things_of (old_content s.head old 0)) where
      pub forward_long : Bytes old → 6 ≤ length old
      forward_long g = let (m, n, is, t) = was_read (old_content s.head old 0) e in old_long s.head old m n (head_passes s (from_true (sym ok))) g is

      pub forward_done : {highest : ℕ} → highest ≡ highest_listed th → {v : Result ℕ Fault} {left : List ℕ} →
          ◌≡◌ {A = Result ℕ Fault × List ℕ} (v, left) (written (write_bytes out 0 (new_image old highest))) → ◌≡◌ {A = Gives} (by_start v, left) forwards
      unfolding forward_into forward old_matrix by_listed
      forward_done {highest} eh w =
          let (m, n, is, t) = was_read (old_content s.head old 0) e in
          let top : highest ≡ highest_listed m.things = eh ∙ ap highest_listed t in
          as_written (write_bytes out 0 (new_image old highest)) w ∙ rw (← ok, is, top)

-- ---- back
module _ (new : List ℕ) (s : Scheme) (out : List ℕ) where
  abbrev backs : Gives
  backs = moved_into (back_into new s out)

  pub back_27 : false ≡ accepted_scheme s → ◌≡◌ {A = Gives} (Err (refused 27 0), out) backs
  unfolding back_into
  back_27 e = rw (← e)

  module _ (ok : true ≡ accepted_scheme s) where
    -- the cells are read too, and nobody asks for them
    pub back_opened : (none : Things) → ◌≡◌ {A = MatrixAnswer × List ℕ} (read_matrix_by_head new s.head none (replicate 2304 0)) (as_matrix none (replicate 2304 0) (matrix s.head new 0))
    unfolding read_matrix_by_head
    back_opened none = let passed : accepted_head s.head ≡ true = is_true _ (head_passes s (from_true (sym ok))) in rw passed

    pub back_refused : {r : Refused} → Err r ≡ things_of (matrix s.head new 0) → ◌≡◌ {A = Gives} (Err r, out) backs
    unfolding back_into back
    back_refused {r} e = go (not_read (matrix s.head new 0) e)
      where
        go : (f : Refusal) × (matrix s.head new 0 ≡ fault f) × (r ≡ refused f.number f.at) → ◌≡◌ {A = Gives} (Err r, out) backs
        go (f, is, same) = rw (← ok, is, same)

    module _ {th : Things} (e : Ok th ≡ things_of (matrix s.head new 0)) {highest : ℕ} (eh : highest ≡ highest_listed th) where
      pub back_lost : (th.highest ≡ highest → ⊥) → ◌≡◌ {A = Gives} (Err (refused 23 0), out) backs
      unfolding back_into back
      back_lost d = let (m, n, is, t) = was_read (matrix s.head new 0) e in rw (← ok, is, ← t, ← eh, ne_eqb th.highest highest d)

      pub back_done : th.highest ≡ highest → {v : Result ℕ Fault} {left : List ℕ} →
          ◌≡◌ {A = Result ℕ Fault × List ℕ} (v, left) (written (write_bytes out 0 (old_image new))) → ◌≡◌ {A = Gives} (by_start v, left) backs
      unfolding back_into back
      back_done same w =
          let (m, n, is, t) = was_read (matrix s.head new 0) e in
          as_written (write_bytes out 0 (old_image new)) w ∙ rw (← ok, is, ← t, ← eh, eq-eqb th.highest highest same)
