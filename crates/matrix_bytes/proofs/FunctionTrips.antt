-- What `FunctionTrips` states of matrices: the round trips of their bytes, behind the tests that the functions make around them.
-- Assumes nothing.
use Prim.Native.Nat.{ℕ}
use native.Mathlib.Nat.{zero-add}
use mathlib.Core.Bool.{Bool, true, false, cond, ◌&&◌}
use mathlib.Core.List.{List}
use mathlib.Core.Path.{◌≡◌, ap}
use lib.Dec.{T, eqb}
use lib.ListN.{length}
use borrow.Author.Tests.{le-leb, eq-eqb}
use Rattle.model.specs.Seats.{Matrix}
use Rattle.model.specs.Accepted.{accepted_scheme, accepted_matrix}
use Rattle.model.specs.declared.Things.{Things}
use Rattle.laws.proofs.Bools.{is_true, and_left, and_right}
use Rattle.records.specs.Reading.{Read, got, fault}
use Rattle.records.specs.Front.{Refusal}
use Rattle.records.specs.Writing.{write_bytes}
use Rattle.records.specs.Outcome.Reading.{Done, Refused}
use Rattle.records.proofs.Wrote.{pair_eq, wrote, wrote_first}
use Rattle.matrix_bytes.specs.Answers.{as_matrix, read_matrix}
use Rattle.matrix_bytes.specs.FunctionTrips.{FunctionTrips}
use Rattle.matrix_bytes.specs.Read.{matrix}
use Rattle.matrix_bytes.specs.Write.{matrix_bytes, write_matrix}
use Rattle.matrix_bytes.specs.MatrixAnswer.{MatrixAnswer}
use Rattle.matrix_bytes.proofs.RoundTrips.{round_trips}
use Rattle.laws.proofs.Differ.{constructors_differ}

-- ---- read, then written
-- what was read was done against an accepted scheme
pub read_got : (accepted room : Bool) (r : Read ℕ Refusal Matrix) (things : Things) (cells : List ℕ) (next : ℕ) (th : Things) (new : List ℕ) →
    ◌≡◌ {A = MatrixAnswer × List ℕ} (cond (accepted && room) (as_matrix things cells r) (record { answer = Refused 27 0; things = things }, cells))
    (record { answer = Done next; things = th }, new) → T accepted × (r ≡ got (record { things = th; cells = new }) next)
read_got true true (got m n) things cells next th new e =
    let (p, d) = pair_eq e in
    let a : m.things ≡ th = ap (λ (y : MatrixAnswer). y.things) p in
    let b = ap (λ (y : MatrixAnswer). y.answer) p in
    let c : n ≡ next = cc in (tt, rw (← a, ← c, ← d))
read_got true true (fault f) things cells next th new e = let b = ap (λ (y : MatrixAnswer). y.answer) (pair_eq e).0 in constructors_differ (cc)
read_got true false r things cells next th new e = let b = ap (λ (y : MatrixAnswer). y.answer) (pair_eq e).0 in constructors_differ (cc)
read_got false room r things cells next th new e = let b = ap (λ (y : MatrixAnswer). y.answer) (pair_eq e).0 in constructors_differ (cc)

-- ---- both
pub function_trips : FunctionTrips
unfolding write_matrix write_bytes read_matrix
function_trips = record {
  written = λ out s m n left e.
      let (t, w) = wrote (accepted_scheme s && accepted_matrix s.head m) 27 out 0 (matrix_bytes s.head m) n left e in
      let (size, same) = wrote_first out (matrix_bytes s.head m) n left w in
      let a : T (accepted_scheme s) = and_left (accepted_scheme s) _ t in
      let b : T (accepted_matrix s.head m) = and_right (accepted_scheme s) _ t in (
        λ things cells l. rw (is_true (accepted_scheme s) a, eq-eqb _ _ l, same, round_trips.there s m a b, ← size),
        round_trips.same_content s m a b,
      );
  read = λ bytes s things cells next th new g e.
      let m : Matrix = record { things = th; cells = new } in
      let (a, r) = read_got (accepted_scheme s) (eqb (length cells) 2304) (matrix s.head bytes 0) things cells next th new e in
      let (b, same, end) = round_trips.back s bytes m next a g r in
      (end, λ out room. rw (is_true (accepted_scheme s) a, is_true (accepted_matrix s.head m) b, ← same, zero-add, le-leb _ _ room));
}
