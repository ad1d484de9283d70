-- What `FunctionTrips` states of schemes: the round trips of their bytes, behind the tests that the functions make around them.
-- Assumes nothing.
use Prim.Native.Nat.{ℕ}
use native.Mathlib.Nat.{zero-add}
use mathlib.Core.Path.{◌≡◌, ap}
use borrow.Author.Tests.{le-leb}
use Rattle.model.specs.Accepted.{accepted_scheme}
use Rattle.model.specs.declared.Scheme.{Scheme}
use Rattle.laws.proofs.Bools.{is_true}
use Rattle.records.specs.Reading.{Read, got, fault}
use Rattle.records.specs.Front.{Refusal}
use Rattle.records.specs.Writing.{write_bytes}
use Rattle.records.specs.Outcome.Reading.{Done}
use Rattle.records.proofs.Wrote.{wrote, wrote_first}
use Rattle.scheme_bytes.specs.Answers.{as_scheme, read_scheme}
use Rattle.scheme_bytes.specs.FunctionTrips.{FunctionTrips}
use Rattle.scheme_bytes.specs.Read.{scheme}
use Rattle.scheme_bytes.specs.Write.{scheme_bytes, write_scheme}
use Rattle.scheme_bytes.specs.Answers.{SchemeAnswer}
use Rattle.scheme_bytes.proofs.RoundTrips.{scheme_there, scheme_back}
use Rattle.laws.proofs.Differ.{constructors_differ}

-- ---- read, then written
as_got : (table : Scheme) (r : Read ℕ Refusal Scheme) (s : Scheme) (next : ℕ) → as_scheme table r ≡ record { answer = Done next; scheme = s } → r ≡ got s next
as_got table (got x n) s next e =
    let a : x ≡ s = ap (λ (y : SchemeAnswer). y.scheme) e in
    let b = ap (λ (y : SchemeAnswer). y.answer) e in
    let c : n ≡ next = cc in rw (a, c)
as_got table (fault f) s next e = let b = ap (λ (y : SchemeAnswer). y.answer) e in constructors_differ (cc)

-- ---- both
pub function_trips : FunctionTrips
unfolding write_scheme write_bytes read_scheme
function_trips = record {
  written = λ out s n left e table.
      let (t, w) = wrote (accepted_scheme s) 27 out 0 (scheme_bytes s) n left e in
      let (size, same) = wrote_first out (scheme_bytes s) n left w in
      rw (same, scheme_there s t, ← size);
  read = λ bytes table s next g e.
      let (t, same, end) = scheme_back bytes s next g (as_got table (scheme bytes 0) s next e) in
      (end, λ out room. rw (is_true (accepted_scheme s) t, ← same, zero-add, le-leb _ _ room));
}
