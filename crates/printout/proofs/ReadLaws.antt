-- What was read is accepted. Assumes nothing.
use Prim.Native.Nat.{ℕ, ◌<◌}
use mathlib.Core.Path.{◌≡◌, refl, sym, ap, ◌∙◌}
use mathlib.Core.Bool.{Bool, true, false, cond, ◌&&◌}
use mathlib.Core.List.{List}
use lib.Dec.{T, eqb}
use lib.ListN.{length, get_or, replicate}
use Rattle.laws.proofs.Differ.{constructors_differ}
use Rattle.model.specs.Seats.{Matrix, matrix_of}
use Rattle.model.specs.Accepted.{accepted_scheme, accepted_matrix}
use Rattle.model.specs.declared.Scheme.{Scheme}
use Rattle.model.specs.declared.Things.{Things}
use Rattle.records.specs.Reading.{Read, got, fault}
use Rattle.records.specs.Front.{Refusal}
use Rattle.records.specs.Outcome.Reading.{Reading}
use Rattle.records.specs.Outcome.Reading as reading
use Rattle.matrix_bytes.specs.Read.{matrix}
use Rattle.matrix_bytes.specs.Answers.{as_matrix, read_matrix}
use Rattle.matrix_bytes.specs.MatrixAnswer.{MatrixAnswer}
use Rattle.matrix_bytes.proofs.RoundTrips.{round_trips}

abbrev how : MatrixAnswer × List ℕ → Reading
how a = a.0.answer

read_got : (ok room : Bool) (r : Read ℕ Refusal Matrix) (things : Things) (cells : List ℕ) (a : MatrixAnswer × List ℕ)
    → a ≡ cond (ok && room) (as_matrix things cells r) (record { answer = reading.Refused 27 0; things = things }, cells)
    → (next : ℕ) → how a ≡ reading.Done next → T ok × (r ≡ got (matrix_of a.0.things a.1) next)
read_got true true (got m n) things cells a e next f =
    let b : reading.Done n ≡ reading.Done next = ap how (sym e) ∙ f in
    let c : n ≡ next = cc in (tt, rw (e, c))
read_got true true (fault k) things cells a e next f = let b = ap how (sym e) ∙ f in constructors_differ (cc)
read_got true false r things cells a e next f = let b = ap how (sym e) ∙ f in constructors_differ (cc)
read_got false room r things cells a e next f = let b = ap how (sym e) ∙ f in constructors_differ (cc)

abbrev empty : List ℕ
empty = replicate 2304 0

module _ (s : Scheme) (bytes : List ℕ) (things : Things) where
  abbrev a : MatrixAnswer × List ℕ
  a = read_matrix bytes s things empty

  pub accepted_read : ((i : ℕ) → get_or bytes i 0 < 256) → (next : ℕ) → a.0.answer ≡ reading.Done next
      → T (accepted_scheme s) × T (accepted_matrix s.head (matrix_of a.0.things a.1))
  unfolding read_matrix
  accepted_read low next f =
      let (ok, g) = read_got (accepted_scheme s) (eqb (length empty) 2304) (matrix s.head bytes 0) things empty a refl next f in
      (ok, (round_trips.back s bytes (matrix_of a.0.things a.1) next ok low g).0)
