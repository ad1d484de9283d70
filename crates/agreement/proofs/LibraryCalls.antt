-- What a call of the library that gave 0 tells: its bytes were read, for no refusal has that number; and so both conversion calls were done.
-- Assumes nothing.
use Prim.Native.Nat.{ℕ, ◌+◌}
use native.Mathlib.Omega.{arith}
use mathlib.Core.Path.{◌≡◌, refl, sym, ap, ◌∙◌}
use mathlib.Core.Bool.{Bool, true, false, cond, not, ◌&&◌}
use mathlib.Core.Option.{none, some}
use mathlib.Core.List.{List}
use lib.Dec.{T, eqb, leb}
use lib.ListN.{length, replicate}
use Rattle.laws.specs.Check.{Fault}
use Rattle.laws.proofs.Bools.{or_right}
use Rattle.model.specs.Arrays.{no_scheme}
use Rattle.model.specs.Seats.{Matrix, no_things}
use Rattle.model.specs.Accepted.{accepted_scheme, accepted_matrix}
use Rattle.model.specs.declared.Scheme.{Scheme}
use Rattle.model.specs.declared.Things.{Things}
use Rattle.conversion.specs.Conversion.{conversion_fault}
use Rattle.records.specs.Writing.{placed, write_bytes}
use Rattle.records.specs.Outcome.Reading.{Reading}
use Rattle.records.specs.Outcome.Reading as reading
use Rattle.records.specs.Outcome.Writing.{Writing}
use Rattle.records.specs.Outcome.Writing as writing
use Rattle.scheme_bytes.specs.Answers.{read_scheme, SchemeAnswer}
use Rattle.scheme_bytes.proofs.FunctionTrips.{function_trips as scheme_trips}
use Rattle.matrix_bytes.specs.Answers.{read_matrix}
use Rattle.matrix_bytes.specs.MatrixAnswer.{MatrixAnswer}
use Rattle.matrix_bytes.proofs.FunctionTrips.{function_trips as matrix_trips}
use Rattle.convert.specs.Convert.{scheme_fault, matrix_fault, written_by, convert_scheme_into, convert_matrix_into}
use Rattle.robot.specs.Library.{after_scheme, with_scheme, after_matrix, with_matrix, Wrote, not_written, wrote, convert_scheme_bytes, convert_against, convert_matrix_bytes}
use Rattle.agreement.specs.LibraryAgrees.{written, written_bytes, Bytes, IsScheme, IsMatrix}
use Rattle.agreement.proofs.Agreement.{Converted, converted}
use Rattle.agreement.proofs.FaultNumbers.{passed_fault, conversion_fault_lem, unless_27}
use Rattle.agreement.proofs.ReadNumbers.{passed, scheme_only, matrix_only}

-- what a call reads a matrix's cells into
abbrev pub empty : List ℕ
empty = replicate 2304 0

-- ---- a call's answer, from what its bytes are
module _ {A : Type 0} (refused : ℕ → ℕ → ℕ → A) where
  pub with_scheme_lem : (bytes : List ℕ) (s : Scheme) (next : Scheme → ℕ → A) → IsScheme bytes s → with_scheme refused bytes next ≡ next s (length bytes)
  unfolding with_scheme
  with_scheme_lem bytes s next is = ap (λ (r : SchemeAnswer). after_scheme refused next r.scheme r.answer) is

  pub with_matrix_lem : (bytes : List ℕ) (s : Scheme) (m : Matrix) (next : Matrix → ℕ → A) → IsMatrix bytes s m →
      with_matrix refused s bytes next ≡ next m (length bytes)
  unfolding with_matrix
  with_matrix_lem bytes s m next is = ap (λ (r : MatrixAnswer × List ℕ). after_matrix refused next r r.0.answer) is

-- ---- what its bytes are, from a call that gave 0
abbrev nonzero : ℕ → Bool
nonzero k = not (eqb k 0)

no_zero : {A : Type 0} (k : ℕ) → T (nonzero k) → k ≡ 0 → A
no_zero k t e = absurd (rw e at t)

module _ {A : Type 0} (refused : ℕ → ℕ → ℕ → A) (number : A → ℕ) (told : (k where' at : ℕ) → number (refused k where' at) ≡ k)
    (bytes : List ℕ) (small : Bytes bytes) where
  pub scheme_done : (next : Scheme → ℕ → A) → number (with_scheme refused bytes next) ≡ 0 → (s : Scheme) × IsScheme bytes s
  unfolding with_scheme
  scheme_done next = by (read_scheme bytes no_scheme).answer (read_scheme bytes no_scheme).scheme refl (scheme_only nonzero tt tt tt tt tt tt tt bytes no_scheme)
    where
      by : (a : Reading) (s : Scheme) → read_scheme bytes no_scheme ≡ record { answer = a; scheme = s } → T (passed nonzero a) →
          number (after_scheme refused next s a) ≡ 0 → (s : Scheme) × IsScheme bytes s
      by (reading.Done n) s is t e = (s, is ∙ rw (scheme_trips.read bytes no_scheme s n small is).0)
      by (reading.Refused k at) s is t e = no_zero k t (sym (told k 1 at) ∙ e)

  -- 27 isn't 0 either
  matrix_told : (s : Scheme) → T (passed nonzero (read_matrix bytes s no_things empty).0.answer)
  unfolding read_matrix
  matrix_told s = by (accepted_scheme s && eqb (length empty) 2304) _ _ (matrix_only nonzero tt tt tt tt tt tt tt s.head bytes no_things empty) tt
    where
      by : (b : Bool) (x y : MatrixAnswer × List ℕ) → T (passed nonzero x.0.answer) → T (passed nonzero y.0.answer) →
          T (passed nonzero (cond b x y).0.answer)
      by true x y t u = t
      by false x y t u = u

  pub matrix_done : (s : Scheme) (next : Matrix → ℕ → A) → number (with_matrix refused s bytes next) ≡ 0 → (m : Matrix) × IsMatrix bytes s m
  unfolding with_matrix
  matrix_done s next =
      let r : MatrixAnswer × List ℕ = read_matrix bytes s no_things empty in by r.0.answer r.0.things r.1 refl (matrix_told s)
    where
      by : (a : Reading) (things : Things) (cells : List ℕ) →
          ◌≡◌ {A = MatrixAnswer × List ℕ} (read_matrix bytes s no_things empty) (record { answer = a; things = things }, cells) → T (passed nonzero a) →
          number (after_matrix refused next (record { answer = a; things = things }, cells) a) ≡ 0 → (m : Matrix) × IsMatrix bytes s m
      by (reading.Done n) things cells is t e =
          (record { things = things; cells = cells }, is ∙ rw (matrix_trips.read bytes s no_things empty n things cells small is).0)
      by (reading.Refused k at) things cells is t e = no_zero k t (sym (told k 2 at) ∙ e)

-- ---- a conversion's writing was done too: neither 27, nor a fault of conversion, nor 9 is 0
fault_told : (s : Scheme) (may : Bool) → T (passed_fault nonzero (cond may (conversion_fault s) (some 27)))
fault_told s may = unless_27 nonzero may (conversion_fault s) (or_right may _ tt) (conversion_fault_lem nonzero tt tt tt s)

wrote_done : (out bytes : List ℕ) (f : Fault) → T (passed_fault nonzero f) → (w : Wrote) → w ≡ wrote 1 (written_by out bytes f) → w.called.number ≡ 0 →
    ◌≡◌ {A = Writing × List ℕ} (written_by out bytes f) (writing.Done (written w.called), w.out)
unfolding write_bytes
wrote_done out bytes none t w is e = rw is (by (leb (0 + length bytes) (length out)) (rw is at e))
  where
    placing : Bool → Writing × List ℕ
    placing b = cond b (writing.Done (0 + length bytes), placed out 0 bytes) (writing.Refused 9, out)

    by : (b : Bool) → (wrote 1 (placing b)).called.number ≡ 0 →
        ◌≡◌ {A = Writing × List ℕ} (placing b) (writing.Done (written (wrote 1 (placing b)).called), (wrote 1 (placing b)).out)
    by true e = refl
    by false e = absurd (omega arith)
wrote_done out bytes (some k) t w is e = no_zero k t (rw is at e)

pub both_done : (scheme matrix out out' : List ℕ) → Bytes scheme → Bytes matrix →
    (convert_scheme_bytes scheme out).called.number ≡ 0 → (convert_matrix_bytes scheme matrix out').called.number ≡ 0 →
    (s : Scheme) × (m : Matrix) × IsScheme scheme s × IsMatrix matrix s m
    × Converted s m (written_bytes (convert_scheme_bytes scheme out)) (written_bytes (convert_matrix_bytes scheme matrix out'))
unfolding convert_scheme_bytes convert_against convert_matrix_bytes written_bytes convert_scheme_into convert_matrix_into scheme_fault matrix_fault
both_done scheme matrix out out' small small' e e' =
    let (s, is) = scheme_done (not_written out) (λ w. w.called.number) (λ k x at. refl) scheme small _ e in
    let first = with_scheme_lem (not_written out) scheme s (λ s n. wrote 1 (convert_scheme_into out s)) is in
    let against = with_scheme_lem (not_written out') scheme s (λ s n. convert_against matrix out' s) is in
    let (m, is') = matrix_done (not_written out') (λ w. w.called.number) (λ k x at. refl) matrix small' s _ (rw against at e') in
    let second = against ∙ with_matrix_lem (not_written out') matrix s m (λ m k. wrote 1 (convert_matrix_into out' s m)) is' in
    let done = wrote_done out _ (scheme_fault s) (fault_told s (accepted_scheme s)) _ first e in
    let done' = wrote_done out' _ (matrix_fault s m) (fault_told s (accepted_scheme s && accepted_matrix s.head m)) _ second e' in
    (s, m, is, is', converted s m out out' _ _ _ _ done done')
