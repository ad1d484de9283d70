-- How the answers of the calls follow from those of the calls within them. That a converted scheme and matrix are accepted, so that their
-- writing is not refused by 27, is `Converts`.
-- Assumes nothing.
use Prim.Native.Nat.{ℕ, ◌≤◌}
use mathlib.Core.Path.{◌≡◌, refl, sym, ap, ◌∙◌}
use mathlib.Core.Option.{none, some}
use mathlib.Core.Bool.{Bool, true, false, cond, ◌&&◌, and-false}
use mathlib.Core.List.{List}
use lib.Dec.{T}
use lib.ListN.{length}
use Rattle.laws.specs.Check.{Fault, passes}
use Rattle.model.specs.Seats.{Matrix}
use Rattle.model.specs.Accepted.{head_fault, accepted_scheme, accepted_matrix}
use Rattle.model.specs.declared.Head.{Head}
use Rattle.model.specs.declared.Scheme.{Scheme}
use Rattle.laws.proofs.Differ.{constructors_differ}
use Rattle.laws.proofs.Bools.{is_true, is_false, from_true, and_left, and_right}
use Rattle.model.proofs.HeldLaws.{held}
use Rattle.accepted.specs.Answers.{as_checked}
use Rattle.std.specs.Prelude.{Result, Ok, Err}
use Rattle.faults.specs.Numbers.{fault_of}
use Rattle.faults.specs.declared.Fault.{Fault as FaultNamed}
use Rattle.faults.specs.declared.Fault.TheVariants.{NotAccepted}
use Rattle.records.specs.Results.{written}
use Rattle.convert.specs.Results.{scheme_result, cells_result}
use Rattle.scheme_bytes.specs.Write.{write_scheme}
use Rattle.matrix_bytes.specs.Write.{write_matrix_by_head}
use Rattle.matrix_bytes.proofs.RoundTrips.{head_passes}
use Rattle.conversion.specs.Conversion.{conversion_fault, convertible, convert_scheme, convert_cells, convert_matrix}
use Rattle.conversion.specs.Promises.{Converts}
use Rattle.conversion.proofs.Lists.{few_rights}
use Rattle.convert.specs.Convert.{scheme_fault, matrix_fault, converted_by, converted_scheme, cells_by, converted_cells, written_by}
use Rattle.convert.specs.Convert.{convert_scheme_into, convert_matrix_into}
use Rattle.convert.specs.Inner.Parts.{convert_head}
use Rattle.convert.proofs.SchemeLaws.{head_converted}

-- ---- a scheme where it lies
converts_if : (s : Scheme) → conversion_fault s ≡ none → T (convertible s)
unfolding convertible passes
converts_if s e = rw e tt

-- from what the check gave back to the fault that was checked
fine_back : (f : Fault) → Ok tt ≡ as_checked f → f ≡ none
fine_back none e = refl
fine_back (some k) e = constructors_differ (cc)

pub convertible_if : (s : Scheme) → Ok tt ≡ as_checked (conversion_fault s) → T (convertible s)
convertible_if s e = converts_if s (fine_back (conversion_fault s) e)

module _ {x : FaultNamed} where
  scheme_stops : (s : Scheme) (f : Fault) → Err x ≡ as_checked f →
      ◌≡◌ {A = Result (Unit {0}) FaultNamed × Scheme} (Err x, s) (scheme_result (converted_by s f))
  scheme_stops s none e = constructors_differ (cc)
  scheme_stops s (some k) e = let g : x ≡ fault_of k = cc in rw g

  cells_stop : (s : Scheme) (m : Matrix) (f : Fault) → Err x ≡ as_checked f →
      ◌≡◌ {A = Result (Unit {0}) FaultNamed × List ℕ} (Err x, m.cells) (cells_result (cells_by s m f))
  cells_stop s m none e = constructors_differ (cc)
  cells_stop s m (some k) e = let g : x ≡ fault_of k = cc in rw g

module _ (s : Scheme) where
  abbrev Left : Result (Unit {0}) FaultNamed → Scheme → Type 0
  Left r now = ◌≡◌ {A = Result (Unit {0}) FaultNamed × Scheme} (r, now) (scheme_result (converted_scheme s))

  pub scheme_27 : accepted_scheme s ≡ false → Left (Err NotAccepted) s
  unfolding converted_scheme scheme_fault fault_of
  scheme_27 e = rw e

  module _ (a : accepted_scheme s ≡ true) where
    pub scheme_refused : {x : FaultNamed} → Err x ≡ as_checked (conversion_fault s) → Left (Err x) s
    unfolding converted_scheme scheme_fault
    scheme_refused e = rw a (scheme_stops s (conversion_fault s) e)

    pub scheme_done : Ok tt ≡ as_checked (conversion_fault s) → (now : Scheme) → now ≡ convert_scheme s → Left (Ok tt) now
    unfolding converted_scheme scheme_fault
    scheme_done e now f = rw (a, fine_back (conversion_fault s) e, f)

-- ---- the cells of a matrix
module _ (s : Scheme) (m : Matrix) where
  abbrev Stored : Result (Unit {0}) FaultNamed → List ℕ → Type 0
  Stored r cells = ◌≡◌ {A = Result (Unit {0}) FaultNamed × List ℕ} (r, cells) (cells_result (converted_cells s m))

  pub cells_27 : accepted_scheme s && accepted_matrix s.head m ≡ false → Stored (Err NotAccepted) m.cells
  unfolding converted_cells matrix_fault fault_of
  cells_27 e = rw e

  module _ (a : accepted_scheme s ≡ true) (b : accepted_matrix s.head m ≡ true) where
    pub cells_refused : {x : FaultNamed} → Err x ≡ as_checked (conversion_fault s) → Stored (Err x) m.cells
    unfolding converted_cells matrix_fault
    cells_refused e = rw (a, b) (cells_stop s m (conversion_fault s) e)

    pub cells_done : Ok tt ≡ as_checked (conversion_fault s) → (cells : List ℕ) → cells ≡ convert_cells s.head m.things 0 m.cells → Stored (Ok tt) cells
    unfolding converted_cells matrix_fault convert_matrix
    cells_done e cells f = rw (a, b, fine_back (conversion_fault s) e, f)

-- ---- what a call tells of the fault, and a fault of what was checked
by_refused : (out bytes : List ℕ) (s : Scheme) (f : Fault) {x : FaultNamed} → Err x ≡ (scheme_result (converted_by s f)).0 →
    ◌≡◌ {A = Result ℕ FaultNamed × List ℕ} (Err x, out) (written (written_by out bytes f))
by_refused out bytes s none e = constructors_differ (cc)
by_refused out bytes s (some k) {x} e = let g : x ≡ fault_of k = cc in rw g

by_done : (s : Scheme) (f : Fault) → Ok tt ≡ (scheme_result (converted_by s f)).0 → f ≡ none
by_done s none e = refl
by_done s (some k) e = constructors_differ (cc)

cells_by_refused : (out bytes : List ℕ) (s : Scheme) (m : Matrix) (f : Fault) {x : FaultNamed} → Err x ≡ (cells_result (cells_by s m f)).0 →
    ◌≡◌ {A = Result ℕ FaultNamed × List ℕ} (Err x, out) (written (written_by out bytes f))
cells_by_refused out bytes s m none e = constructors_differ (cc)
cells_by_refused out bytes s m (some k) {x} e = let g : x ≡ fault_of k = cc in rw g

cells_by_done : (s : Scheme) (m : Matrix) (f : Fault) → Ok tt ≡ (cells_result (cells_by s m f)).0 → f ≡ none
cells_by_done s m none e = refl
cells_by_done s m (some k) e = constructors_differ (cc)

past_27 : (b : Bool) (f : Fault) → cond b f (some 27) ≡ none → (b ≡ true) × (f ≡ none)
past_27 true f e = (refl, e)
past_27 false f e = constructors_differ (cc)

-- ---- as bytes
module _ (out : List ℕ) (s : Scheme) where
  scheme_written : Converts → scheme_fault s ≡ none → write_scheme out (convert_scheme s) ≡ convert_scheme_into out s
  unfolding write_scheme convert_scheme_into scheme_fault
  scheme_written converts f =
      let (a, b) = past_27 (accepted_scheme s) (conversion_fault s) f in
      rw (is_true (accepted_scheme (convert_scheme s)) (converts.scheme s (from_true a) (converts_if s b)).0, f)

  -- the call on a copy of the scheme
  module _ {a : Result (Unit {0}) FaultNamed} {now : Scheme}
      (told : ◌≡◌ {A = Result (Unit {0}) FaultNamed × Scheme} (a, now) (scheme_result (converted_scheme s))) where
    scheme_answer : a ≡ (scheme_result (converted_scheme s)).0
    scheme_answer = ap (λ (x : Result (Unit {0}) FaultNamed × Scheme). x.0) told

    pub bytes_refused : {x : FaultNamed} → a ≡ Err x → ◌≡◌ {A = Result ℕ FaultNamed × List ℕ} (Err x, out) (written (convert_scheme_into out s))
    unfolding converted_scheme convert_scheme_into
    bytes_refused f = by_refused out _ s (scheme_fault s) (sym f ∙ scheme_answer)

    no_scheme_fault : a ≡ Ok tt → scheme_fault s ≡ none
    unfolding converted_scheme
    no_scheme_fault f = by_done s (scheme_fault s) (sym f ∙ scheme_answer)

    now_is : scheme_fault s ≡ none → now ≡ convert_scheme s
    unfolding converted_scheme
    now_is f = ap (λ (x : Result (Unit {0}) FaultNamed × Scheme). x.1) told ∙ rw f

    pub bytes_done : Converts → a ≡ Ok tt → (w : Result ℕ FaultNamed × List ℕ) → w ≡ written (write_scheme out now) →
        w ≡ written (convert_scheme_into out s)
    bytes_done converts f w g =
        let h = no_scheme_fault f in
        g ∙ ap (λ (x : Scheme). written (write_scheme out x)) (now_is h) ∙ ap written (scheme_written converts h)

module _ (out : List ℕ) (s : Scheme) (m : Matrix) where
  pub matrix_27 : (length m.cells ≡ 2304 → ⊥) → ◌≡◌ {A = Result ℕ FaultNamed × List ℕ} (Err NotAccepted, out) (written (convert_matrix_into out s m))
  unfolding convert_matrix_into matrix_fault fault_of
  matrix_27 h = rw (is_false (accepted_matrix s.head m) (λ t. h (held s.head m t).cells.room), and-false)

-- the call on a copy of the cells
module _ (s : Scheme) (m : Matrix) (copy : List ℕ) (same : copy ≡ m.cells) {a : Result (Unit {0}) FaultNamed} {cells : List ℕ}
    (told : ◌≡◌ {A = Result (Unit {0}) FaultNamed × List ℕ} (a, cells) (cells_result (converted_cells s (record { things = m.things; cells = copy })))) where
  e : ◌≡◌ {A = Result (Unit {0}) FaultNamed × List ℕ} (a, cells) (cells_result (converted_cells s m))
  e = told ∙ rw same

  answer : a ≡ (cells_result (converted_cells s m)).0
  answer = ap (λ (x : Result (Unit {0}) FaultNamed × List ℕ). x.0) e

  no_matrix_fault : a ≡ Ok tt → matrix_fault s m ≡ none
  unfolding converted_cells
  no_matrix_fault f = cells_by_done s m (matrix_fault s m) (sym f ∙ answer)

  cells_are : matrix_fault s m ≡ none → cells ≡ (convert_matrix s.head m).cells
  unfolding converted_cells
  cells_are f = ap (λ (x : Result (Unit {0}) FaultNamed × List ℕ). x.1) e ∙ rw f

  all_passed : matrix_fault s m ≡ none → T (accepted_scheme s) × T (accepted_matrix s.head m) × (conversion_fault s ≡ none)
  unfolding matrix_fault
  all_passed f =
      let (b, g) = past_27 (accepted_scheme s && accepted_matrix s.head m) (conversion_fault s) f in
      let t = from_true b in
      (and_left (accepted_scheme s) _ t, and_right (accepted_scheme s) _ t, g)

  pub rights_few : a ≡ Ok tt → s.head.rights ≤ 32
  rights_few g = few_rights s (converts_if s (all_passed (no_matrix_fault g)).2)

  module _ (out : List ℕ) where
    pub matrix_refused : {x : FaultNamed} → a ≡ Err x → ◌≡◌ {A = Result ℕ FaultNamed × List ℕ} (Err x, out) (written (convert_matrix_into out s m))
    unfolding converted_cells convert_matrix_into
    matrix_refused f = cells_by_refused out _ s m (matrix_fault s m) (sym f ∙ answer)

    module _ (converts : Converts) where
      matrix_written : matrix_fault s m ≡ none → write_matrix_by_head out (convert_scheme s).head (convert_matrix s.head m) ≡ convert_matrix_into out s m
      unfolding write_matrix_by_head convert_matrix_into
      matrix_written f =
          let (t, u, g) = all_passed f in
          let v = converts_if s g in
          rw (
            is_true (passes (head_fault (convert_scheme s).head)) (head_passes (convert_scheme s) (converts.scheme s t v).0),
            is_true (accepted_matrix (convert_scheme s).head (convert_matrix s.head m)) (converts.matrix s m t v u),
            f,
          )

      pub matrix_done : a ≡ Ok tt → (h : Head) → h ≡ convert_head s.head → (w : Result ℕ FaultNamed × List ℕ) →
          w ≡ written (write_matrix_by_head out h (record { things = m.things; cells = cells })) → w ≡ written (convert_matrix_into out s m)
      unfolding convert_matrix
      matrix_done g h d w is =
          let f = no_matrix_fault g in
          let x = d ∙ head_converted s (all_passed f).0 in
          let y = cells_are f in
          is ∙ ap written (rw (x, y) (matrix_written f))
