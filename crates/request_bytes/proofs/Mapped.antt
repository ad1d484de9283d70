-- From what `map_err` gave back to what it was given.
-- Assumes nothing.
use mathlib.Core.Path.{◌≡◌, refl, ap, subst}
use Rattle.std.specs.Prelude.{Result, Ok, Err, MatchResult}
use Rattle.std.specs.Result.{IsErrAnd}
use Rattle.laws.proofs.Differ.{constructors_differ}

module _ {T D E : Type 0} where
  pub erred : (P : E → D → Type 0) (r : Result T E) {m : Result T D} → MatchResult r (λ x. m ≡ Ok x) (λ e. IsErrAnd m (P e)) →
      {d : D} → m ≡ Err d → (e : E) × (r ≡ Err e) × P e d
  erred P (Ok x) h f = constructors_differ (cc)
  erred P (Err e) h {d} f = (e, refl, subst (λ (m : Result T D). IsErrAnd m (P e)) f h)

  pub passed : (P : E → D → Type 0) (r : Result T E) {m : Result T D} → MatchResult r (λ x. m ≡ Ok x) (λ e. IsErrAnd m (P e)) →
      {x : T} → m ≡ Ok x → r ≡ Ok x
  passed P (Ok y) h {x} f = let g : y ≡ x = cc in ap Ok g
  passed P (Err e) h f = absurd (subst (λ (m : Result T D). IsErrAnd m (P e)) f h)
