-- From what a function gave for a request back to what stands there.
-- Assumes nothing.
use Prim.Native.Nat.{ℕ}
use mathlib.Core.Path.{◌≡◌, refl, sym, ap, ◌∙◌}
use Rattle.std.specs.Prelude.{Result, Option, Ok, Err, Some, None}
use Rattle.records.specs.Results.{refused}
use Rattle.records.specs.declared.Refused.{Refused as Refusal}
use Rattle.request_bytes.specs.Outcome.RequestReading.{RequestReading}
use Rattle.request_bytes.specs.Outcome.RequestReading.{Done, End, Refused}
use Rattle.request_bytes.specs.Outcome.RequestAnswer.{RequestAnswer}
use Rattle.request_bytes.specs.Results.{skip_result, request_lent}
use Rattle.request_bytes.specs.declared.Request.{Request}
use Rattle.laws.proofs.Differ.{constructors_differ}

-- ---- where a reading ended
pub skip_back : (r : RequestReading) {next : ℕ} → skip_result r ≡ Ok (Some next) → r ≡ Done next
skip_back (Done n) {next} e = let f : n ≡ next = cc in ap Done f
skip_back End e = constructors_differ (cc)
skip_back (Refused k at) e = constructors_differ (cc)

pub none_back : (r : RequestReading) → skip_result r ≡ Ok None → r ≡ End
none_back (Done next) e = constructors_differ (cc)
none_back End e = refl
none_back (Refused k at) e = constructors_differ (cc)

pub refusal_back : (r : RequestReading) {f : Refusal} → skip_result r ≡ Err f → (k : ℕ) × (at : ℕ) × (r ≡ Refused k at) × (f ≡ refused k at)
refusal_back (Done next) e = constructors_differ (cc)
refusal_back End e = constructors_differ (cc)
refusal_back (Refused k at) {f} e = (k, at, refl, let g : refused k at ≡ f = cc in sym g)

-- ---- the same with the lent request
module _ (a : RequestAnswer) {r : Result (Option ℕ) Refusal} {q : Request} (e : (r, q) ≡ request_lent a) where
  pub ended_back : skip_result a.answer ≡ r
  ended_back = sym (ap (λ (x : Result (Option ℕ) Refusal × Request). x.0) e)

  pub request_back : {next : ℕ} → r ≡ Ok (Some next) → a ≡ record { answer = Done next; request = q }
  request_back {next} f =
      let on : a.answer ≡ Done next = skip_back a.answer (ended_back ∙ f) in
      let same : a.request ≡ q = sym (ap (λ (x : Result (Option ℕ) Refusal × Request). x.1) e) in
      rw (← on, ← same) refl
