-- Every refusal of a request has a number from 10 to 18: none of its checks gives another.
-- Assumes nothing.
use Prim.Native.Nat.{ℕ}
use mathlib.Core.Option.{none, some}
use lib.Dec.{T}
use Rattle.laws.specs.Check.{between}
use Rattle.model.specs.Scheme.{parameters_of, operations_of}
use Rattle.model.specs.Request.{Answer, answer, step}
use Rattle.model.specs.Promises.{tells_request, RequestNumbers}
use Rattle.model.specs.declared.Refusal.{Refusal}
use Rattle.model.proofs.Refusals.{IfRefused, EveryOperation, EarlyRefusals, operations_give, request_gives}

abbrev Numbered : Refusal → Type 0
Numbered r = T (between 10 18 r.number)

early : EarlyRefusals Numbered
unfolding between
early = record { no_command = tt; other_count = tt; places = record { no_thing = tt; other_type = tt; on_hold = tt } }

late : (p : ℕ) → EveryOperation Numbered p
unfolding between
late p = record { may_not = tt; is_full = tt; is_gone = tt }

pub request_numbers : RequestNumbers
request_numbers M view s m q =
    go (answer (step view s m q)) (request_gives Numbered view early s m q (λ c is. record {
      test = λ k first. unfold between in tt;
      operation = operations_give Numbered view late (parameters_of c.parameters) q.ids 0 (operations_of c.operations) m;
    }))
  where
    go : (a : Answer) → IfRefused Numbered a → T (tells_request a)
    go none h = unfold tells_request in tt
    go (some r) h = unfold tells_request in unfold IfRefused in h
