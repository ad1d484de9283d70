-- How the reading of a list goes on and how it ends, for whoever goes through a list request by request: what is read and what is left are the whole.
-- Assumes nothing.
use Prim.Native.Nat.{ℕ, zero, suc, ◌+◌, ◌≤◌, ◌<◌}
use native.Mathlib.Omega.{arith}
use native.Mathlib.Decide.{dec_lt}
use mathlib.Core.Path.{◌≡◌, refl, sym, ap, ◌∙◌}
use mathlib.Core.List.{List, [], ◌∷◌}
use lib.ListN.{length}
use Rattle.std.specs.Prelude.{Ok, Err, None}
use Rattle.records.specs.declared.Refused.{Refused as Refusal}
use Rattle.records.specs.Outcome.Reading.{Reading}
use Rattle.records.specs.Outcome.Reading as reading
use Rattle.request_bytes.specs.Read.{read_request}
use Rattle.request_bytes.specs.declared.Request.{Request as Form}
use Rattle.request_bytes.specs.Outcome.RequestAnswer.{RequestAnswer}
use Rattle.request_bytes.specs.Outcome.RequestReading.{RequestReading}
use Rattle.request_bytes.specs.Outcome.RequestReading.{Done, End, Refused}
use Rattle.request_bytes.specs.Results.{skip_result}
use Rattle.request_bytes.proofs.Laws.{read_end}
use Rattle.request_bytes.proofs.Answered.{taken}
use Rattle.request_list.specs.List.{Listed, asked, on_answer, read_from, read_list}
use Rattle.laws.proofs.Differ.{constructors_differ}

-- ---- one request of it

abbrev pub ended : Reading → Listed
ended e = record { requests = []; ending = e }

-- how a list ends by the reading at a position that gave no further request
abbrev pub end_of : ℕ → RequestReading → Reading
end_of p (Done next) = reading.Done next
end_of p End = reading.Done p
end_of p (Refused k q) = reading.Refused k q

-- a reading that gave no request
abbrev pub Stops : RequestReading → Type 0
Stops r = (next : ℕ) → r ≡ Done next → ⊥

-- the rest of a list, behind a request
abbrev pub behind : Form → Listed → Listed
behind q rest = record { requests = asked q ∷ rest.requests; ending = rest.ending }

pub from_end : (fuel : ℕ) (bytes : List ℕ) (p : ℕ) → p ≡ length bytes → read_from fuel bytes p ≡ ended (reading.Done p)
unfolding read_from
from_end zero bytes p e = refl
from_end (suc fuel) bytes p e = rw (← read_end bytes p e)

module _ (fuel : ℕ) (bytes : List ℕ) (p : ℕ) (a : RequestAnswer) (is : a ≡ read_request bytes p) where
  answered : read_from (suc fuel) bytes p ≡ on_answer p a.request (read_from fuel bytes) a.answer
  unfolding read_from
  answered = ap (λ (x : RequestAnswer). on_answer p x.request (read_from fuel bytes) x.answer) (sym is)

  pub from_on : (next : ℕ) → a.answer ≡ Done next → read_from (suc fuel) bytes p ≡ behind a.request (read_from fuel bytes next)
  from_on next e = answered ∙ ap (on_answer p a.request (read_from fuel bytes)) e

  pub from_stop : (r : RequestReading) → r ≡ a.answer → Stops r → read_from (suc fuel) bytes p ≡ ended (end_of p r)
  from_stop (Done next) e h = absurd (h next refl)
  from_stop End e h = answered ∙ ap (on_answer p a.request (read_from fuel bytes)) (sym e)
  from_stop (Refused k q) e h = answered ∙ ap (on_answer p a.request (read_from fuel bytes)) (sym e)

-- ---- how many there are

few_from : (fuel : ℕ) (bytes : List ℕ) (p : ℕ) → length (read_from fuel bytes p).requests ≤ fuel
unfolding read_from
few_from zero bytes p = omega arith
few_from (suc fuel) bytes p = go (read_request bytes p).answer (few_from fuel bytes)
  where
    go : (r : RequestReading) → ((q : ℕ) → length (read_from fuel bytes q).requests ≤ fuel)
        → length (on_answer p (read_request bytes p).request (read_from fuel bytes) r).requests ≤ suc fuel
    go (Done next) h = omega (arith, h next)
    go End h = omega arith
    go (Refused k q) h = omega arith

pub few_requests : (bytes : List ℕ) → length (read_list bytes).requests ≤ length bytes
unfolding read_list
few_requests bytes = few_from (length bytes) bytes 0

-- ---- what is left of the list at a position, with so many requests before it

pub record Counting (bytes : List ℕ) (n p : ℕ) (l : Listed) : Type 0 where
  pub fuel : ℕ
  pub enough : length bytes ≤ p + fuel
  pub inside : p ≤ length bytes
  pub few : n ≤ p
  pub is : read_from fuel bytes p ≡ l
  pub total : length (read_list bytes).requests ≡ n + length l.requests

pub counting_start : (bytes : List ℕ) → Counting bytes 0 0 (read_list bytes)
unfolding read_list
counting_start bytes = record { fuel = length bytes; enough = omega arith; inside = omega arith; few = omega arith; is = refl; total = omega arith }

module _ {bytes : List ℕ} {n p : ℕ} {l : Listed} (c : Counting bytes n p l) where
  pub counting_none : length bytes ≤ p → l ≡ ended (reading.Done p)
  counting_none h = let i = c.inside in sym c.is ∙ from_end c.fuel bytes p (omega arith)

  module _ (more : p < length bytes) (a : RequestAnswer) (is : a ≡ read_request bytes p) where
    opened : (fuel : ℕ) → length bytes ≤ p + fuel → read_from fuel bytes p ≡ l → (less : ℕ) × (length bytes ≤ p + suc less) × (read_from (suc less) bytes p ≡ l)
    opened zero h e = absurd (omega arith)
    opened (suc fuel) h e = (fuel, h, e)

    pub counting_stop : (r : RequestReading) → r ≡ a.answer → Stops r → l ≡ ended (end_of p r)
    counting_stop r e h = let (fuel, m, f) = opened c.fuel c.enough c.is in sym f ∙ from_stop fuel bytes p a is r e h

    pub counting_on : (next : ℕ) → a.answer ≡ Done next → (rest : Listed) × Counting bytes (n + 1) next rest × (l ≡ behind a.request rest)
    counting_on next e =
        let (fuel, m, f) = opened c.fuel c.enough c.is in
        let rest : Listed = read_from fuel bytes next in
        let t = taken bytes p a is next e in
        let o : l ≡ behind a.request rest = sym f ∙ from_on fuel bytes p a is next e in
        let s : length l.requests ≡ suc (length rest.requests) = ap (λ (x : Listed). length x.requests) o in
        let z = c.total in
        let few = c.few in
        (rest, record { fuel = fuel; enough = omega arith; inside = t.inside; few = omega arith; is = refl; total = omega arith }, o)

  counted : (e : Reading) → l ≡ ended e → n ≡ length (read_list bytes).requests
  counted e o = let z : length l.requests ≡ 0 = ap (λ (x : Listed). length x.requests) o in let t = c.total in omega arith

  -- however the reading of the next request ended, if it gave none
  counted_out : (r : RequestReading) → r ≡ (read_request bytes p).answer → Stops r → n ≡ length (read_list bytes).requests
  counted_out r e h = by (dec_lt p (length bytes))
    where
      by : Dec (p < length bytes) → n ≡ length (read_list bytes).requests
      by (yes more) = counted _ (counting_stop more _ refl r e h)
      by (no none) = counted _ (counting_none (omega (arith, none)))

  pub counted_none : skip_result (read_request bytes p).answer ≡ Ok None → n ≡ length (read_list bytes).requests
  counted_none e = counted_out _ refl (λ next f. let g : skip_result (Done next) ≡ Ok None = rw f at e in constructors_differ (cc))

  pub counted_err : {f : Refusal} → skip_result (read_request bytes p).answer ≡ Err f → n ≡ length (read_list bytes).requests
  counted_err {f} e = counted_out _ refl (λ next d. let g : skip_result (Done next) ≡ Err f = rw d at e in constructors_differ (cc))
