-- A list of requests, printed one by one: what is left of it at each request; and how long it is at most. The buffer and the positions are variables,
-- so that a function's proof names few places of its context. Assumes nothing.
use Prim.Native.Nat.{ℕ, suc, ◌+◌, ◌*◌, ◌≤◌, ◌<◌}
use native.Mathlib.Decide.{dec_lt}
use native.Mathlib.Omega.{arith}
use native.Mathlib.Numerals.{add-one}
use mathlib.Core.Path.{◌≡◌, refl, sym, ap, ◌∙◌}
use mathlib.Core.List.{List, [], ◌∷◌, ◌++◌, append_assoc}
use lib.ListN.{length, take, drop, length-append}
use Rattle.std.specs.Prelude.{Ok, Err, None}
use Rattle.laws.proofs.Differ.{constructors_differ}
use Rattle.faults.specs.Numbers.{number_of}
use Rattle.faults.proofs.NumberLaws.{numbered}
use Rattle.model.specs.Answers.{reply_each, reply_width, replies_in}
use Rattle.model.specs.Request.{Request, answers}
use Rattle.model.specs.Seats.{Matrix, seats}
use Rattle.model.specs.declared.Reply.{Reply}
use Rattle.model.specs.declared.Scheme.{Scheme}
use Rattle.model.proofs.ReplyLaws.{reply_at, replies_first, replies_few}
use Rattle.records.specs.Outcome.Reading.{Reading}
use Rattle.records.specs.Outcome.Reading as reading
use Rattle.records.specs.Results.{refused}
use Rattle.records.specs.declared.Refused.{Refused as Refusal}
use Rattle.lines.specs.Put.{largest, put_text}
use Rattle.lines.proofs.PutLaws.{Left, left_all, left_on, left_last, left_none}
use Rattle.lines.proofs.LineLaws.{few_in_line}
use Rattle.request_bytes.specs.Read.{read_request}
use Rattle.request_bytes.specs.Results.{skip_result}
use Rattle.request_bytes.specs.Outcome.RequestAnswer.{RequestAnswer}
use Rattle.request_bytes.specs.Outcome.RequestReading.{Done, End, Refused}
use Rattle.request_bytes.proofs.Answered.{read_ended}
use Rattle.request_bytes.proofs.Laws.{read_end}
use Rattle.request_bytes.proofs.ResultLaws.{none_back, refusal_back}
use Rattle.request_list.specs.List.{asked, read_list, Listed}
use Rattle.printout.specs.Text.{bad_line, request_line, request_lines, ending_line}
use Rattle.printout.specs.Inner.Ending.{answer_line, list_text}
use Rattle.printout.specs.declared.text.Columns.{Columns}
use Rattle.printout.specs.declared.text.Columns.TheVariants.{ToTest, ToSteps}
use Rattle.request_list.proofs.ListLaws.{Counting, counting_start, counting_none, counting_stop, counting_on}

-- ---- how many, and how long

-- one bound for all columns: nobody needs a closer one
few_in_request : (columns : Columns) (k command : ℕ) (r : Reply) → length (request_line columns k command r) ≤ 105
few_in_request ToTest k command r = omega (arith, few_in_line (k ∷ command ∷ r.number ∷ r.test ∷ []))
few_in_request ToSteps k command r = few_in_line (k ∷ command ∷ r.number ∷ r.test ∷ r.steps ∷ [])

pub few_lines : (columns : Columns) (k : ℕ) (qs : List Request) (rs : List Reply) → length (request_lines columns k qs rs) ≤ 105 * length qs
unfolding request_lines
few_lines columns k [] rs = omega arith
few_lines columns k (q ∷ qs) [] = omega arith
few_lines columns k (q ∷ qs) (r ∷ rs) =
    let l = request_line columns k q.command r in
    omega (arith, length-append l (request_lines columns (suc k) qs rs), few_in_request columns k q.command r, few_lines columns (suc k) qs rs)

pub few_bad : (at k : ℕ) → length (bad_line at k) ≤ 46
unfolding bad_line
few_bad at k = omega (arith, few_in_line (at ∷ k ∷ []))

pub few_ending : (e : Reading) → length (ending_line e) ≤ 46
few_ending (reading.Done next) = omega arith
few_ending (reading.Refused k at) = few_bad at k

-- replies behind those to the requests are not printed
pub lines_more : (columns : Columns) (k : ℕ) (s : Scheme) (m : Matrix) (qs : List Request) (more : List Reply)
    → request_lines columns k qs (reply_each s qs (answers seats s m qs) ++ more) ≡ request_lines columns k qs (reply_each s qs (answers seats s m qs))
unfolding request_lines answers reply_each
lines_more columns k s m [] more = refl
lines_more columns k s m (q ∷ qs) more = rw (lines_more columns (suc k) s _ qs more)

-- ---- the line of a request, where there is a reply to it, and the first of those that are left

first_reply : (l : List ℕ) → reply_width ≤ length l → reply_at 0 (take reply_width l) ≡ reply_at 0 l
first_reply [] h = absurd (omega arith)
first_reply (k ∷ []) h = absurd (omega arith)
first_reply (k ∷ p ∷ []) h = absurd (omega arith)
first_reply (k ∷ p ∷ n ∷ rest) h = refl

module _ (columns : Columns) (k command : ℕ) (l : List ℕ) where
  pub has_line : reply_width ≤ length l → (first : List ℕ) → first ≡ take reply_width l
      → request_line columns k command (reply_at 0 first) ≡ answer_line columns k command (replies_in l)
  has_line h first e =
      ap (request_line columns k command) (ap (reply_at 0) e ∙ first_reply l h) ∙ sym (ap (answer_line columns k command) (replies_first l h))

  pub no_line : length l < reply_width → [] ≡ answer_line columns k command (replies_in l)
  no_line h = rw (replies_few l h)

pub none_behind : (l : List ℕ) → length l < reply_width → replies_in l ≡ drop 1 (replies_in l)
none_behind l h = rw (replies_few l h)

first_line : (columns : Columns) (k : ℕ) (q : Request) (qs : List Request) (rs : List Reply)
    → request_lines columns k (q ∷ qs) rs ≡ answer_line columns k q.command rs ++ request_lines columns (suc k) qs (drop 1 rs)
unfolding request_lines
first_line columns k q [] [] = refl
first_line columns k q (p ∷ qs) [] = refl
first_line columns k q qs (r ∷ rs) = refl

-- ---- the line of a refusal, said of the fault that tells its number

pub refusal_line : (k at : ℕ) {x : Refusal} → x ≡ refused k at → bad_line x.at (number_of x.fault) ≡ bad_line at k
refusal_line k at e = rw e (ap (bad_line at) (numbered k))

-- ---- what is left

pub record Printing (columns : Columns) (bytes replies out : List ℕ) (at : ℕ) (now : List ℕ) (n p to : ℕ) (behind : List ℕ) : Type 0 where
  pub rest : Listed
  pub counting : Counting bytes n p rest
  pub left : Left out at (list_text columns 0 (read_list bytes) (replies_in replies)) now to (list_text columns n rest (replies_in behind))

pub printing_start : (columns : Columns) (bytes replies out : List ℕ) (at : ℕ) → at ≤ largest → Printing columns bytes replies out at out 0 0 at replies
printing_start columns bytes replies out at h = record { rest = read_list bytes; counting = counting_start bytes; left = left_all out at _ h }

module _ {columns : Columns} {bytes replies out : List ℕ} {at : ℕ} {now : List ℕ} {n p to : ℕ} {behind : List ℕ}
    (i : Printing columns bytes replies out at now n p to behind) where
  abbrev leaves : Listed → List ℕ
  leaves l = list_text columns n l (replies_in behind)

  pub printing_end : skip_result (read_request bytes p).answer ≡ Ok None → (to, now) ≡ put_text out at (list_text columns 0 (read_list bytes) (replies_in replies))
  unfolding request_lines
  printing_end e =
      let f : p ≡ length bytes = read_ended bytes p (none_back _ e) in
      left_none i.left (ap leaves (counting_none i.counting (omega arith)))

  pub printing_cut : (x : Refusal) → skip_result (read_request bytes p).answer ≡ Err x → {q : ℕ} {new : List ℕ}
      → ◌≡◌ {A = ℕ × List ℕ} (q, new) (put_text now to (bad_line x.at (number_of x.fault)))
      → (q, new) ≡ put_text out at (list_text columns 0 (read_list bytes) (replies_in replies))
  unfolding request_lines
  printing_cut x e b =
      let (k, q, f, g) = refusal_back _ e in
      let stops = counting_stop i.counting (more k q f) (read_request bytes p) refl (Refused k q) (sym f) (λ next d. constructors_differ (cc)) in
      left_last i.left _ b (ap leaves stops ∙ sym (refusal_line k q g))
    where
      more : (k q : ℕ) → (read_request bytes p).answer ≡ Refused k q → p < length bytes
      more k q f = by (dec_lt p (length bytes))
        where
          by : Dec (p < length bytes) → p < length bytes
          by (yes h) = h
          by (no h) =
              let inside = i.counting.inside in
              let z : p ≡ length bytes = omega (arith, h) in
              let d : End ≡ Refused k q = ap (λ (a : RequestAnswer). a.answer) (read_end bytes p z) ∙ f in
              constructors_differ (cc)

  pub printing_on : p < length bytes → (a : RequestAnswer) → a ≡ read_request bytes p → (next : ℕ) → a.answer ≡ Done next → length out ≤ largest
      → {q : ℕ} {new : List ℕ} → ◌≡◌ {A = ℕ × List ℕ} (q, new) (put_text now to (answer_line columns n a.request.command (replies_in behind)))
      → {after : List ℕ} → replies_in after ≡ drop 1 (replies_in behind) → Printing columns bytes replies out at new (n + 1) next q after
  printing_on more a is next on h b w =
      let (rest, counting, o) = counting_on i.counting more a is next on in
      let f = first_line columns n (asked a.request) rest.requests (replies_in behind) in
      record { rest = rest; counting = counting; left = left_on i.left h _ _ b (ap leaves o ∙ rw (add-one, w, f, append_assoc)) }
