-- A list of requests, carried out one by one: what is done and what is left are the whole. The running matrix, the replies' buffer and the
-- position are variables, so that a function's proof names few places of its context. Assumes nothing.
use Prim.Native.Nat.{ℕ, suc, ◌+◌, ◌*◌, ◌≤◌, ◌<◌}
use native.Mathlib.Omega.{arith}
use native.Mathlib.Nat.{zero-add, add-zero}
use mathlib.Core.Path.{◌≡◌, refl, sym, ap, ◌∙◌}
use mathlib.Core.Bool.{Bool, true, false, ◌&&◌}
use mathlib.Core.List.{List, [], ◌∷◌, ◌++◌, append-nil, append_assoc}
use lib.Dec.{T}
use lib.ListN.{length, length-append}
use lib.Seq.{sets, length-sets}
use borrow.Author.Tests.{le-leb, lt-leb}
use Rattle.model.specs.Answers.{reply_to, reply_each, reply_width, reply_bytes, replies_in}
use Rattle.model.specs.Request.{Request, View, answer, after, step, run, answers}
use Rattle.model.specs.Seats.{Matrix, matrix_of, seats}
use Rattle.model.specs.Accepted.{accepted_scheme, accepted_matrix}
use Rattle.model.specs.declared.Reply.{Reply}
use Rattle.model.specs.declared.Scheme.{Scheme}
use Rattle.model.proofs.Joined.{kept}
use Rattle.model.proofs.ReplyLaws.{replies_back}
use Rattle.records.specs.Bytes.{each_bytes}
use Rattle.records.specs.Outcome.Reading.{Reading}
use Rattle.records.proofs.BytesLaws.{sets_append}
use Rattle.records.proofs.PlacedLaws.{placed_sets}
use Rattle.request_bytes.specs.Read.{ids_of, read_request}
use Rattle.request_bytes.specs.declared.Request.{Request as Form}
use Rattle.request_bytes.specs.Outcome.RequestReading.{RequestReading}
use Rattle.request_bytes.specs.Outcome.RequestReading as request_reading
use Rattle.request_bytes.specs.Outcome.RequestAnswer.{RequestAnswer}
use Rattle.request_list.specs.List.{Listed, asked, read_list}
use Rattle.request_list.proofs.ListLaws.{ended, end_of, Stops, Counting, counting_start, counting_none, counting_stop, counting_on}
use Rattle.engine.specs.List.{run_answer, replies_to, Result as Run, run_on, run_quietly}
use Rattle.engine.specs.Inner.Carry.{step_on}
use Rattle.engine.specs.Inner.Run.{ended_by, ran_on}
use Rattle.std.specs.Prelude.{None, Some, Ok, Err}
use Rattle.records.specs.declared.Refused.{Refused}
use Rattle.request_bytes.specs.Results.{skip_result}
use Rattle.request_bytes.proofs.Answered.{read_ended}
use Rattle.request_bytes.proofs.ResultLaws.{none_back, refusal_back}
use Rattle.request_bytes.proofs.Laws.{read_end}
use native.Mathlib.Decide.{dec_lt}
use Rattle.laws.proofs.Differ.{constructors_differ}
use Rattle.faults.specs.Numbers.{fault_of}
use Rattle.faults.specs.declared.Fault.TheVariants.{NotAccepted, NoRoom}
use Rattle.engine.specs.Answers.{Stepped, RunAnswer}
use Rattle.engine.specs.Given.{Given, Quiet, ended_as, gives, gives_quietly}
use Rattle.engine.specs.declared.answers.Ended.{Ended}

-- ---- the replies: how long they are, and what they read as

pub reply_long : (r : Reply) → length (reply_bytes r) ≡ reply_width
unfolding reply_bytes
reply_long r = refl

pub replies_length : (list : List Reply) → length (each_bytes reply_bytes list) ≡ reply_width * length list
replies_length [] = refl
replies_length (r ∷ rest) = length-append (reply_bytes r) _ ∙ omega (arith, reply_long r, replies_length rest)

-- a reply to each of them
pub replies_many : {M : Type 0} (view : View M) (s : Scheme) (m : M) (qs : List Request) → length (reply_each s qs (answers view s m qs)) ≡ length qs
unfolding answers reply_each
replies_many view s m [] = refl
replies_many view s m (q ∷ qs) = ap suc (replies_many view s (after m (step view s m q)) qs)

replies_long : (s : Scheme) (m : Matrix) (qs : List Request) → length (replies_to s m qs) ≡ reply_width * length qs
replies_long s m qs = omega (arith, replies_length (reply_each s qs (answers seats s m qs)), replies_many seats s m qs)

-- they read as these replies, and what is behind them
pub replies_stored : (list : List Reply) (more : List ℕ) → replies_in (each_bytes reply_bytes list ++ more) ≡ list ++ replies_in more
replies_stored [] more = refl
replies_stored (r ∷ list) more = rw (append_assoc, replies_back r (each_bytes reply_bytes list ++ more), replies_stored list more)

-- ---- what the step of a request that was read gives

-- the reply and the matrix left are the step's
pub record Turned (s : Scheme) (m : Matrix) (q : Form) (y : Reply) (next : Matrix) : Type 0 where
  pub said : y ≡ reply_to s (asked q) (answer (step seats s m (asked q)))
  pub left : next ≡ after m (step seats s m (asked q))

pub turned : (s : Scheme) (m : Matrix) (q : Form) (y : Reply) (next : Matrix) →
    ◌≡◌ {A = Stepped × List ℕ} (record { answer = y; things = next.things }, next.cells) (step_on s m q.command (ids_of q)) → Turned s m q y next
turned s m q y next e = record {
  said = ap (λ (x : Stepped × List ℕ). x.0.answer) e;
  left = ap (λ (x : Stepped × List ℕ). matrix_of x.0.things x.1) e;
}

-- ---- the requests done and the requests left are the whole

pub record Running (s : Scheme) (first : Matrix) (bytes buffer : List ℕ) (m : Matrix) (out : List ℕ) (n p : ℕ) : Type 0 where
  pub left : Listed
  pub counting : Counting bytes n p left
  pub said : List ℕ
  pub long : length said ≡ n * reply_width
  pub ending : (read_list bytes).ending ≡ left.ending
  pub ran : run seats s first (read_list bytes).requests ≡ run seats s m left.requests
  pub told : replies_to s first (read_list bytes).requests ≡ said ++ replies_to s m left.requests
  pub stored : out ≡ sets buffer 0 said
  pub held : T (accepted_matrix s.head m)

pub running_start : (s : Scheme) (m : Matrix) (bytes out : List ℕ) → T (accepted_matrix s.head m) → Running s m bytes out m out 0 0
running_start s m bytes out of = record {
  left = read_list bytes;
  counting = counting_start bytes;
  said = [];
  long = refl;
  ending = refl;
  ran = refl;
  told = refl;
  stored = refl;
  held = of;
}

ended_same : (n p : ℕ) (r : RequestReading) → ended_by n r ≡ run_answer n (end_of p r)
ended_same n p (request_reading.Done next) = refl
ended_same n p request_reading.End = refl
ended_same n p (request_reading.Refused k q) = refl

module _ {s : Scheme} {first : Matrix} {bytes buffer : List ℕ} {m : Matrix} {out : List ℕ} {n p : ℕ}
    (r : Running s first bytes buffer m out n p) where
  pub same_room : length out ≡ length buffer
  same_room = ap length r.stored ∙ length-sets buffer 0 r.said

  pub running_on : T (accepted_scheme s) → p < length bytes → (a : RequestAnswer) → a ≡ read_request bytes p
      → (next : ℕ) → a.answer ≡ request_reading.Done next → (y : Reply) (now : Matrix) → Turned s m a.request y now
      → (out' : List ℕ) → out' ≡ sets out (n * reply_width) (reply_bytes y) → Running s first bytes buffer now out' (n + 1) next
  unfolding run answers reply_each
  running_on ok more a is next on y now t out' put =
      let (rest, c, l) = counting_on r.counting more a is next on in
      let qs : r.left.requests ≡ asked a.request ∷ rest.requests = ap (λ (x : Listed). x.requests) l in
      record {
        left = rest;
        counting = c;
        said = r.said ++ reply_bytes y;
        long = length-append r.said (reply_bytes y) ∙ omega (arith, r.long, reply_long y);
        ending = r.ending ∙ ap (λ (x : Listed). x.ending) l;
        ran = rw t.left (rw qs at r.ran);
        told = rw (t.left, append_assoc, t.said) (rw qs at r.told);
        stored = rw (sets_append, zero-add, r.long, ← r.stored) put;
        held = rw t.left (kept s m (asked a.request) ok r.held);
      }

  abbrev result : RunAnswer → Run
  result answer = record { ran = record { answer = answer; things = m.things }; cells = m.cells; replies = out }

  finish : (e : Reading) → r.left ≡ ended e → result (run_answer n e) ≡ ran_on s first bytes buffer
  unfolding ran_on run answers reply_each
  finish e l =
      let qs : r.left.requests ≡ [] = ap (λ (x : Listed). x.requests) l in
      let long : length (read_list bytes).requests ≡ n = r.counting.total ∙ rw (qs, add-zero) in
      let ending : (read_list bytes).ending ≡ e = r.ending ∙ ap (λ (x : Listed). x.ending) l in
      let ran : run seats s first (read_list bytes).requests ≡ m = rw qs at r.ran in
      let told : replies_to s first (read_list bytes).requests ≡ r.said = (rw qs at r.told) ∙ append-nil r.said in
      rw (long, ending, ran, told, ← r.stored)

  run_none : length bytes ≤ p
      → ◌≡◌ {A = Given} (Ok (record { count = n; cut = None }), m.things, m.cells, out) (gives (ran_on s first bytes buffer))
  run_none h = ap gives (finish _ (counting_none r.counting h))

  run_stop : p < length bytes → (a : RequestAnswer) → a ≡ read_request bytes p → Stops a.answer
      → (now : Ended) → Ok now ≡ ended_as (ended_by n a.answer)
      → ◌≡◌ {A = Given} (Ok now, m.things, m.cells, out) (gives (ran_on s first bytes buffer))
  run_stop more a is h now e = rw (e, ended_same n p a.answer) (ap gives (finish _ (counting_stop r.counting more a is a.answer refl h)))

  -- a reading that gave no further request: the list has ended, or a record ends it that can't be read
  pub run_end : skip_result (read_request bytes p).answer ≡ Ok None
      → ◌≡◌ {A = Given} (Ok (record { count = n; cut = None }), m.things, m.cells, out) (gives (ran_on s first bytes buffer))
  run_end e = let f : p ≡ length bytes = read_ended bytes p (none_back _ e) in run_none (omega arith)

  pub run_cut : p ≤ length bytes → (x : Refused) → skip_result (read_request bytes p).answer ≡ Err x
      → ◌≡◌ {A = Given} (Ok (record { count = n; cut = Some x }), m.things, m.cells, out) (gives (ran_on s first bytes buffer))
  run_cut near x e =
      let (k, at, f, g) = refusal_back _ e in
      run_stop (more k at f) (read_request bytes p) refl (λ next h. let d : request_reading.Refused k at ≡ request_reading.Done next = sym f ∙ h in constructors_differ (cc)) _
      (ap (λ (y : Refused). Ok (record { count = n; cut = Some y })) g ∙ sym (ap (λ (a : RequestReading). ended_as (ended_by n a)) f))
    where
      more : (k at : ℕ) → (read_request bytes p).answer ≡ request_reading.Refused k at → p < length bytes
      more k at f = by (dec_lt p (length bytes))
        where
          by : Dec (p < length bytes) → p < length bytes
          by (yes h) = h
          by (no h) =
              let q : p ≡ length bytes = omega (arith, h) in
              let d : request_reading.End ≡ request_reading.Refused k at = ap (λ (a : RequestAnswer). a.answer) (read_end bytes p q) ∙ f in
              constructors_differ (cc)

-- ---- a list as a whole: what refuses it, and what is told of it where nothing does

module _ (s : Scheme) (m : Matrix) (bytes : List ℕ) where
  abbrev accepted : Bool
  accepted = accepted_scheme s && accepted_matrix s.head m

  module _ (e : accepted ≡ false) where
    pub list_27 : (out : List ℕ) → ◌≡◌ {A = Given} (Err NotAccepted, m.things, m.cells, out) (gives (run_on s m bytes out))
    unfolding run_on fault_of
    list_27 out = rw e

    pub quiet_27 : ◌≡◌ {A = Quiet} (Err NotAccepted, m.things, m.cells) (gives_quietly (run_quietly s m bytes))
    unfolding run_quietly fault_of
    quiet_27 = rw e

  module _ (e : accepted ≡ true) (out : List ℕ) where
    pub list_9 : length out < reply_width * length (read_list bytes).requests
        → ◌≡◌ {A = Given} (Err NoRoom, m.things, m.cells, out) (gives (run_on s m bytes out))
    unfolding run_on fault_of
    list_9 h = rw (e, lt-leb _ _ h)

    module _ (now : Given) (f : now ≡ gives (ran_on s m bytes out)) where
      pub list_runs : reply_width * length (read_list bytes).requests ≤ length out → now ≡ gives (run_on s m bytes out)
      unfolding run_on ran_on
      list_runs h =
          let fits : 0 + length (replies_to s m (read_list bytes).requests) ≤ length out = omega (arith, replies_long s m (read_list bytes).requests) in
          rw (e, le-leb _ _ h, ← placed_sets out 0 (replies_to s m (read_list bytes).requests) fits) f

      pub quiet_runs : ◌≡◌ {A = Quiet} (now.0, now.1, now.2) (gives_quietly (run_quietly s m bytes))
      unfolding run_quietly ran_on
      quiet_runs = rw e (ap (λ (x : Given). (x.0, x.1, x.2)) f)
