-- A run of accepted ones, in memory and on paper: what it answers, what its replies tell, and what it leaves; and a run of just those requests that are
-- carried out. Assumes nothing.
use Prim.Native.Nat.{ℕ, ◌*◌, ◌≤◌}
use native.Mathlib.Nat.{zero-add}
use mathlib.Core.Path.{◌≡◌, refl, sym, ap, subst, ◌∙◌}
use mathlib.Core.Logic.{◌≢◌}
use mathlib.Core.Bool.{Bool, true, false, cond}
use mathlib.Core.Option.{none}
use mathlib.Core.List.{List, [], ◌++◌, append-nil}
use lib.Dec.{T, leb, le→leb}
use lib.ListN.{length, take, drop}
use lib.Seq.{take-length}
use Rattle.laws.specs.Check.{Each}
use Rattle.model.specs.Request.{Request, run, answers}
use Rattle.model.specs.Answers.{reply_to, reply_each, reply_width, reply_bytes}
use Rattle.model.specs.Papers.{papers}
use Rattle.model.specs.Seats.{Matrix, seats, stands_for}
use Rattle.model.specs.Accepted.{accepted_scheme, accepted_matrix}
use Rattle.model.specs.declared.Scheme.{Scheme}
use Rattle.laws.proofs.Bools.{is_true}
use Rattle.model.proofs.Joined.{run_joined, run_kept}
use Rattle.conversion.specs.Demand3.{obeyed}
use Rattle.records.specs.Bytes.{each_bytes}
use Rattle.records.specs.Writing.{placed}
use Rattle.records.specs.Outcome.Reading as reading
use Rattle.request_list.specs.List.{Listed, read_list, list_bytes}
use Rattle.request_list.specs.Write.{Writable}
use Rattle.request_list.proofs.ListTrips.{list_trips}
use Rattle.engine.proofs.ListLaws.{replies_length, replies_many}
use Rattle.engine.specs.List.{Result, run_answer, replies_to, refused_run, run_on}
use Rattle.engine.specs.Answers as ended
use Rattle.agreement.specs.Replies.{obeyed_by}
use Rattle.agreement.specs.Agreement.{left_in, left_by, CarriedOut}
use Rattle.agreement.proofs.Obeyed.{replies, told, AllDone, replies_front}

-- ---- any list
abbrev pub asked : List ℕ → List Request
asked bytes = (read_list bytes).requests

-- is there room for the replies? and how many requests are then carried out?
abbrev pub room : List ℕ → List ℕ → Bool
room bytes out = leb (reply_width * length (asked bytes)) (length out)

abbrev pub many : List ℕ → List ℕ → ℕ
many bytes out = cond (room bytes out) (length (asked bytes)) 0

abbrev pub ran_if : Scheme → Matrix → List ℕ → List ℕ → Bool → Result
ran_if s m bytes out fits =
    cond fits
    (record {
      ran = record { answer = run_answer (length (asked bytes)) (read_list bytes).ending; things = (run seats s m (asked bytes)).things };
      cells = (run seats s m (asked bytes)).cells;
      replies = placed out 0 (replies_to s m (asked bytes));
    })
    (refused_run m out 9)

module _ (s : Scheme) (m : Matrix) (ok : T (accepted_scheme s)) (of : T (accepted_matrix s.head m)) (bytes out : List ℕ) where
  pub ran : run_on s m bytes out ≡ ran_if s m bytes out (room bytes out)
  unfolding run_on
  ran = rw (is_true (accepted_scheme s) ok, is_true (accepted_matrix s.head m) of)

  pub left_kept : T (accepted_matrix s.head (left_in (run_on s m bytes out)))
  left_kept = rw ran (go (room bytes out))
    where
      go : (fits : Bool) → T (accepted_matrix s.head (left_in (ran_if s m bytes out fits)))
      go true = run_kept s m (asked bytes) ok of
      go false = of

  left_if : (fits : Bool) → left_by (ran_if s m bytes out fits) ≡ run papers s (stands_for m) (take (cond fits (length (asked bytes)) 0) (asked bytes))
  unfolding left_by run
  left_if true = rw (take-length (asked bytes)) (run_joined.same_matrix s m (asked bytes) ok of)
  left_if false = refl

  pub left_so : left_by (run_on s m bytes out) ≡ run papers s (stands_for m) (take (many bytes out) (asked bytes))
  left_so = ap left_by ran ∙ left_if (room bytes out)

  -- where there is room, the replies stand in front
  on_paper_replies : replies_to s m (asked bytes) ≡ replies s (asked bytes) (answers papers s (stands_for m) (asked bytes))
  on_paper_replies = ap (replies s (asked bytes)) (run_joined.same_answers s m (asked bytes) ok of)

  module _ (t : T (room bytes out)) where
    abbrev pub vs : List ℕ
    vs = replies s (asked bytes) (answers papers s (stands_for m) (asked bytes))

    as_many : length vs ≡ reply_width * length (asked bytes)
    as_many = replies_length (reply_each s (asked bytes) _) ∙ ap (λ (n : ℕ). reply_width * n) (replies_many papers s (stands_for m) (asked bytes))

    in_full : run_on s m bytes out ≡ ran_if s m bytes out true
    in_full = ran ∙ ap (ran_if s m bytes out) (is_true (room bytes out) t)

    pub ended_so : (run_on s m bytes out).ran.answer ≡ run_answer (length (asked bytes)) (read_list bytes).ending
    ended_so = ap (λ (r : Result). r.ran.answer) in_full

    pub replied : (run_on s m bytes out).replies ≡ vs ++ drop (reply_width * length (asked bytes)) out
    unfolding placed
    replied = ap (λ (r : Result). r.replies) in_full ∙ rw (on_paper_replies, zero-add, as_many)

    pub left_whole : left_by (run_on s m bytes out) ≡ run papers s (stands_for m) (asked bytes)
    unfolding left_by
    left_whole = ap left_by in_full ∙ run_joined.same_matrix s m (asked bytes) ok of

    -- the replies to the list's first requests, where these are carried out
    pub first_replies : (ps rest : List Request) → ps ++ rest ≡ asked bytes → AllDone s (stands_for m) ps →
        take (reply_width * length ps) (run_on s m bytes out).replies ≡ each_bytes (λ (q : Request). reply_bytes (reply_to s q none)) ps
    first_replies ps rest parts does = rw (replied, ← parts) (replies_front s (stands_for m) ps rest _ does)

    -- they tell what was carried out before the first refusal
    pub obeys : obeyed_by (asked bytes) (run_on s m bytes out).replies ≡ obeyed s (stands_for m) (asked bytes)
    obeys = rw replied (told s (stands_for m) (asked bytes) (drop (reply_width * length (asked bytes)) out))

  -- one that wasn't refused as a whole had it
  pub list_room : ((k : ℕ) → (run_on s m bytes out).ran.answer ≢ ended.Refused k) → T (room bytes out)
  list_room whole = go (room bytes out) refl
    where
      go : (fits : Bool) → room bytes out ≡ fits → T (room bytes out)
      go true e = rw e tt
      go false e = absurd (whole 9 (rw (ran, e)))

-- a run of requests that can be written, each of which is carried out
module _ (s : Scheme) (m : Matrix) (ok : T (accepted_scheme s)) (of : T (accepted_matrix s.head m)) (ps : List Request) (each : Each Writable ps)
    (out : List ℕ) (fits : reply_width * length ps ≤ length out) where
  reads : read_list (list_bytes ps) ≡ record { requests = ps; ending = reading.Done (length (list_bytes ps)) }
  reads = list_trips.there ps each

  has_room : T (room (list_bytes ps) out)
  has_room = subst (λ (l : Listed). T (leb (reply_width * length l.requests) (length out))) (sym reads) (le→leb _ _ fits)

  same_list : asked (list_bytes ps) ≡ ps
  same_list = ap (λ (l : Listed). l.requests) reads

  pub carried_out : AllDone s (stands_for m) ps → CarriedOut s ps (run_on s m (list_bytes ps) out)
  carried_out does = record {
    ended = ended_so s m ok of (list_bytes ps) out has_room ∙ ap (λ (l : Listed). run_answer (length l.requests) l.ending) reads;
    replied = first_replies s m ok of (list_bytes ps) out has_room ps [] (append-nil ps ∙ sym same_list) does;
  }

  pub left_after : left_by (run_on s m (list_bytes ps) out) ≡ run papers s (stands_for m) ps
  left_after = left_whole s m ok of (list_bytes ps) out has_room ∙ ap (run papers s (stands_for m)) same_list
