-- What holds of the reply to each request on paper holds of the functions' and of the library's: memory and papers give the same answers, and what was
-- stored reads as the replies to them. Assumes nothing.
use Prim.Native.Nat.{ℕ}
use mathlib.Core.Path.{◌≡◌, refl}
use mathlib.Core.Logic.{◌≢◌}
use mathlib.Core.Bool.{Bool, true, false, cond, ◌&&◌}
use mathlib.Core.Option.{some}
use mathlib.Core.List.{List, [], ◌∷◌, ◌++◌}
use lib.Dec.{T, le→leb}
use lib.ListN.{length}
use Rattle.laws.proofs.Bools.{and_left, and_right}
use Rattle.model.specs.Request.{Request, Outcome, done, refused, at, answer, after, step, answers}
use Rattle.model.specs.Answers.{reply_to, reply_each, replies_in}
use Rattle.model.specs.Papers.{State, papers}
use Rattle.model.specs.Seats.{Matrix, seats, stands_for}
use Rattle.model.specs.Accepted.{accepted_scheme, accepted_matrix}
use Rattle.model.specs.Promises.{paper_outcome}
use Rattle.model.specs.declared.Reply.{Reply}
use Rattle.model.specs.declared.Scheme.{Scheme}
use Rattle.model.proofs.Joined.{joined}
use Rattle.request_list.specs.List.{read_list}
use Rattle.engine.specs.Step.{answered, request_on}
use Rattle.engine.specs.List.{run_on}
use Rattle.engine.specs.Answers.{Refused}
use Rattle.engine.proofs.ListLaws.{replies_stored}
use Rattle.robot.specs.Library.{run_bytes}
use Rattle.agreement.specs.LibraryAgrees.{stored, Bytes, IsScheme, IsMatrix}
use Rattle.agreement.specs.Replies.{ToEach}
use Rattle.agreement.specs.EachReply.{EachReply}
use Rattle.agreement.proofs.Runs.{asked, room, ended_so, replied, list_room}
use Rattle.agreement.proofs.LibraryRuns.{call_held, had_room, count_told}

pub accepted : (s : Scheme) (m : Matrix) → (accepted_scheme s && accepted_matrix s.head m) ≡ true → T (accepted_scheme s) × T (accepted_matrix s.head m)
accepted s m e =
    let both : T (accepted_scheme s && accepted_matrix s.head m) = rw e tt in
    (and_left (accepted_scheme s) _ both, and_right (accepted_scheme s) _ both)

pub same_answer : (o : Outcome Matrix) → answer (paper_outcome o) ≡ answer o
unfolding answer paper_outcome
same_answer (done next) = refl
same_answer (refused r) = refl

-- it holds of a stranger's 27, and of the reply to each request of an accepted scheme on paper
module _ (Tells : Scheme → State → Request → Reply → Type 0) (stranger : (s : Scheme) (m : State) (q : Request) → Tells s m q (reply_to s q (some (at 27 0))))
    (known : (s : Scheme) → T (accepted_scheme s) → (m : State) (q : Request) → Tells s m q (reply_to s q (answer (step papers s m q)))) where
  -- ---- one request
  request : (s : Scheme) (m : Matrix) (command : ℕ) (ids : List ℕ) →
      Tells s (stands_for m) (record { command = command; ids = ids }) (request_on s m command ids).0.answer
  unfolding request_on
  request s m command ids = go (accepted_scheme s && accepted_matrix s.head m) refl
    where
      q : Request
      q = record { command = command; ids = ids }

      go : (b : Bool) → (accepted_scheme s && accepted_matrix s.head m) ≡ b →
          Tells s (stands_for m) q (cond b (answered s m q (step seats s m q)) (answered s m q (refused (at 27 0)))).0.answer
      go true e =
          let (ok, of) = accepted s m e in
          rw (← (same_answer (step seats s m q)), joined s m q ok of) (known s ok (stands_for m) q)
      go false e = unfold answer in stranger s (stands_for m) q

  -- ---- a list: the replies on paper, then what a run stored
  each : (s : Scheme) → T (accepted_scheme s) → (m : State) (qs : List Request) (more : List Reply) →
      ToEach (Tells s) s m qs (reply_each s qs (answers papers s m qs) ++ more)
  unfolding ToEach reply_each answers
  each s ok m [] more = tt
  each s ok m (q ∷ qs) more = (known s ok m q, each s ok (after m (step papers s m q)) qs more)

  module _ (s : Scheme) (m : Matrix) (bytes out : List ℕ) where
    abbrev Told : Type 0
    Told = ToEach (Tells s) s (stands_for m) (asked bytes) (replies_in (run_on s m bytes out).replies)

    run_tells : T (accepted_scheme s) → T (accepted_matrix s.head m) → T (room bytes out) → Told
    run_tells ok of fits = rw (replied s m ok of bytes out fits, replies_stored (reply_each s (asked bytes) _) _) (each s ok (stands_for m) (asked bytes) _)

    list : ((k : ℕ) → (run_on s m bytes out).ran.answer ≢ Refused k) → Told
    list whole = go (accepted_scheme s && accepted_matrix s.head m) refl
      where
        go : (b : Bool) → (accepted_scheme s && accepted_matrix s.head m) ≡ b → Told
        go true e = let (ok, of) = accepted s m e in run_tells ok of (list_room s m ok of bytes out whole)
        go false e = absurd (whole 27 (unfold run_on in rw e))

  -- ---- a call that gave 0 had room, and is a run
  call : (scheme matrix requests answers out : List ℕ) → Bytes scheme → Bytes matrix → (run_bytes scheme matrix requests answers out).called.number ≡ 0 →
      (s : Scheme) × (m : Matrix) × IsScheme scheme s × IsMatrix matrix s m
      × (stored (run_bytes scheme matrix requests answers out).called ≡ length (asked requests))
      × ToEach (Tells s) s (stands_for m) (asked requests) (replies_in (run_bytes scheme matrix requests answers out).answers)
  call scheme matrix requests answers out small small' e =
      let (s, m, h) = call_held scheme matrix requests answers out small small' e in
      let (fits, ran) = had_room h requests answers out e in
      let room = le→leb _ _ fits in
      let counted = count_told ran _ (read_list requests).ending (ended_so s m h.ok h.of requests answers room) in
      (s, m, h.is_scheme, h.is_matrix, counted, rw ran.answers (run_tells s m requests answers h.ok h.of room))

  pub each_reply : EachReply Tells
  each_reply = record { request = request; list = list; call = call }
