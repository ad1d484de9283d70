-- Memory and papers agree, for a request and for a list of them, and memory stays accepted: the promises `Joined`, `RunJoined` and `Kept`.
-- Assumes nothing.
use mathlib.Core.Path.{◌≡◌, refl, sym, ap}
use mathlib.Core.List.{List}
use lib.Dec.{T}
use Rattle.model.specs.Request.{Request, Outcome, done, refused, after, step, run, answers}
use Rattle.model.specs.Papers.{State, papers}
use Rattle.model.specs.Seats.{Matrix, seats, stands_for}
use Rattle.model.specs.Accepted.{accepted_scheme, accepted_matrix}
use Rattle.model.specs.Promises.{paper_outcome, Joined, RunJoined, Kept}
use Rattle.model.specs.declared.Scheme.{Scheme}
use Rattle.model.proofs.Stands.{Agree}
use Rattle.model.proofs.Simulation.{simulate}
use Rattle.model.proofs.Invariant.{agree_after, run_agree}
use Rattle.model.proofs.SeatsStand.{Seated, seats_stand}
use Rattle.model.proofs.HeldLaws.{held, accepted}

on_paper : (s : Scheme) (o : Outcome Matrix) (p : Outcome State) → Agree (Seated s.head) o p → paper_outcome o ≡ p
unfolding paper_outcome
on_paper s (done m) (done p) r = ap done (sym r.is)
on_paper s (done m) (refused k) r = absurd r
on_paper s (refused j) (done p) r = absurd r
on_paper s (refused j) (refused k) r = ap refused r

module _ (s : Scheme) (ok : T (accepted_scheme s)) where
  agrees : (m : Matrix) (p : State) (q : Request) → Seated s.head m p → Agree (Seated s.head) (step seats s m q) (step papers s p q)
  agrees m p q r = simulate s seats (Seated s.head) (seats_stand s.head) ok m p r q

  module _ (m : Matrix) (of : T (accepted_matrix s.head m)) where
    seated : Seated s.head m (stands_for m)
    seated = record { held = held s.head m of; is = refl }

    after_one : (q : Request) → Seated s.head (after m (step seats s m q)) (after (stands_for m) (step papers s (stands_for m) q))
    after_one q = agree_after (Seated s.head) m (stands_for m) (step seats s m q) (step papers s (stands_for m) q) seated (agrees m (stands_for m) q seated)

    after_all : (qs : List Request) →
        (answers seats s m qs ≡ answers papers s (stands_for m) qs) × Seated s.head (run seats s m qs) (run papers s (stands_for m) qs)
    after_all qs = run_agree (Seated s.head) seats s s agrees m (stands_for m) qs seated

pub joined : Joined
joined s m q ok of = on_paper s (step seats s m q) (step papers s (stands_for m) q) (agrees s ok m (stands_for m) q (seated s ok m of))

pub kept : Kept
kept s m q ok of = accepted s.head _ (after_one s ok m of q).held

pub run_kept : (s : Scheme) (m : Matrix) (qs : List Request) → T (accepted_scheme s) → T (accepted_matrix s.head m) → T (accepted_matrix s.head (run seats s m qs))
run_kept s m qs ok of = accepted s.head _ (after_all s ok m of qs).1.held

pub run_joined : RunJoined
run_joined = record { same_answers = λ s m qs ok of. (after_all s ok m of qs).0; same_matrix = λ s m qs ok of. sym (after_all s ok m of qs).1.is }
