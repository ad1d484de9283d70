-- What is promised of the model, each promise as one statement; the proofs stand in proofs/, under the same names.
-- Assumes nothing.
use Rattle.std.specs.Prelude.{ℕ, ◌+◌, ◌≤◌, ◌<◌, ◌≡◌, ◌≢◌, Bool, true, false, List, ◌∷◌, ◌++◌, T, length, get_or}
use Rattle.std.proofs.Math.Option.{none, some}
use Rattle.rights.specs.Numberings.{parameter, same_type}
use Rattle.rights.specs.declared.ThingType.{ThingType}
use Rattle.laws.specs.Check.{all, between}
use Rattle.model.specs.Scheme.{is_new, no_type}
use Rattle.model.specs.Request.{Request, Thing, is_id, View, at, Answer, Outcome, done, refused, answer, number, after, place_fault, places_fault, operate, operate_all, step, run, answers}
use Rattle.model.specs.Papers.{State, papers, how_many}
use Rattle.model.specs.Seats.{Matrix, seats, stands_for}
use Rattle.model.specs.Accepted.{accepted_scheme, accepted_matrix}
use Rattle.model.specs.KeyExample.{starred, is_true, key_matrix}
use Rattle.model.specs.declared.Operation.{Operation}
use Rattle.model.specs.declared.Scheme.{Scheme}
use Rattle.model.specs.declared.Refusal.{Refusal}

-- an outcome in memory as an outcome of the papers
unfoldable pub paper_outcome : Outcome Matrix → Outcome State
paper_outcome (done m) = done (stands_for m)
paper_outcome (refused k) = refused k

-- Memory and papers agree: a request in memory gives the papers' answer, and what the memory then stands for is the papers' matrix afterwards.
abbrev pub Joined : Type 0
Joined = (s : Scheme) (m : Matrix) (q : Request) → T (accepted_scheme s) → T (accepted_matrix s.head m) →
    paper_outcome (step seats s m q) ≡ step papers s (stands_for m) q

-- the same for a list of requests: all the answers, and the matrix after the last (so, taken at each part of a list, after each)
pub record RunJoined : Type 0 where
  pub same_answers : (s : Scheme) (m : Matrix) (qs : List Request) → T (accepted_scheme s) → T (accepted_matrix s.head m) →
      answers seats s m qs ≡ answers papers s (stands_for m) qs
  pub same_matrix : (s : Scheme) (m : Matrix) (qs : List Request) → T (accepted_scheme s) → T (accepted_matrix s.head m) →
      stands_for (run seats s m qs) ≡ run papers s (stands_for m) qs

-- A request leaves an accepted matrix accepted, whether it is carried out or refused, creates and destroys included.
abbrev pub Kept : Type 0
Kept = (s : Scheme) (m : Matrix) (q : Request) → T (accepted_scheme s) → T (accepted_matrix s.head m) → T (accepted_matrix s.head (after m (step seats s m q)))

-- The number of things never exceeds 48: in no accepted memory, and in no papers' matrix after a request if not before.
pub record AtMost48 : Type 0 where
  pub in_memory : (s : Scheme) (m : Matrix) → T (accepted_matrix s.head m) → how_many (stands_for m).things ≤ 48
  pub kept : (s : Scheme) (m : State) (q : Request) → how_many m.things ≤ 48 → how_many (after m (step papers s m q)).things ≤ 48

-- The starred examples that speak of requests, results and cells hold, in memory and in the papers' view.
pub record Starred : Type 0 where
  pub in_memory : T (all (is_true seats key_matrix) starred)
  pub on_paper : T (all (is_true papers (stands_for key_matrix)) starred)

-- What the outline says of the order of faults and of half-done commands, in any form of a matrix.
pub record InOrder {M : Type 0} (view : View M) : Type 0 where
  -- The first place at fault is the answer: a fault at a place counts where every place before it passes.
  pub first_place : (m : M) (os : List Operation) (ts : List ThingType) (ids : List ℕ) (i : ℕ) (r : Refusal) → length ids ≡ length ts → i < length ts →
      ((j : ℕ) → j < i → place_fault view m (is_new os (parameter j)) (get_or ts j no_type) (get_or ids j 0) ≡ none) →
      place_fault view m (is_new os (parameter i)) (get_or ts i no_type) (get_or ids i 0) ≡ some r → places_fault view m os 0 ts ids ≡ some r
  -- At a place that isn't new the type (13) comes before the mark (18); of a new parameter's id no thing is asked.
  pub type_first : (m : M) (t : ThingType) (x : ℕ) (u : Thing) → T (is_id x) → view.thing m x ≡ some u → same_type u.type t ≡ false →
      place_fault view m false t x ≡ some (at 13 0)
  pub then_mark : (m : M) (t : ThingType) (x : ℕ) (u : Thing) → T (is_id x) → view.thing m x ≡ some u → same_type u.type t ≡ true → u.on_hold ≡ true →
      place_fault view m false t x ≡ some (at 18 0)
  pub new_unasked : (m : M) (t : ThingType) (x : ℕ) → T (is_id x) → place_fault view m true t x ≡ none
  -- All or nothing: an operation that refuses, after others were carried out, refuses the whole, with its number and place.
  pub whole_refused : (ts : List ThingType) (ids : List ℕ) (p : ℕ) (before : List Operation) (o : Operation) (later : List Operation) (m next : M) (r : Refusal) →
      operate_all view ts ids p before m ≡ done next → operate view ts ids (p + length before) o next ≡ refused r →
      operate_all view ts ids p (before ++ o ∷ later) m ≡ refused r
  -- A refused request has no effect at all.
  pub no_effect : (m : M) (o : Outcome M) → number (answer o) ≢ 0 → after m o ≡ m

-- Every refusal of a request has one of the outline's numbers for requests, 10 to 18, in any form of a matrix.
unfoldable pub tells_request : Answer → Bool
tells_request none = true
tells_request (some r) = between 10 18 r.number

abbrev pub RequestNumbers : Type 1
RequestNumbers = (M : Type 0) (view : View M) (s : Scheme) (m : M) (q : Request) → T (tells_request (answer (step view s m q)))
