-- Robots come back from service with part of their matrix missing: does that make them stricter or looser? Stricter, of every scheme that tests no absence,
-- creates and destroys included. All of it is said of the papers' matrices, which the memories stand for (model, `Joined`), whatever scheme it is, an
-- accepted one or not. Demand 3's second half is this of a converted scheme. Assumes nothing.
use Rattle.std.specs.Prelude.{ℕ, ◌≡◌, List, [], ◌∷◌, ◌++◌, map, T, take}
use Rattle.std.proofs.Math.Option.{none}
use Rattle.model.specs.Request.{Request, refused, step, run, answers}
use Rattle.model.specs.Papers.{State, papers}
use Rattle.model.specs.declared.Refusal.{Refusal}
use Rattle.model.specs.declared.Scheme.{Scheme}
use Rattle.conversion.specs.Conversion.{tests_presence}
use Rattle.conversion.specs.Demand3.{Within, obeyed, Follows}

-- ---- the promise

-- a list of requests: the richer carries out each of them, in that order, and after each the poorer's entries are within the richer's
pub record Ahead (s : Scheme) (poorer richer : State) (ps : List Request) : Type 0 where
  pub carries_out : answers papers s richer ps ≡ map (λ q. none) ps
  pub stays_within : (k : ℕ) → Within (run papers s poorer (take k ps)) (run papers s richer (take k ps))

-- what comes next is refused, if anything does
abbrev pub RefusedNext : Scheme → State → List Request → Type 0
RefusedNext s m [] = Unit {0}
RefusedNext s m (q ∷ qs) = (r : Refusal) × (step papers s m q ≡ refused r)

-- `obeyed`, told apart from how it is computed: ps are a list's first requests, each of them is carried out, and the one behind them is refused
pub record UpToRefusal (s : Scheme) (m : State) (qs ps : List Request) : Type 0 where
  pub rest : List Request
  pub parts : ps ++ rest ≡ qs
  pub carried_out : answers papers s m ps ≡ map (λ q. none) ps
  pub then_refused : RefusedNext s (run papers s m ps) rest

pub record Incomplete : Type 0 where
  -- Of two matrices with the same things, marks and highest id, the entries of one within the other: the requests that the poorer carries out up to its
  -- first refusal are carried out by the richer too, and the poorer's entries stay within the richer's after each.
  pub ahead : (s : Scheme) (poorer richer : State) (qs : List Request) → T (tests_presence s) → Within poorer richer →
      Ahead s poorer richer (obeyed s poorer qs)
  -- One request by itself.
  pub follows : (s : Scheme) (poorer richer : State) (q : Request) → T (tests_presence s) → Within poorer richer →
      Follows (step papers s poorer q) (step papers s richer q)
  -- And `obeyed` is what its name says, of every scheme.
  pub up_to_refusal : (s : Scheme) (m : State) (qs : List Request) → UpToRefusal s m qs (obeyed s m qs)
