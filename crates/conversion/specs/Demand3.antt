-- Demand 3. Take an accepted scheme that can be converted, an accepted matrix of it, any list of requests. The office runs the original, the robot
-- the converted pair. All of it is said of the papers' matrices, which the memories stand for (model, `Joined`). Assumes nothing.
use Rattle.std.specs.Prelude.{ℕ, ◌+◌, ◌<◌, ◌≡◌, not, List, [], ◌∷◌, map, T, take}
use Rattle.std.proofs.Math.Option.{none}
use Rattle.rights.specs.Sets.{has}
use Rattle.model.specs.Request.{Request, Outcome, done, refused, step, run, answers}
use Rattle.model.specs.Papers.{State, cell_exists, papers}
use Rattle.model.specs.Seats.{Matrix, stands_for}
use Rattle.model.specs.Accepted.{accepted_scheme, accepted_matrix}
use Rattle.model.specs.declared.Head.{Head}
use Rattle.model.specs.declared.Scheme.{Scheme}
use Rattle.conversion.specs.Conversion.{convertible, convert_scheme, tests_presence, convert_matrix}

-- ---- what is compared

-- the plain rights agree, and a partner stands exactly where its right doesn't
pub record Mirror (n office robot : ℕ) : Type 0 where
  pub plain : (r : ℕ) → r < n → has robot r ≡ has office r
  pub partner : (r : ℕ) → r < n → has robot (r + n) ≡ not (has office r)

-- the same things, the highest id that there ever was among what is the same, and so it is in every cell that exists
pub record Mirrors (h : Head) (office robot : State) : Type 0 where
  pub same_things : robot.things ≡ office.things
  pub mirror : (x y : ℕ) → T (cell_exists h office x y) → Mirror h.rights (office.rights x y) (robot.rights x y)

-- the same things with the same highest id, and no entry that the richer lacks
pub record Within (poorer richer : State) : Type 0 where
  pub same_things : poorer.things ≡ richer.things
  pub entries : (x y r : ℕ) → T (has (poorer.rights x y) r) → T (has (richer.rights x y) r)

-- the requests that are carried out before the first refusal
unfoldable pub on_if : Outcome State → Request → (State → List Request) → List Request
on_if (done m) q rest = q ∷ rest m
on_if (refused k) q rest = []

unfoldable pub obeyed : Scheme → State → List Request → List Request
obeyed s m [] = []
obeyed s m (q ∷ qs) = on_if (step papers s m q) q (λ next. obeyed s next qs)

-- ---- the promise

-- ps is all that a robot did which began at `poor` instead of the complete `robot`: the office would have done it from the full matrix in that
-- order, and the robot then holds no entry that a complete one lacks after just those
pub record Safe (s : Scheme) (office robot poor : State) (ps : List Request) : Type 0 where
  pub office_does : answers papers s office ps ≡ map (λ q. none) ps
  pub no_entry_more : Within (run papers (convert_scheme s) poor ps) (run papers (convert_scheme s) robot ps)

pub record Agree (s : Scheme) (office robot : State) (qs : List Request) : Type 0 where
  -- With every entry there, each answer is equal: the number, and with 14 the test's place. Steps are no part of an answer, and they differ (`RobotSteps`).
  pub same_answers : answers papers (convert_scheme s) robot qs ≡ answers papers s office qs
  -- After each request the things are the same, the plain rights agree, and a partner stands exactly where its right doesn't.
  pub after_each : (k : ℕ) → Mirrors s.head (run papers s office (take k qs)) (run papers (convert_scheme s) robot (take k qs))
  -- If the robot starts with the same things but any of its entries missing, and stops at its first refusal, it is safe.
  pub incomplete : (poor : State) → Within poor robot → Safe s office robot poor (obeyed (convert_scheme s) poor qs)

abbrev pub Demand3 : Type 0
Demand3 = (s : Scheme) (m : Matrix) (qs : List Request) → T (accepted_scheme s) → T (convertible s) → T (accepted_matrix s.head m) →
    Agree s (stands_for m) (stands_for (convert_matrix s.head m)) qs

-- ---- the law that the second half rests on, for any scheme without absence tests, creates and destroys included: whatever the poorer of two
-- matrices carries out the richer carries out too, and stays richer
abbrev pub Follows : Outcome State → Outcome State → Type 0
Follows (done poorer) (done richer) = Within poorer richer
Follows (done poorer) (refused k) = ⊥
Follows (refused k) o = Unit {0}

abbrev pub Monotone : Type 0
Monotone = (s : Scheme) (poorer richer : State) (q : Request) → T (tests_presence s) → Within poorer richer →
    Follows (step papers s poorer q) (step papers s richer q)
