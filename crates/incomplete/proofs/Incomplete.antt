-- The promise `Incomplete`: from one request (`Poorer` of crates/conversion) to a list of them, up to the poorer's first refusal.
-- Assumes nothing.
use Prim.Native.Nat.{ℕ, zero, suc}
use mathlib.Core.Path.{◌≡◌, refl, sym, ap, subst, subst₂}
use mathlib.Core.Option.{none}
use mathlib.Core.List.{List, [], ◌∷◌}
use lib.Dec.{T}
use lib.ListN.{take}
use Rattle.model.specs.Request.{Request, Answer, Outcome, done, refused, answer, after, step, run, answers}
use Rattle.model.specs.Papers.{State, papers}
use Rattle.model.specs.declared.Scheme.{Scheme}
use Rattle.conversion.specs.Conversion.{tests_presence}
use Rattle.conversion.specs.Demand3.{Within, on_if, obeyed, Follows}
use Rattle.conversion.proofs.Poorer.{monotone as follows}
use Rattle.incomplete.specs.Incomplete.{Ahead, RefusedNext, UpToRefusal, Incomplete}

-- ---- the richer is ahead

-- a request that both carried out, before others of which it is so
one_ahead : (s : Scheme) (a b : State) (q : Request) (qs : List Request) (o o' : Outcome State) → step papers s a q ≡ o →
    step papers s b q ≡ o' → Follows o o' → Within a b → ((a' b' : State) → Within a' b' → Ahead s a' b' (obeyed s a' qs)) →
    Ahead s a b (on_if o q (λ next. obeyed s next qs))
unfolding on_if answers run answer after
one_ahead s a b q qs (done a') (done b') e e' f w law =
    let next = law a' b' f in
    record { carries_out = rw e' (ap (λ (ks : List Answer). none ∷ ks) next.carries_out); stays_within = still next }
  where
    ps : List Request
    ps = obeyed s a' qs

    still : Ahead s a' b' ps → (k : ℕ) → Within (run papers s a (take k (q ∷ ps))) (run papers s b (take k (q ∷ ps)))
    still next zero = w
    still next (suc k) =
        subst₂ (λ (x y : Outcome State). Within (run papers s (after a x) (take k ps)) (run papers s (after b y) (take k ps))) (sym e) (sym e')
        (next.stays_within k)
one_ahead s a b q qs (done a') (refused k) e e' f w law = absurd f
one_ahead s a b q qs (refused k) o' e e' f w law = record { carries_out = refl; stays_within = λ k. none_taken k }
  where
    none_taken : (k : ℕ) → Within (run papers s a (take k [])) (run papers s b (take k []))
    none_taken zero = w
    none_taken (suc k) = w

ahead : (s : Scheme) (poorer richer : State) (qs : List Request) → T (tests_presence s) → Within poorer richer →
    Ahead s poorer richer (obeyed s poorer qs)
unfolding obeyed answers run
ahead s a b [] p w = record { carries_out = refl; stays_within = λ k. none_taken k }
  where
    none_taken : (k : ℕ) → Within (run papers s a (take k [])) (run papers s b (take k []))
    none_taken zero = w
    none_taken (suc k) = w
ahead s a b (q ∷ qs) p w = one_ahead s a b q qs _ _ refl refl (follows s a b q p w) w (λ a' b' w'. ahead s a' b' qs p w')

-- ---- what `obeyed` gives
one_obeyed : (s : Scheme) (m : State) (q : Request) (qs : List Request) (o : Outcome State) → step papers s m q ≡ o →
    ((next : State) → UpToRefusal s next qs (obeyed s next qs)) → UpToRefusal s m (q ∷ qs) (on_if o q (λ next. obeyed s next qs))
unfolding on_if answers run answer after
one_obeyed s m q qs (done next) e law =
    let u = law next in
    record {
      rest = u.rest;
      parts = ap (λ (l : List Request). q ∷ l) u.parts;
      carried_out = rw e (ap (λ (ks : List Answer). none ∷ ks) u.carried_out);
      then_refused = subst (λ (x : Outcome State). RefusedNext s (run papers s (after m x) (obeyed s next qs)) u.rest) (sym e) u.then_refused;
    }
one_obeyed s m q qs (refused r) e law = record { rest = q ∷ qs; parts = refl; carried_out = refl; then_refused = (r, e) }

up_to_refusal_lem : (s : Scheme) (m : State) (qs : List Request) → UpToRefusal s m qs (obeyed s m qs)
unfolding obeyed answers run
up_to_refusal_lem s m [] = record { rest = []; parts = refl; carried_out = refl; then_refused = tt }
up_to_refusal_lem s m (q ∷ qs) = one_obeyed s m q qs (step papers s m q) refl (λ next. up_to_refusal_lem s next qs)

pub incomplete : Incomplete
incomplete = record { ahead = ahead; follows = follows; up_to_refusal = up_to_refusal_lem }
