-- Demand 3: the complete robot answers as the office, and an incomplete one, which stops at its first refusal, does nothing that the office wouldn't.
-- Assumes nothing.
use mathlib.Core.Path.{◌≡◌, refl, sym, ap, ◌∙◌, subst₂}
use mathlib.Core.Option.{none}
use mathlib.Core.List.{List, [], ◌∷◌, map}
use lib.Dec.{T}
use Rattle.model.specs.Request.{Request, Answer, Outcome, done, refused, answer, after, step, run, answers}
use Rattle.model.specs.Papers.{State, papers}
use Rattle.model.specs.Seats.{stands_for}
use Rattle.model.specs.declared.Scheme.{Scheme}
use Rattle.conversion.specs.Conversion.{convert_scheme, tests_presence, convert_matrix}
use Rattle.conversion.specs.Demand3.{Mirrors, Within, on_if, obeyed, Demand3, Follows}
use Rattle.conversion.proofs.Poorer.{monotone}
use Rattle.conversion.proofs.Built.{converted_presence}
use Rattle.conversion.proofs.Lists.{few_rights}
use Rattle.conversion.proofs.Robot.{same_answers_lem, still_mirrors}
use Rattle.conversion.proofs.Start.{start_mirrors}

-- ---- the incomplete robot: the richer carries out all that the poorer obeyed, and stays richer

abbrev Ahead : Scheme → State → State → List Request → Type 0
Ahead s a b ps = (answers papers s b ps ≡ map (λ q. none) ps) × Within (run papers s a ps) (run papers s b ps)

one_ahead : (s : Scheme) (a b : State) (q : Request) (qs : List Request) (o o' : Outcome State) → step papers s a q ≡ o →
    step papers s b q ≡ o' → Follows o o' → Within a b → ((a' b' : State) → Within a' b' → Ahead s a' b' (obeyed s a' qs)) →
    Ahead s a b (on_if o q (λ next. obeyed s next qs))
unfolding on_if answers run answer after
one_ahead s a b q qs (done a') (done b') e e' f w law =
    let (does, within) = law a' b' f in
    let ps : List Request = obeyed s a' qs in (
      rw e' (ap (λ (ks : List Answer). none ∷ ks) does),
      subst₂ (λ (x y : Outcome State). Within (run papers s (after a x) ps) (run papers s (after b y) ps)) (sym e) (sym e') within,
    )
one_ahead s a b q qs (done a') (refused k) e e' f w law = absurd f
one_ahead s a b q qs (refused k) o' e e' f w law = (refl, w)

ahead : (s : Scheme) → T (tests_presence s) → (a b : State) → Within a b → (qs : List Request) → Ahead s a b (obeyed s a qs)
unfolding obeyed answers run
ahead s p a b w [] = (refl, w)
ahead s p a b w (q ∷ qs) = one_ahead s a b q qs _ _ refl refl (monotone s a b q p w) w (λ a' b' w'. ahead s p a' b' w' qs)

-- ---- both

pub demand3 : Demand3
demand3 s m qs ok cv of =
    let start : Mirrors s.head office robot = start_mirrors s.head m (few_rights s cv) of in
    record {
      same_answers = same_answers_lem s ok cv office robot start qs;
      after_each = still_mirrors s ok cv office robot start qs;
      incomplete = λ poor w.
          let (does, within) = ahead (convert_scheme s) (converted_presence s) poor robot w qs in
          record { office_does = sym (same_answers_lem s ok cv office robot start (obeyed (convert_scheme s) poor qs)) ∙ does; no_entry_more = within };
    }
  where
    office : State
    office = stands_for m

    robot : State
    robot = stands_for (convert_matrix s.head m)
