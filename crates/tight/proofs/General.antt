-- The one general law: a contract that is an equation, from whose left side the ending can be read off, is tight.
-- Assumes nothing.
use mathlib.Core.Path.{◌≡◌, refl, sym, ◌∙◌}
use seplogic.Ra.Ura.{Ura}
use base.Logic.{ent, sep, emp, id⊢, fst∗, snd∗}
use contract.Monad.{fact, fact_use, fact_i}
use contract.Lifetimes.{Lfts}
use denote.Exit.{yes}
use denote.Signature.{Signature}
use denote.Triple.Entry.{Args, Res}
use denote.Triple.End.{all}
use denote.Triple.Clauses.{Ended, AtExit, Lasts, at_exit}
use Rattle.tight.specs.Tight.{TightAs}

-- two facts with one right side
module _ {M : Type 1} (𝓤 : Ura M) {B C : Type 0} {x y d : B} {k l : C} where
  both_equal : (x ≡ y → k ≡ l) → ent 𝓤 (sep 𝓤 (fact 𝓤 (x ≡ d)) (fact 𝓤 (y ≡ d))) (fact 𝓤 (k ≡ l))
  both_equal h =
      fact_use 𝓤 (x ≡ d) (fst∗ 𝓤 (fact 𝓤 (x ≡ d)) (fact 𝓤 (y ≡ d))) (λ e.
      fact_use 𝓤 (y ≡ d) (snd∗ 𝓤 (fact 𝓤 (x ≡ d)) (fact 𝓤 (y ≡ d))) (λ f.
      fact_i 𝓤 (k ≡ l) _ (h (e ∙ sym f))))

-- every last value is spoken of
abbrev Whole : Signature → Ended
Whole S = record { signature = S; kept = all yes S.params }

-- `z` and `w` are the two endings, each a result with the last values
pub equation : {M : Type 1} {S : Signature} {X : Lfts S.lifetimes → Type 0} {see : (κs : Lfts S.lifetimes) → Res S κs → X κs}
    {B : (κs : Lfts S.lifetimes) → Args S κs → Type 0}
    {left : (κs : Lfts S.lifetimes) (a : Args S κs) → Res S κs → AtExit (Whole S) κs → B κs a}
    {right : (κs : Lfts S.lifetimes) (a : Args S κs) → B κs a} →
    ((κs : Lfts S.lifetimes) (a : Args S κs) (z w : Res S κs × Lasts (Whole S) κs a) →
    left κs a z.0 (at_exit (Whole S) κs a z.1) ≡ left κs a w.0 (at_exit (Whole S) κs a w.1) →
    ◌≡◌ {A = X κs × Lasts (Whole S) κs a} (see κs z.0, z.1) (see κs w.0, w.1)) →
    TightAs M (Whole S) see (λ 𝓤 𝓛 mem run κs a. record { ghost = Unit {0}; requires = λ g. emp 𝓤; ensures = λ g r e. fact 𝓤 (left κs a r e ≡ right κs a) })
equation h = record {
  all_kept = refl;
  at_each = λ 𝓤 𝓛 mem run κs a. record {
    asks_nothing = (tt, id⊢ 𝓤 (emp 𝓤));
    one_ending = λ g r q ws vs. both_equal 𝓤 (h κs a (r, ws) (q, vs));
  };
}
