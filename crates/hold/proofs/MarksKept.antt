-- Requests change no mark and no type: the promise `MarksKept`. A create takes an id above the highest, which never falls, and makes what isn't on hold.
-- Assumes nothing.
use Prim.Native.Nat.{ℕ, ◌≤◌, ◌<◌}
use mathlib.Core.Path.{◌≡◌, refl}
use mathlib.Core.Bool.{Bool, true, false, cond}
use mathlib.Core.Option.{Option, none, some}
use mathlib.Core.List.{List}
use native.Mathlib.Omega.{arith}
use lib.Dec.{T, eqb}
use Rattle.rights.specs.declared.Right.{Right}
use Rattle.rights.specs.declared.ThingType.{ThingType}
use Rattle.laws.specs.Check.{is_some}
use Rattle.laws.proofs.Bools.{first_pass, must_pass, eqb_not}
use Rattle.laws.proofs.Differ.{constructors_differ}
use Rattle.model.specs.Request.{Request, Thing, of_type, act, run}
use Rattle.model.specs.Papers.{Population, State, now_is, now_has, reached, born, gone, papers}
use Rattle.model.specs.Seats.{Matrix, stands_for}
use Rattle.model.specs.Accepted.{accepted_matrix}
use Rattle.model.specs.declared.Code.{Code}
use Rattle.model.specs.declared.Code.TheVariants.{Enter, Delete, Create, Destroy}
use Rattle.model.specs.declared.Head.{Head}
use Rattle.model.specs.declared.Scheme.{Scheme}
use Rattle.model.proofs.Invariant.{IfDone, is_done, unless_done, run_keeps}
use Rattle.model.proofs.NeverAgain.{above, none_above}
use Rattle.hold.specs.OnHold.{MarksKept}

-- ---- what was there

-- since th: the highest didn't fall, and what has an id up to it is what it was, or gone
record Same (th now : Population) : Type 0 where
  rises : th.highest ≤ now.highest
  same : (x : ℕ) → x ≤ th.highest → T (is_some (now.thing x)) → now.thing x ≡ th.thing x

module _ (th : Population) where
  abbrev Later : State → Type 0
  Later m = Same th m.things

  same_create : (x : ℕ) (t : ThingType) (m : State) → Later m → m.things.highest < x → Later (papers.create x t m)
  unfolding papers born reached now_has now_is
  same_create x t m h up = record { rises = omega (arith, h.rises); same = λ a low. go a low (eqb_not a x (λ e. omega (arith, h.rises))) }
    where
      go : (a : ℕ) → a ≤ th.highest → eqb a x ≡ false → T (is_some (now_is x (some (of_type t)) m.things.thing a)) →
          now_is x (some (of_type t)) m.things.thing a ≡ th.thing a
      go a low e = rw e (h.same a low)

  same_destroy : (x : ℕ) (m : State) → Later m → Later (papers.destroy x m)
  unfolding papers gone now_has now_is is_some
  same_destroy x m h = record { rises = h.rises; same = λ a low. go a low (eqb a x) }
    where
      go : (a : ℕ) → a ≤ th.highest → (b : Bool) → T (is_some (cond b none (m.things.thing a))) → cond b none (m.things.thing a) ≡ th.thing a
      go a low true there = absurd there
      go a low false there = h.same a low there

  same_act : (p : ℕ) (c : Code) (r : Right) (x y : ℕ) (t : ThingType) (m : State) → Later m → IfDone Later (act papers p c r x y t m)
  unfolding act papers
  same_act p Enter r x y t m h = is_done Later _ h
  same_act p Delete r x y t m h = is_done Later _ h
  same_act p Create r x y t m h = unless_done Later _ _ (λ ok. same_create x t m h (above m x (must_pass _ _ (first_pass _ _ ok))))
  same_act p Destroy r x y t m h = unless_done Later _ _ (λ ok. same_destroy x m h)

-- ---- what wasn't there

module _ (x : ℕ) where
  abbrev Free : State → Type 0
  Free m = (u : Thing) → m.things.thing x ≡ some u → u.on_hold ≡ false

  free_act : (p : ℕ) (c : Code) (r : Right) (a b : ℕ) (t : ThingType) (m : State) → Free m → IfDone Free (act papers p c r a b t m)
  unfolding act papers born reached gone now_has now_is
  free_act p Enter r a b t m h = is_done Free _ h
  free_act p Delete r a b t m h = is_done Free _ h
  free_act p Create r a b t m h = unless_done Free _ _ (λ ok. go (eqb x a))
    where
      go : (b : Bool) (u : Thing) → cond b (some (of_type t)) (m.things.thing x) ≡ some u → u.on_hold ≡ false
      go true u e = cc
      go false u e = h u e
  free_act p Destroy r a b t m h = unless_done Free _ _ (λ ok. go (eqb x a))
    where
      go : (b : Bool) (u : Thing) → cond b none (m.things.thing x) ≡ some u → u.on_hold ≡ false
      go true u e = constructors_differ (cc)
      go false u e = h u e

-- ---- the promise

pub there_is : {o : Option Thing} {t : Thing} → o ≡ some t → T (is_some o)
unfolding is_some
there_is e = rw e tt

same : (s : Scheme) (h : Head) (m : Matrix) (qs : List Request) (x : ℕ) (t u : Thing) → T (accepted_matrix h m) →
    (stands_for m).things.thing x ≡ some t → (run papers s (stands_for m) qs).things.thing x ≡ some u → u ≡ t
same s h m qs x t u ok was is =
    let start = stands_for m in
    let low : x ≤ start.things.highest = none_above h m ok x (there_is was) in
    let kept = run_keeps (Later start.things) papers (same_act start.things) s start qs (record { rises = omega arith; same = λ a l there. refl }) in
    let e : (run papers s start qs).things.thing x ≡ start.things.thing x = kept.same x low (there_is is) in
    cc

new : (s : Scheme) (m : State) (qs : List Request) (x : ℕ) (u : Thing) → m.things.thing x ≡ none → (run papers s m qs).things.thing x ≡ some u →
    u.on_hold ≡ false
new s m qs x u e = run_keeps (Free x) papers (free_act x) s m qs (λ v is. constructors_differ (cc)) u

pub marks_kept : MarksKept
marks_kept = record { same = same; new = new }
