-- No id is ever created twice: the promise `NeverAgain`. What a run creates is above the highest before it, and the highest never falls.
-- Assumes nothing.
use Prim.Native.Nat.{ℕ, suc, ◌≤◌, ◌<◌, max}
use mathlib.Core.Path.{◌≡◌, refl}
use mathlib.Core.Bool.{Bool, true, false, not, cond}
use mathlib.Core.Option.{Option, none, some}
use mathlib.Core.List.{List, [], ◌∷◌, ◌++◌, append_assoc}
use native.Mathlib.Omega.{arith}
use lib.Dec.{T, eqb, ltb, ltb→lt, lt→ltb, not_T}
use lib.ListN.{get_elem?}
use borrow.Author.Tests.{eqb-true}
use Rattle.rights.specs.declared.Right.{Right}
use Rattle.rights.specs.declared.ThingType.{ThingType}
use Rattle.laws.specs.Check.{passes, is_some}
use Rattle.laws.proofs.Bools.{and_right, and_both, first_pass, must_pass}
use Rattle.model.specs.Scheme.{commands_of, type_at, id_at, is_create}
use Rattle.model.specs.Request.{Request, Thing, of_type, Outcome, done, refused, after, unless_fault, and_then, act, operate, operate_all, carry_out, carry_out_if, step, run}
use Rattle.model.specs.Papers.{Population, State, may_create, now_is, now_has, reached, born, gone, papers}
use Rattle.model.specs.Seats.{Matrix, seats, seat, paper_things, stands_for}
use Rattle.model.specs.Accepted.{accepted_scheme, accepted_matrix}
use Rattle.model.specs.NeverAgain.{created_of, created_if, if_done, created_by, created_in, rises_from, NeverAgain}
use Rattle.model.specs.declared.Code.{Code}
use Rattle.model.specs.declared.Code.TheVariants.{Enter, Delete, Create, Destroy}
use Rattle.model.specs.declared.Head.{Head}
use Rattle.model.specs.declared.Operation.{Operation}
use Rattle.model.specs.declared.Command.{Command}
use Rattle.model.specs.declared.Scheme.{Scheme}
use Rattle.model.specs.declared.Refusal.{Refusal}
use Rattle.model.proofs.Invariant.{IfDone, is_done, unless_done, run_keeps}
use Rattle.model.proofs.Stands.{absent}
use Rattle.model.proofs.HeldLaws.{held, ids_below}
use Rattle.model.proofs.Find.{some_known, seat_is}
use Rattle.model.proofs.Joined.{run_joined, run_kept}

-- ---- an id that is gone

-- since th: the highest didn't fall, and what is new is above it
pub record Since (th now : Population) : Type 0 where
  pub rises : th.highest ≤ now.highest
  pub new : (x : ℕ) → th.thing x ≡ none → T (is_some (now.thing x)) → th.highest < x

-- what may be created is above the highest
pub above : (m : State) (x : ℕ) → T (may_create m.things x) → m.things.highest < x
unfolding may_create
above m x may = ltb→lt m.things.highest x (and_right (not (is_some (m.things.thing x))) _ may)

module _ (th : Population) where
  abbrev Later : State → Type 0
  Later m = Since th m.things

  since_act : (p : ℕ) (c : Code) (r : Right) (x y : ℕ) (t : ThingType) (m : State) → Later m → IfDone Later (act papers p c r x y t m)
  unfolding act papers is_some gone now_has now_is
  since_act p Enter r x y t m h = is_done Later _ h
  since_act p Delete r x y t m h = is_done Later _ h
  since_act p Create r x y t m h = unless_done Later _ _ (λ ok. create (above m x (must_pass _ _ (first_pass _ _ ok))))
    where
      create : m.things.highest < x → Later (papers.create x t m)
      create up = unfold papers born reached now_has now_is in
          record { rises = omega (arith, h.rises); new = λ a fresh. go a up (eqb a x) refl fresh }
        where
          go : (a : ℕ) → m.things.highest < x → (b : Bool) → eqb a x ≡ b → th.thing a ≡ none →
              T (is_some (cond b (some (of_type t)) (m.things.thing a))) → th.highest < a
          go a up true e fresh k = let is : a ≡ x = eqb-true a x e in omega (arith, h.rises)
          go a up false e fresh k = h.new a fresh k
  since_act p Destroy r x y t m h = unless_done Later _ _ (λ ok. record { rises = h.rises; new = λ a fresh. go a (eqb a x) fresh })
    where
      go : (a : ℕ) (b : Bool) → th.thing a ≡ none → T (is_some (cond b none (m.things.thing a))) → th.highest < a
      go a true fresh k = absurd k
      go a false fresh k = h.new a fresh k

none_there : (o : Option Thing) → o ≡ none → T (is_some o) → ⊥
unfolding is_some
none_there none e t = t
none_there (some t) e u = let z : ◌≡◌ {A = ℕ} 0 1 = cc in omega arith

pub run_since : (s : Scheme) (m : State) (qs : List Request) → Since m.things (run papers s m qs).things
run_since s m qs = run_keeps (Later m.things) papers (since_act m.things) s m qs
    (record { rises = omega arith; new = λ x fresh there. absurd (none_there (m.things.thing x) fresh there) })

-- in an accepted matrix no thing's id is above the highest
pub none_above : (h : Head) (m : Matrix) → T (accepted_matrix h m) → (x : ℕ) → T (is_some ((stands_for m).things.thing x)) → x ≤ (stands_for m).things.highest
unfolding stands_for paper_things
none_above h m ok x there =
    let is = seat_is m.things x (some_known m.things x there) in
    omega (arith, ids_below h m.things (held h m ok).things (seat m.things x))

-- what was there, and then wasn't, never is again
pub no_return : (before gone later : Population) (x : ℕ) → Since before gone → Since gone later → x ≤ before.highest → gone.thing x ≡ none →
    later.thing x ≡ none
no_return before gone later x a b low e = absent (later.thing x) (not_T (is_some (later.thing x)) (λ there. omega (arith, a.rises, b.new x e there)))

-- ---- the ids that a run creates rise

-- behind what is created on the way, whatever rises from the highest that is left rises from the highest before it
unfoldable Rises : State → List ℕ → Outcome State → Type 0
Rises m xs (done n) = (rest : List ℕ) → T (rises_from n.things.highest rest) → T (rises_from m.things.highest (xs ++ rest))
Rises m xs (refused r) = Unit {0}

rises_then : (m : State) (xs ys : List ℕ) (o : Outcome State) (f : State → Outcome State) → Rises m xs o → ((n : State) → Rises n ys (f n)) →
    Rises m (xs ++ ys) (and_then o f)
unfolding and_then Rises
rises_then m xs ys (done n) f h law = go (f n) (law n)
  where
    go : (o : Outcome State) → Rises n ys o → Rises m (xs ++ ys) o
    go (done k) g = λ rest up. rw (append_assoc xs ys rest) (h (ys ++ rest) (g rest up))
    go (refused r) g = tt
rises_then m xs ys (refused r) f h law = tt

rises_unless : (m : State) (xs : List ℕ) (f : Option Refusal) (o : Outcome State) → (T (passes f) → Rises m xs o) → Rises m xs (unless_fault f o)
unfolding unless_fault passes Rises
rises_unless m xs none o h = h tt
rises_unless m xs (some r) o h = tt

module _ (types : List ThingType) (ids : List ℕ) where
  rises_act : (p : ℕ) (o : Operation) (c : Code) → o.code ≡ c → (m : State) → Rises m (cond (is_create c) (id_at ids o.row ∷ []) []) (operate papers types ids p o m)
  unfolding operate act papers
  rises_act p o Enter e m = rw e (unfold Rises in λ rest up. up)
  rises_act p o Delete e m = rw e (unfold Rises in λ rest up. up)
  rises_act p o Create e m = rw e (rises_unless m _ _ _ (λ ok. create (above m x (must_pass _ _ (first_pass _ _ ok)))))
    where
      x : ℕ
      x = id_at ids o.row

      create : m.things.highest < x → Rises m (x ∷ []) (done (papers.create x (type_at types o.row) m))
      create up = unfold Rises papers born reached now_has rises_from in
          let is : max m.things.highest x ≡ x = omega arith in
          λ rest on. and_both (ltb m.things.highest x) (rises_from x rest) (lt→ltb _ _ up) (rw is at on)
  rises_act p o Destroy e m = rw e (rises_unless m _ _ _ (λ ok. unfold Rises papers gone now_has in λ rest up. up))

  rises_all : (p : ℕ) (os : List Operation) (m : State) → Rises m (created_of ids os) (operate_all papers types ids p os m)
  unfolding operate_all created_of
  rises_all p [] m = unfold Rises in λ rest up. up
  rises_all p (o ∷ os) m = go (is_create o.code) (rises_then m _ (created_of ids os) _ _ (rises_act p o o.code refl m) (rises_all (suc p) os))
    where
      go : (b : Bool) → Rises m (cond b (id_at ids o.row ∷ []) [] ++ created_of ids os) (operate_all papers types ids p (o ∷ os) m) →
          Rises m (cond b (id_at ids o.row ∷ created_of ids os) (created_of ids os)) (operate_all papers types ids p (o ∷ os) m)
      go true h = h
      go false h = h

rises_command : (m : State) (q : Request) (c : Option Command) → Rises m (created_if q c) (carry_out_if papers m q.ids c)
unfolding carry_out_if carry_out created_if
rises_command m q none = unfold Rises in tt
rises_command m q (some c) = rises_unless m _ _ _ (λ ok. rises_all _ q.ids 0 _ m)

-- what a refused request leaves is as it was, and so is the highest
rises_after : (m : State) (xs : List ℕ) (o : Outcome State) → Rises m xs o → (rest : List ℕ) → T (rises_from (after m o).things.highest rest) →
    T (rises_from m.things.highest (if_done o xs ++ rest))
unfolding Rises after if_done
rises_after m xs (done n) h rest up = h rest up
rises_after m xs (refused r) h rest up = up

run_rises : (s : Scheme) (m : State) (qs : List Request) → T (rises_from m.things.highest (created_in papers s m qs))
unfolding created_in created_by step
run_rises s m [] = unfold rises_from in tt
run_rises s m (q ∷ qs) = rises_after m _ _ (rises_command m q (get_elem? (commands_of s) q.command)) _ (run_rises s (after m (step papers s m q)) qs)

-- ---- the theorem

pub run_append : (s : Scheme) (m : State) (qs rs : List Request) → run papers s m (qs ++ rs) ≡ run papers s (run papers s m qs) rs
unfolding run
run_append s m [] rs = refl
run_append s m (q ∷ qs) rs = run_append s (after m (step papers s m q)) qs rs

pub never_again : NeverAgain
never_again = record { rise = run_rises; gone = never }
  where
    never : (s : Scheme) (m : Matrix) (before between later : List Request) (x : ℕ) → T (accepted_scheme s) → T (accepted_matrix s.head m) →
        T (is_some ((run papers s (stands_for m) before).things.thing x)) →
        (run papers s (stands_for m) (before ++ between)).things.thing x ≡ none →
        (run papers s (stands_for m) (before ++ between ++ later)).things.thing x ≡ none
    never s m before between later x ok of there e =
        let start = run papers s (stands_for m) before in
        let same : stands_for (run seats s m before) ≡ start = run_joined.same_matrix s m before ok of in
        let low : x ≤ start.things.highest = rw same at (none_above s.head (run seats s m before) (run_kept s m before ok of) x (rw same there)) in
        rw (run_append s (stands_for m) (before ++ between) later, run_append s (stands_for m) before between)
        (no_return start.things _ _ x (run_since s start between) (run_since s (run papers s start between) later) low
        (rw (run_append s (stands_for m) before between) at e))
