-- A thing on hold takes part in nothing: the promise `OnHold`. What is carried out names it nowhere, so each operation leaves it and its cells as they were.
-- Assumes nothing.
use Prim.Native.Nat.{ℕ, suc, ◌≤◌}
use mathlib.Core.Path.{◌≡◌, refl, ◌∙◌}
use mathlib.Core.Logic.{◌≢◌}
use mathlib.Core.Bool.{Bool, true, false, ◌&&◌, ◌||◌}
use mathlib.Core.Option.{Option, none, some}
use mathlib.Core.List.{List, [], ◌∷◌}
use native.Mathlib.Omega.{arith}
use lib.Dec.{T, eqb, eqb→eq, eqb_refl}
use lib.ListN.{get_elem?}
use borrow.Author.Tests.{eq-eqb}
use Rattle.rights.specs.declared.Right.{Right}
use Rattle.rights.specs.declared.ThingType.{ThingType}
use Rattle.rights.specs.declared.Parameter.{Parameter}
use Rattle.laws.specs.Check.{is_some}
use Rattle.laws.proofs.Bools.{is_false, and_left, and_right, or_left, or_right, first_pass, must_pass, eqb_not}
use Rattle.laws.proofs.Differ.{constructors_differ}
use Rattle.model.specs.Scheme.{parameters_of, operations_of, commands_of, id_at}
use Rattle.model.specs.Request.{Request, Thing, at, Outcome, done, refused, after, act, operate, operate_all, carry_out, carry_out_if, step, run}
use Rattle.model.specs.Papers.{State, change_cell, emptied, now_is, now_has, reached, born, gone, papers}
use Rattle.model.specs.Seats.{Matrix, paper_things, stands_for}
use Rattle.model.specs.Accepted.{accepted_matrix}
use Rattle.model.specs.declared.Code.{Code}
use Rattle.model.specs.declared.Code.TheVariants.{Enter, Delete, Create, Destroy}
use Rattle.model.specs.declared.Command.{Command}
use Rattle.model.specs.declared.Head.{Head}
use Rattle.model.specs.declared.Operation.{Operation}
use Rattle.model.specs.declared.Scheme.{Scheme}
use Rattle.model.proofs.Invariant.{IfDone, is_done, unless_done, then_done}
use Rattle.model.proofs.Find.{some_known, known_nonzero}
use Rattle.model.proofs.Simulation.{now_other}
use Rattle.model.proofs.NeverAgain.{above, none_above}
use Rattle.hold.specs.OnHold.{IsOnHold, OnHold}
use Rattle.hold.proofs.MarksKept.{there_is}
use Rattle.hold.proofs.NotNamed.{passed_done, takes_no_part_lem, not_named}

-- what is there in n, by an id up to m's highest: nothing new takes such an id, so it was there in m too
record Stayed (m n : State) (a : ℕ) : Type 0 where
  low : a ≤ m.things.highest
  there : T (is_some (n.things.thing a))

-- since m: the highest didn't fall, and X and every cell between it and what stayed are as they were
record Keeps (x : ℕ) (m n : State) : Type 0 where
  rises : m.things.highest ≤ n.things.highest
  thing : n.things.thing x ≡ m.things.thing x
  cells : (a b : ℕ) → T (eqb a x || eqb b x) → Stayed m n a → Stayed m n b → n.rights a b ≡ m.rights a b

-- ---- one operation, whose row and column aren't X

-- a cell of X isn't the cell of two others
elsewhere : (x a b u v : ℕ) → a ≢ x → b ≢ x → T (eqb u x || eqb v x) → (eqb u a && eqb v b) ≡ false
elsewhere x a b u v na nb t = is_false (eqb u a && eqb v b) (λ both. go (eqb u x) (eqb v x) refl refl t
    (eqb→eq u a (and_left (eqb u a) (eqb v b) both)) (eqb→eq v b (and_right (eqb u a) (eqb v b) both)))
  where
    go : (c d : Bool) → eqb u x ≡ c → eqb v x ≡ d → T (c || d) → u ≡ a → v ≡ b → ⊥
    go true d e f t p q = na (let is : u ≡ x = eqb→eq u x (rw e tt) in omega arith)
    go false true e f t p q = nb (let is : v ≡ x = eqb→eq v x (rw f tt) in omega arith)
    go false false e f t p q = t

-- what is there isn't what was destroyed
not_gone : (a : ℕ) (f : ℕ → Option Thing) (u : ℕ) → T (is_some (now_is a none f u)) → u ≢ a
unfolding now_is is_some
not_gone a f u there e = rw (eq-eqb u a e) at there

module _ (x : ℕ) (m : State) where
  abbrev Kept : State → Type 0
  Kept n = Keeps x m n

  kept_change : (f : ℕ → ℕ) (a b : ℕ) (n : State) → a ≢ x → b ≢ x → Kept n → Kept (record { things = n.things; rights = change_cell f a b n.rights })
  unfolding change_cell
  kept_change f a b n na nb h = record {
    rises = h.rises;
    thing = h.thing;
    cells = λ u v beside su sv.
        rw (elsewhere x a b u v na nb beside)
        (h.cells u v beside (record { low = su.low; there = su.there }) (record { low = sv.low; there = sv.there }));
  }

  -- a create's id is above what stayed; a destroyed one's didn't stay
  kept_emptied : (a : ℕ) (now : Option Thing) (n k : State) → a ≢ x → k.things.thing ≡ now_is a now n.things.thing → k.rights ≡ emptied a n.rights →
      n.things.highest ≤ k.things.highest → ((u : ℕ) → Stayed m k u → u ≢ a) → Kept n → Kept k
  unfolding emptied
  kept_emptied a now n k na things rights up other h = record {
    rises = omega (arith, h.rises);
    thing = rw things (now_other a now n.things.thing x (λ e. na (omega arith)) ∙ h.thing);
    cells = λ u v beside su sv.
        rw (rights, eqb_not u a (other u su), eqb_not v a (other v sv)) (h.cells u v beside (before u su) (before v sv));
  }
    where
      before : (u : ℕ) → Stayed m k u → Stayed m n u
      before u s = record { low = s.low; there = rw (things, now_other a now n.things.thing u (other u s)) at s.there }

  kept_act : (p : ℕ) (c : Code) (r : Right) (a b : ℕ) (t : ThingType) (n : State) → a ≢ x → b ≢ x → Kept n → IfDone Kept (act papers p c r a b t n)
  unfolding act papers born reached gone now_has
  kept_act p Enter r a b t n na nb h = is_done Kept _ (kept_change _ a b n na nb h)
  kept_act p Delete r a b t n na nb h = is_done Kept _ (kept_change _ a b n na nb h)
  kept_act p Create r a b t n na nb h = unless_done Kept _ _ (λ ok.
      let up = above n a (must_pass _ _ (first_pass _ _ ok)) in
      kept_emptied a _ n _ na refl refl (omega arith) (λ u s e. omega (arith, s.low, h.rises)) h)
  kept_act p Destroy r a b t n na nb h = unless_done Kept _ _ (λ ok.
      kept_emptied a none n _ na refl refl (omega arith) (λ u s. not_gone a n.things.thing u s.there) h)

  -- ---- all of them, one request, and a list

  kept_all : (types : List ThingType) (ids : List ℕ) → ((q : Parameter) → id_at ids q ≢ x) → (p : ℕ) (os : List Operation) (n : State) → Kept n →
      IfDone Kept (operate_all papers types ids p os n)
  unfolding operate_all operate
  kept_all types ids other p [] n h = is_done Kept n h
  kept_all types ids other p (o ∷ os) n h =
      then_done Kept _ _ (kept_act p o.code _ _ _ _ n (other o.row) (other o.column) h) (kept_all types ids other (suc p) os)

  module _ (t : Thing) (on : IsOnHold m x t) (nz : x ≢ 0) (low : x ≤ m.things.highest) where
    still : (n : State) → Kept n → IsOnHold n x t
    still n h = record { there = h.thing ∙ on.there; on_hold = on.on_hold }

    kept_done : (s : Scheme) (q : Request) (n k : State) → Kept n → step papers s n q ≡ done k → Kept k
    unfolding step carry_out_if carry_out IfDone
    kept_done s q n k h e = go (get_elem? (commands_of s) q.command) refl
      where
        go : (c : Option Command) → get_elem? (commands_of s) q.command ≡ c → Kept k
        go none is = let none : refused (at 10 0) ≡ done k = rw is at e in constructors_differ (cc)
        go (some c) is =
            let os = operations_of c.operations in
            let types = parameters_of c.parameters in
            let all : operate_all papers types q.ids 0 os n ≡ done k = (passed_done _ _ k (rw is at e)).1 in
            let other = not_named s n k q c x t is e (still n h) nz (omega (arith, h.rises)) in
            rw all at (kept_all types q.ids other 0 os n h)

    kept_step : (s : Scheme) (q : Request) (n : State) → Kept n → Kept (after n (step papers s n q))
    unfolding after
    kept_step s q n h = go (step papers s n q) refl
      where
        go : (o : Outcome State) → step papers s n q ≡ o → Kept (after n o)
        go (done k) e = kept_done s q n k h e
        go (refused r) e = h

    kept_run : (s : Scheme) (qs : List Request) (n : State) → Kept n → Kept (run papers s n qs)
    unfolding run
    kept_run s [] n h = h
    kept_run s (q ∷ qs) n h = kept_run s qs (after n (step papers s n q)) (kept_step s q n h)

-- ---- the promise

-- in an accepted matrix no thing's id is 0
not_0 : (m : Matrix) (x : ℕ) → T (is_some ((stands_for m).things.thing x)) → x ≢ 0
unfolding stands_for paper_things
not_0 m x there = known_nonzero m.things x (some_known m.things x there)

keeps : (s : Scheme) (h : Head) (m : Matrix) (qs : List Request) (x : ℕ) (t : Thing) → T (accepted_matrix h m) → IsOnHold (stands_for m) x t →
    Keeps x (stands_for m) (run papers s (stands_for m) qs)
keeps s h m qs x t ok on =
    let is : T (is_some ((stands_for m).things.thing x)) = there_is on.there in
    kept_run x (stands_for m) t on (not_0 m x is) (none_above h m ok x is) s qs (stands_for m)
    (record { rises = omega arith; thing = refl; cells = λ a b beside sa sb. refl })

module _ (s : Scheme) (h : Head) (m : Matrix) (qs : List Request) (x y : ℕ) (t : Thing) (ok : T (accepted_matrix h m)) (on : IsOnHold (stands_for m) x t)
    (was : T (is_some ((stands_for m).things.thing y))) (is : T (is_some ((run papers s (stands_for m) qs).things.thing y))) where
  abbrev end : State
  end = run papers s (stands_for m) qs

  x_stayed : Stayed (stands_for m) end x
  x_stayed = record { low = none_above h m ok x (there_is on.there); there = there_is ((keeps s h m qs x t ok on).thing ∙ on.there) }

  y_stayed : Stayed (stands_for m) end y
  y_stayed = record { low = none_above h m ok y was; there = is }

  row : end.rights x y ≡ (stands_for m).rights x y
  row = (keeps s h m qs x t ok on).cells x y (or_left (eqb x x) (eqb y x) (eqb_refl x)) x_stayed y_stayed

  column : end.rights y x ≡ (stands_for m).rights y x
  column = (keeps s h m qs x t ok on).cells y x (or_right (eqb y x) (eqb x x) (eqb_refl x)) y_stayed x_stayed

pub on_hold_lem : OnHold
on_hold_lem = record {
  takes_no_part = takes_no_part_lem;
  stays = λ s h m qs x t ok on. (keeps s h m qs x t ok on).thing ∙ on.there;
  keeps_row = row;
  keeps_column = column;
}
