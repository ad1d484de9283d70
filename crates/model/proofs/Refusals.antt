-- Where the refusal of a request comes from: what holds of each refusal that one of its checks can give, holds of its answer.
-- Assumes nothing.
use Prim.Native.Nat.{ℕ, suc, ◌+◌}
use native.Mathlib.Nat.{zero-add, add-zero, add-suc, suc-add}
use mathlib.Core.Path.{◌≡◌, refl, ap}
use mathlib.Core.Bool.{Bool, true, false, not, cond}
use mathlib.Core.Option.{Option, none, some}
use mathlib.Core.List.{List, [], ◌∷◌}
use lib.Dec.{eqb}
use lib.ListN.{length, get_elem?}
use Rattle.rights.specs.Numberings.{parameter, same_type}
use Rattle.rights.specs.declared.Right.{Right}
use Rattle.rights.specs.declared.ThingType.{ThingType}
use Rattle.laws.specs.Check.{◌or_else◌, must, is_some, all}
use Rattle.model.specs.Scheme.{parameters_of, tests_of, operations_of, commands_of, is_new}
use Rattle.model.specs.Request.{Request, Thing, View, at, Answer, Outcome, done, refused, answer, is_id, unless_fault, and_then, type_fault, place_fault, places_fault}
use Rattle.model.specs.Request.{holds, tests_fault, act, operate, operate_all, carry_out, carry_out_if, step}
use Rattle.model.specs.FirstTest.{FirstFalse}
use Rattle.model.specs.declared.Test.{Test}
use Rattle.model.specs.declared.Code.{Code}
use Rattle.model.specs.declared.Code.TheVariants.{Enter, Delete, Create, Destroy}
use Rattle.model.specs.declared.Operation.{Operation}
use Rattle.model.specs.declared.Command.{Command}
use Rattle.model.specs.declared.Refusal.{Refusal}
use Rattle.model.specs.declared.Scheme.{Scheme}

-- ---- tests: one that doesn't hold stops, one that holds hands on to those behind it

module _ {M : Type 0} (view : View M) (m : M) (ids : List ℕ) where
  pub tests_stop : (p : ℕ) (t : Test) (ts : List Test) → holds view m ids t ≡ false → tests_fault view m ids p (t ∷ ts) ≡ some (at 14 p)
  unfolding tests_fault must ◌or_else◌
  tests_stop p t ts e = rw e

  pub tests_go_on : (p : ℕ) (t : Test) (ts : List Test) → holds view m ids t ≡ true → tests_fault view m ids p (t ∷ ts) ≡ tests_fault view m ids (suc p) ts
  unfolding tests_fault must ◌or_else◌
  tests_go_on p t ts e = rw e

  false_first : (t : Test) (ts : List Test) → holds view m ids t ≡ false → FirstFalse view m ids (t ∷ ts) 0
  unfolding all
  false_first t ts e = record { before = []; test = t; later = ts; are = refl; place = refl; hold = tt; fails = e }

  false_behind : (t : Test) (ts : List Test) (k : ℕ) → holds view m ids t ≡ true → FirstFalse view m ids ts k → FirstFalse view m ids (t ∷ ts) (suc k)
  unfolding all
  false_behind t ts k e first = record {
    before = t ∷ first.before;
    test = first.test;
    later = first.later;
    are = ap (λ (l : List Test). t ∷ l) first.are;
    place = ap suc first.place;
    hold = rw e first.hold;
    fails = first.fails;
  }

-- ---- where a refusal comes from

-- the refusal, if there is one, is so
unfoldable pub IfRefused : (Refusal → Type 0) → Answer → Type 0
IfRefused P none = Unit {0}
IfRefused P (some r) = P r

-- all the refusals of a place are so; all those of the operation at place p
pub record EveryPlace (P : Refusal → Type 0) : Type 0 where
  pub no_thing : P (at 12 0)
  pub other_type : P (at 13 0)
  pub on_hold : P (at 18 0)

pub record EveryOperation (P : Refusal → Type 0) (p : ℕ) : Type 0 where
  pub may_not : P (at 15 p)
  pub is_full : P (at 16 p)
  pub is_gone : P (at 17 p)

-- all that a request can meet before its tests
pub record EarlyRefusals (P : Refusal → Type 0) : Type 0 where
  pub no_command : P (at 10 0)
  pub other_count : P (at 11 0)
  pub places : EveryPlace P

module _ (P : Refusal → Type 0) where
  pub must_give : (b : Bool) (r : Refusal) → P r → IfRefused P (must b r)
  unfolding must IfRefused
  must_give true r h = tt
  must_give false r h = h

  or_give : (f g : Answer) → IfRefused P f → IfRefused P g → IfRefused P (f or_else g)
  unfolding ◌or_else◌ IfRefused
  or_give none g h k = k
  or_give (some r) g h k = h

  cond_give : (b : Bool) (f : Answer) → IfRefused P f → IfRefused P (cond b none f)
  unfolding IfRefused
  cond_give true f h = tt
  cond_give false f h = h

  module _ {M : Type 0} where
    unless_give : (f : Answer) (o : Outcome M) → IfRefused P f → IfRefused P (answer o) → IfRefused P (answer (unless_fault f o))
    unfolding unless_fault answer
    unless_give none o h k = k
    unless_give (some r) o h k = h

    then_give : (o : Outcome M) (f : M → Outcome M) → IfRefused P (answer o) → ((m : M) → IfRefused P (answer (f m))) →
        IfRefused P (answer (and_then o f))
    unfolding and_then answer
    then_give (done m) f h k = k m
    then_give (refused r) f h k = h

  type_gives : EveryPlace P → (t : ThingType) (o : Option Thing) → IfRefused P (type_fault t o)
  unfolding type_fault IfRefused
  type_gives each t none = each.no_thing
  type_gives each t (some u) = or_give _ _ (must_give (same_type u.type t) (at 13 0) each.other_type) (must_give (not u.on_hold) (at 18 0) each.on_hold)

  module _ {M : Type 0} (view : View M) where
    pub places_give : EveryPlace P → (m : M) (os : List Operation) (p : ℕ) (ts : List ThingType) (xs : List ℕ) → IfRefused P (places_fault view m os p ts xs)
    unfolding places_fault place_fault IfRefused
    places_give each m os p [] xs = tt
    places_give each m os p (t ∷ ts) [] = tt
    places_give each m os p (t ∷ ts) (x ∷ xs) =
        or_give _ _ (or_give _ _ (must_give (is_id x) (at 12 0) each.no_thing) (cond_give (is_new os (parameter p)) _ (type_gives each t (view.thing m x))))
        (places_give each m os (suc p) ts xs)

    tests_give : (m : M) (ids : List ℕ) (p : ℕ) (ts : List Test) → ((k : ℕ) → FirstFalse view m ids ts k → P (at 14 (p + k))) →
        IfRefused P (tests_fault view m ids p ts)
    unfolding IfRefused
    tests_give m ids p [] law = unfold tests_fault in tt
    tests_give m ids p (t ∷ ts) law = go (holds view m ids t) refl (tests_give m ids (suc p) ts)
      where
        go : (b : Bool) → holds view m ids t ≡ b →
            (((k : ℕ) → FirstFalse view m ids ts k → P (at 14 (suc p + k))) → IfRefused P (tests_fault view m ids (suc p) ts)) →
            IfRefused P (tests_fault view m ids p (t ∷ ts))
        go true e again = rw (tests_go_on view m ids p t ts e) (again (λ k first. rw (suc-add p k) (rw (add-suc p k) at (law (suc k) (false_behind view m ids t ts k e first)))))
        go false e again = rw (tests_stop view m ids p t ts e) (rw add-zero at (law 0 (false_first view m ids t ts e)))

    pub act_gives : (p : ℕ) → EveryOperation P p → (c : Code) (r : Right) (x y : ℕ) (t : ThingType) (m : M) → IfRefused P (answer (act view p c r x y t m))
    unfolding act answer IfRefused
    act_gives p each Enter r x y t m = tt
    act_gives p each Delete r x y t m = tt
    act_gives p each Create r x y t m =
        unless_give _ _
        (or_give _ _ (must_give (view.may_create m x) (at 15 p) each.may_not) (must_give (not (view.full m)) (at 16 p) each.is_full)) tt
    act_gives p each Destroy r x y t m = unless_give _ _ (must_give (is_some (view.thing m x)) (at 17 p) each.is_gone) tt

    pub operations_give : ((p : ℕ) → EveryOperation P p) → (types : List ThingType) (ids : List ℕ) (p : ℕ) (os : List Operation) (m : M) →
        IfRefused P (answer (operate_all view types ids p os m))
    unfolding operate_all operate answer IfRefused
    operations_give each types ids p [] m = tt
    operations_give each types ids p (o ∷ os) m = then_give _ _ (act_gives p (each p) o.code _ _ _ _ m) (operations_give each types ids (suc p) os)

    -- of 14 it is known which test gave it, of a later refusal which operations
    pub record LaterRefusals (m : M) (ids : List ℕ) (c : Command) : Type 0 where
      pub test : (k : ℕ) → FirstFalse view m ids (tests_of c.tests) k → P (at 14 k)
      pub operation : IfRefused P (answer (operate_all view (parameters_of c.parameters) ids 0 (operations_of c.operations) m))

    module _ (each : EarlyRefusals P) where
      command_gives : (m : M) (ids : List ℕ) (o : Option Command) → ((c : Command) → o ≡ some c → LaterRefusals m ids c) →
          IfRefused P (answer (carry_out_if view m ids o))
      unfolding carry_out_if carry_out answer IfRefused
      command_gives m ids none law = each.no_command
      command_gives m ids (some c) law =
          unless_give _ _
          (or_give _ _ (must_give (eqb (length ids) (length (parameters_of c.parameters))) (at 11 0) each.other_count)
          (or_give _ _ (places_give each.places m (operations_of c.operations) 0 (parameters_of c.parameters) ids)
          (tests_give m ids 0 (tests_of c.tests) (λ k first. rw zero-add ((law c refl).test k first)))))
          (law c refl).operation

      pub request_gives : (s : Scheme) (m : M) (q : Request) →
          ((c : Command) → get_elem? (commands_of s) q.command ≡ some c → LaterRefusals m q.ids c) → IfRefused P (answer (step view s m q))
      unfolding step
      request_gives s m q = command_gives m q.ids (get_elem? (commands_of s) q.command)
