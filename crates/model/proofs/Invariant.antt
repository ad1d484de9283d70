-- What each operation keeps, a request and a list of requests keep, in any form of a matrix: as "at most 48 things".
-- And of two matrices: what every request keeps between them, with the same answer, a list keeps with the same answers. Assumes nothing.
use Prim.Native.Nat.{ℕ, suc}
use mathlib.Core.Path.{◌≡◌, refl, ap, ap₂}
use mathlib.Core.Option.{Option, none, some}
use mathlib.Core.List.{List, [], ◌∷◌}
use lib.Dec.{T}
use lib.ListN.{get_elem?}
use Rattle.rights.specs.declared.Right.{Right}
use Rattle.rights.specs.declared.ThingType.{ThingType}
use Rattle.laws.specs.Check.{passes}
use Rattle.model.specs.Scheme.{commands_of}
use Rattle.model.specs.Request.{Request, View, Answer, Outcome, done, refused, answer, after, unless_fault, and_then, act, operate, operate_all}
use Rattle.model.specs.Request.{carry_out, carry_out_if, step, run, answers}
use Rattle.model.specs.Papers.{State, papers}
use Rattle.model.specs.declared.Code.{Code}
use Rattle.model.specs.declared.Operation.{Operation}
use Rattle.model.specs.declared.Command.{Command}
use Rattle.model.specs.declared.Scheme.{Scheme}
use Rattle.model.proofs.Stands.{Agree}
use Rattle.model.specs.declared.Refusal.{Refusal}

-- ---- of one matrix

-- what is carried out leaves a matrix of which P holds; a refusal leaves none
unfoldable pub IfDone : {M : Type 0} → (M → Type 0) → Outcome M → Type 0
IfDone P (done m) = P m
IfDone P (refused r) = Unit {0}

module _ {M : Type 0} (P : M → Type 0) where
  pub is_done : (m : M) → P m → IfDone P (done m)
  unfolding IfDone
  is_done m h = h

  pub unless_done : (f : Option Refusal) (m : M) → (T (passes f) → P m) → IfDone P (unless_fault f (done m))
  unfolding unless_fault passes IfDone
  unless_done none m h = h tt
  unless_done (some r) m h = tt

  unless_if : (f : Option Refusal) (o : Outcome M) → IfDone P o → IfDone P (unless_fault f o)
  unfolding unless_fault IfDone
  unless_if none o h = h
  unless_if (some r) o h = tt

  pub then_done : (o : Outcome M) (f : M → Outcome M) → IfDone P o → ((m : M) → P m → IfDone P (f m)) → IfDone P (and_then o f)
  unfolding and_then IfDone
  then_done (done m) f h law = law m h
  then_done (refused r) f h law = tt

  after_done : (m : M) (o : Outcome M) → P m → IfDone P o → P (after m o)
  unfolding after IfDone
  after_done m (done n) h k = k
  after_done m (refused r) h k = h

  module _ (view : View M) (keeps : (p : ℕ) (c : Code) (r : Right) (x y : ℕ) (t : ThingType) (m : M) → P m → IfDone P (act view p c r x y t m)) where
    all_keep : (types : List ThingType) (ids : List ℕ) (p : ℕ) (os : List Operation) (m : M) → P m → IfDone P (operate_all view types ids p os m)
    unfolding operate_all operate
    all_keep types ids p [] m h = is_done m h
    all_keep types ids p (o ∷ os) m h = then_done (operate view types ids p o m) _ (keeps p o.code _ _ _ _ m h) (all_keep types ids (suc p) os)

    command_keeps : (m : M) (ids : List ℕ) (c : Option Command) → P m → IfDone P (carry_out_if view m ids c)
    unfolding carry_out_if carry_out
    command_keeps m ids none h = unfold IfDone in tt
    command_keeps m ids (some c) h = unless_if _ _ (all_keep _ ids 0 _ m h)

    pub step_keeps : (s : Scheme) (m : M) (q : Request) → P m → P (after m (step view s m q))
    unfolding step
    step_keeps s m q h = after_done m _ h (command_keeps m q.ids (get_elem? (commands_of s) q.command) h)

    pub run_keeps : (s : Scheme) (m : M) (qs : List Request) → P m → P (run view s m qs)
    unfolding run
    run_keeps s m [] h = h
    run_keeps s m (q ∷ qs) h = run_keeps s (after m (step view s m q)) qs (step_keeps s m q h)

-- ---- of a matrix of any form and a papers' matrix, each with its scheme

module _ {M : Type 0} (R : M → State → Type 0) where
  agree_answer : (o : Outcome M) (o' : Outcome State) → Agree R o o' → answer o ≡ answer o'
  unfolding answer
  agree_answer (done m) (done p) a = refl
  agree_answer (done m) (refused k) a = absurd a
  agree_answer (refused j) (done p) a = absurd a
  agree_answer (refused j) (refused k) a = ap some a

  pub agree_after : (m : M) (p : State) (o : Outcome M) (o' : Outcome State) → R m p → Agree R o o' → R (after m o) (after p o')
  unfolding after
  agree_after m p (done n) (done q) r a = a
  agree_after m p (done n) (refused k) r a = absurd a
  agree_after m p (refused j) (done q) r a = absurd a
  agree_after m p (refused j) (refused k) r a = r

  module _ (view : View M) (s s' : Scheme) (keeps : (m : M) (p : State) (q : Request) → R m p → Agree R (step view s m q) (step papers s' p q)) where
    pub run_agree : (m : M) (p : State) (qs : List Request) → R m p → (answers view s m qs ≡ answers papers s' p qs) × R (run view s m qs) (run papers s' p qs)
    unfolding answers run
    run_agree m p [] r = (refl, r)
    run_agree m p (q ∷ qs) r =
        let k : Agree R (step view s m q) (step papers s' p q) = keeps m p q r in
        let (same, related) = run_agree (after m (step view s m q)) (after p (step papers s' p q)) qs (agree_after m p _ _ r k) in
        (ap₂ (λ (x : Answer) (xs : List Answer). x ∷ xs) (agree_answer _ _ k) same, related)
