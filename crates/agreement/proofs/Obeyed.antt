-- The replies that a run stores tell which requests were carried out before the first refusal; those are requests that can be written, and each of them is
-- carried out again when just they are run. The first requests of a list, where they are carried out, are so by themselves, with the replies that stand in
-- front. And what two schemes' replies to the same answers have in common: all but the steps. Assumes nothing.
use Prim.Native.Nat.{ℕ, suc, ◌*◌, ◌≤◌}
use native.Mathlib.Omega.{arith}
use mathlib.Core.Path.{◌≡◌, refl, ap}
use mathlib.Core.Option.{none}
use mathlib.Core.List.{List, [], ◌∷◌, ◌++◌, map, head-eq_of_cons-eq, tail-eq_of_cons-eq}
use lib.Dec.{T, leb, leb→le}
use lib.ListN.{length, take}
use borrow.Author.Tests.{ne_eqb}
use Rattle.laws.specs.Check.{between, Each}
use Rattle.laws.proofs.Bools.{and_left}
use Rattle.model.specs.Request.{Request, Answer, Outcome, done, refused, answer, number, after, step, answers}
use Rattle.model.specs.Answers.{test_place, reply_of, reply_to, reply_each, reply_width, reply_bytes}
use Rattle.model.specs.Papers.{State, papers}
use Rattle.model.specs.Promises.{tells_request}
use Rattle.model.specs.declared.Scheme.{Scheme}
use Rattle.model.proofs.Numbers.{request_numbers}
use Rattle.conversion.specs.Demand3.{on_if, obeyed}
use Rattle.records.specs.Bytes.{each_bytes}
use Rattle.agreement.specs.Replies.{obeyed_by, besides_steps}

-- the bytes of the replies to a list, one behind the other
abbrev pub replies : Scheme → List Request → List Answer → List ℕ
replies s qs list = each_bytes reply_bytes (reply_each s qs list)

pub same_besides : (s s' : Scheme) (qs : List Request) (list : List Answer) (more : List ℕ) →
    besides_steps (length qs) (replies s' qs list ++ more) ≡ besides_steps (length qs) (replies s qs list ++ more)
unfolding reply_each besides_steps reply_bytes reply_to reply_of
same_besides s s' [] list more = refl
same_besides s s' (q ∷ qs) [] more = refl
same_besides s s' (q ∷ qs) (a ∷ list) more = ap (λ (bs : List ℕ). number a ∷ test_place a ∷ bs) (same_besides s s' qs list more)

-- ---- one request, by its outcome
told_one : (s : Scheme) (m : State) (q : Request) (qs : List Request) (rest : List ℕ) (o : Outcome State) → T (tells_request (answer o)) →
    ((next : State) → obeyed_by qs (replies s qs (answers papers s next qs) ++ rest) ≡ obeyed s next qs) →
    obeyed_by (q ∷ qs) (replies s (q ∷ qs) (answer o ∷ answers papers s (after m o) qs) ++ rest) ≡ on_if o q (λ next. obeyed s next qs)
unfolding obeyed_by on_if answer after reply_each reply_bytes reply_to reply_of number tells_request between
told_one s m q qs rest (done next) t law = ap (λ (ps : List Request). q ∷ ps) (law next)
told_one s m q qs rest (refused r) t law =
    let h : 10 ≤ r.number = leb→le 10 r.number (and_left (leb 10 r.number) _ t) in
    rw (ne_eqb r.number 0 (λ e. omega arith))

pub told : (s : Scheme) (m : State) (qs : List Request) (rest : List ℕ) → obeyed_by qs (replies s qs (answers papers s m qs) ++ rest) ≡ obeyed s m qs
unfolding answers obeyed
told s m [] rest = unfold obeyed_by in refl
told s m (q ∷ qs) rest = told_one s m q qs rest (step papers s m q) (request_numbers State papers s m q) (λ next. told s next qs rest)

-- ---- they are among the list's
pub obeyed_each : (P : Request → Type 0) (s : Scheme) (m : State) (qs : List Request) → Each P qs → Each P (obeyed s m qs)
unfolding obeyed
obeyed_each P s m [] each = tt
obeyed_each P s m (q ∷ qs) (p, each) = by (step papers s m q) (λ next. obeyed_each P s next qs each)
  where
    by : (o : Outcome State) → ((next : State) → Each P (obeyed s next qs)) → Each P (on_if o q (λ next. obeyed s next qs))
    by (done next) law = unfold on_if in (p, law next)
    by (refused r) law = unfold on_if in tt

-- ---- and each is carried out when just they are run
abbrev pub AllDone : Scheme → State → List Request → Type 0
AllDone s m ps = answers papers s m ps ≡ map (λ q. none) ps

pub obeyed_done : (s : Scheme) (m : State) (qs : List Request) → AllDone s m (obeyed s m qs)
unfolding obeyed answers
obeyed_done s m [] = refl
obeyed_done s m (q ∷ qs) = by (step papers s m q) refl (λ next. obeyed_done s next qs)
  where
    by : (o : Outcome State) → step papers s m q ≡ o → ((next : State) → AllDone s next (obeyed s next qs)) → AllDone s m (on_if o q (λ next. obeyed s next qs))
    by (done next) e law = unfold on_if in rw e (unfold answer in unfold after in ap (λ (list : List Answer). none ∷ list) (law next))
    by (refused r) e law = unfold on_if in refl

pub replies_none : (s : Scheme) (qs : List Request) → replies s qs (map (λ q. none) qs) ≡ each_bytes (λ (q : Request). reply_bytes (reply_to s q none)) qs
unfolding reply_each
replies_none s [] = refl
replies_none s (q ∷ qs) = ap (λ (bs : List ℕ). reply_bytes (reply_to s q none) ++ bs) (replies_none s qs)

-- ---- the first requests of a list: what holds of each of a list holds of its first; and those that are carried out are so without the others
pub each_first : (P : Request → Type 0) (ps rest : List Request) → Each P (ps ++ rest) → Each P ps
each_first P [] rest each = tt
each_first P (q ∷ ps) rest (p, each) = (p, each_first P ps rest each)

pub done_first : (s : Scheme) (m : State) (ps rest : List Request) → AllDone s m (ps ++ rest) → AllDone s m ps
unfolding answers
done_first s m [] rest e = refl
done_first s m (q ∷ ps) rest e =
    rw (head-eq_of_cons-eq e) (ap (λ (list : List Answer). none ∷ list) (done_first s (after m (step papers s m q)) ps rest (tail-eq_of_cons-eq e)))

-- their replies stand in front of the others'
pub replies_front : (s : Scheme) (m : State) (ps rest : List Request) (more : List ℕ) → AllDone s m ps →
    take (reply_width * length ps) (replies s (ps ++ rest) (answers papers s m (ps ++ rest)) ++ more) ≡ each_bytes (λ (q : Request). reply_bytes (reply_to s q none)) ps
unfolding answers reply_each reply_bytes
replies_front s m [] rest more e = refl
replies_front s m (q ∷ ps) rest more e =
    let long : reply_width * length (q ∷ ps) ≡ suc (suc (suc (reply_width * length ps))) = omega arith in
    rw (long, head-eq_of_cons-eq e)
    (ap (λ (bs : List ℕ). reply_bytes (reply_to s q none) ++ bs) (replies_front s (after m (step papers s m q)) ps rest more (tail-eq_of_cons-eq e)))
