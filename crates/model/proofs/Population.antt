-- How many things exist: at most 48, in memory and in the papers' matrix after a request; and a memory is full exactly if 48 do.
-- `count_ids` is opened only over a general number of ids, never at 65535: that would take 65535 steps. Assumes nothing.
use Prim.Native.Nat.{ℕ, zero, suc, ◌+◌, ◌≤◌, ◌<◌}
use mathlib.Core.Path.{◌≡◌, refl, sym, ap, ◌∙◌}
use mathlib.Core.Logic.{◌≢◌}
use mathlib.Core.Bool.{Bool, true, false, not, cond, ◌||◌}
use mathlib.Core.Option.{none}
use mathlib.Core.List.{List, [], ◌∷◌}
use native.Mathlib.Decide.{ℕ_discrete}
use native.Mathlib.Omega.{arith}
use lib.Dec.{T, eqb, leb, nleb→lt, leb-suc-suc}
use lib.ListN.{length, get_or}
use borrow.Author.Tests.{eq-eqb, eqb-true, eqb-false, lt-leb}
use Rattle.rights.specs.declared.Right.{Right}
use Rattle.rights.specs.declared.ThingType.{ThingType}
use Rattle.laws.specs.Check.{is_some}
use Rattle.model.specs.Request.{Request, after, act, step}
use Rattle.model.specs.Papers.{Population, State, count_ids, how_many, now_is, now_has, reached, born, gone, papers}
use Rattle.model.specs.Seats.{Matrix, among, known, full, thing_at, paper_things, stands_for}
use Rattle.model.specs.Accepted.{apart}
use Rattle.model.specs.Promises.{AtMost48}
use Rattle.model.specs.declared.Code.{Code}
use Rattle.model.specs.declared.Code.TheVariants.{Enter, Delete, Create, Destroy}
use Rattle.model.specs.declared.Head.{Head}
use Rattle.model.specs.declared.Scheme.{Scheme}
use Rattle.model.specs.declared.Things.{Things}
use Rattle.laws.proofs.Bools.{is_false, and_right, must_pass, then_pass, eqb_not, one_mono}
use Rattle.model.proofs.Held.{Held}
use Rattle.model.proofs.Find.{is_known}
use Rattle.model.proofs.Invariant.{IfDone, is_done, unless_done, step_keeps}
use Rattle.model.proofs.HeldLaws.{first_apart, ids_apart, ids_small, held}

-- ---- counts

pub count_same : (k : ℕ) (f g : ℕ → Bool) → ((x : ℕ) → 1 ≤ x → x ≤ k → f x ≡ g x) → count_ids k f ≡ count_ids k g
unfolding count_ids
count_same zero f g h = refl
count_same (suc k) f g h = rw (count_same k f g (λ x a b. h x a (omega arith)), h (suc k) (omega arith) (omega arith))

count_none : (k : ℕ) → count_ids k (λ x. false) ≡ 0
unfolding count_ids
count_none zero = refl
count_none (suc k) = rw (count_none k)

count_mono : (k : ℕ) (f g : ℕ → Bool) → ((x : ℕ) → T (f x) → T (g x)) → count_ids k f ≤ count_ids k g
unfolding count_ids
count_mono zero f g h = omega arith
count_mono (suc k) f g h = omega (arith, count_mono k f g h, one_mono (f (suc k)) (g (suc k)) (h (suc k)))

-- two tests that differ at y at most: the counts differ by one at most, and by just one where the second gains y
module _ (f g : ℕ → Bool) (y : ℕ) (same : (x : ℕ) → x ≢ y → f x ≡ g x) where
  count_below : (k : ℕ) → k < y → count_ids k f ≡ count_ids k g
  count_below k h = count_same k f g (λ x a b. same x (λ e. omega arith))

  count_change : (k : ℕ) → count_ids k g ≤ suc (count_ids k f)
  unfolding count_ids
  count_change zero = omega arith
  count_change (suc k) = go (ℕ_discrete (suc k) y) (count_change k)
    where
      go : Dec (suc k ≡ y) → count_ids k g ≤ suc (count_ids k f) → count_ids k g + cond (g (suc k)) 1 0 ≤ suc (count_ids k f + cond (f (suc k)) 1 0)
      go (yes e) h = omega (arith, count_below k (omega arith), one_mono (g (suc k)) true (λ t. tt))
      go (no n) h = rw (same (suc k) n) (omega arith)

  count_gain : (k : ℕ) → 1 ≤ y → y ≤ k → f y ≡ false → g y ≡ true → count_ids k g ≡ suc (count_ids k f)
  unfolding count_ids
  count_gain zero a b ef eg = absurd (omega arith)
  count_gain (suc k) a b ef eg = go (ℕ_discrete (suc k) y) (λ h. count_gain k a h ef eg)
    where
      go : Dec (suc k ≡ y) → (y ≤ k → count_ids k g ≡ suc (count_ids k f)) → count_ids k g + cond (g (suc k)) 1 0 ≡ suc (count_ids k f + cond (f (suc k)) 1 0)
      go (yes e) h = rw (e, ef, eg) (omega (arith, count_below k (omega arith)))
      go (no n) h = rw (same (suc k) n) (omega (arith, h (omega arith)))

pub count_add : (k : ℕ) (f : ℕ → Bool) (y : ℕ) → 1 ≤ y → y ≤ k → f y ≡ false → count_ids k (λ x. eqb y x || f x) ≡ suc (count_ids k f)
count_add k f y a b e =
    count_gain f (λ x. eqb y x || f x) y (λ x n. rw (eqb_not y x (λ q. n (sym q)))) k a b e (rw (eq-eqb y y refl))

-- ---- the ids in memory

-- how many seats are taken
taken : List ℕ → ℕ
taken [] = 0
taken (x ∷ xs) = cond (eqb x 0) (taken xs) (suc (taken xs))

count_among : (k : ℕ) (xs : List ℕ) → ((i : ℕ) → get_or xs i 0 ≤ k) → T (apart xs) → count_ids k (among xs) ≡ taken xs
unfolding among apart taken
count_among k [] h t = count_none k
count_among k (x ∷ xs) h t = go (eqb x 0) refl (count_among k xs (λ i. h (suc i)) (and_right (eqb x 0 || not (among xs x)) (apart xs) t))
  where
    go : (b : Bool) → eqb x 0 ≡ b → count_ids k (among xs) ≡ taken xs → count_ids k (among (x ∷ xs)) ≡ cond b (taken xs) (suc (taken xs))
    go true e r = count_same k _ _ (λ z a b. rw (eqb_not x z (λ q. omega (arith, eqb-true x 0 e)))) ∙ r
    go false e r =
        let nz : x ≢ 0 = eqb-false x 0 e in
        count_add k (among xs) x (omega arith) (h zero) (is_false (among xs x) (first_apart x xs t nz)) ∙ ap suc r

taken_le : (xs : List ℕ) → taken xs ≤ length xs
unfolding taken
taken_le [] = omega arith
taken_le (x ∷ xs) = go (eqb x 0) (taken_le xs)
  where
    go : (b : Bool) → taken xs ≤ length xs → cond b (taken xs) (suc (taken xs)) ≤ suc (length xs)
    go true h = omega arith
    go false h = omega arith

-- all are taken exactly if 0 is no seat's id
taken_all : (xs : List ℕ) → not (among xs 0) ≡ leb (length xs) (taken xs)
unfolding among taken
taken_all [] = refl
taken_all (x ∷ xs) = go (eqb x 0) (taken_all xs)
  where
    go : (b : Bool) → not (among xs 0) ≡ leb (length xs) (taken xs) → not (b || among xs 0) ≡ leb (suc (length xs)) (cond b (taken xs) (suc (taken xs)))
    go true h = sym (lt-leb (suc (length xs)) (taken xs) (omega (arith, taken_le xs)))
    go false h = h ∙ sym (leb-suc-suc (length xs) (taken xs))

thing_known : (th : Things) (x : ℕ) → 1 ≤ x → is_some (thing_at th x) ≡ among th.ids x
unfolding known
thing_known th x h = is_known th x ∙ rw (eqb_not x 0 (λ e. omega arith))

population : (s : Head) (m : Matrix) → Held s m → how_many (stands_for m).things ≡ taken m.things.ids
unfolding how_many stands_for paper_things
population s m h =
    count_same 65535 _ _ (λ x a b. thing_known m.things x a)
    ∙ count_among 65535 m.things.ids (ids_small s m.things h.things) (ids_apart s m.things h.things)

pub full_law : (s : Head) (m : Matrix) → Held s m → full m.things ≡ leb 48 (how_many (stands_for m).things)
unfolding full
full_law s m h = rw (population s m h, ← h.things.id_room) (taken_all m.things.ids)

pub few : (s : Head) (m : Matrix) → Held s m → how_many (stands_for m).things ≤ 48
few s m h = rw (population s m h, ← h.things.id_room) (taken_le m.things.ids)

-- ---- the papers' matrix

-- at most one more thing than before; and no more than before
create_many : (x : ℕ) (t : ThingType) (m : Population) → how_many (born x t m) ≤ suc (how_many m)
unfolding how_many born reached now_has now_is
create_many x t m = count_change (λ a. is_some (m.thing a)) _ x (λ a n. rw (eqb_not a x n)) 65535

destroy_many : (x : ℕ) (m : Population) → how_many (gone x m) ≤ how_many m
unfolding how_many gone now_has now_is is_some
destroy_many x m = count_mono 65535 _ _ (λ a. go (eqb a x) a)
  where
    go : (b : Bool) (a : ℕ) → T (is_some (cond b none (m.thing a))) → T (is_some (m.thing a))
    go true a t = absurd t
    go false a t = t

abbrev Few : State → Type 0
Few m = how_many m.things ≤ 48

full_few : (m : State) → T (not (papers.full m)) → how_many m.things < 48
unfolding papers
full_few m t = nleb→lt 48 (how_many m.things) t

act_few : (p : ℕ) (c : Code) (r : Right) (x y : ℕ) (t : ThingType) (m : State) → Few m → IfDone Few (act papers p c r x y t m)
unfolding act papers
act_few i Enter r x y t m h = is_done Few _ h
act_few i Delete r x y t m h = is_done Few _ h
act_few i Create r x y t m h =
    unless_done Few _ (papers.create x t m) (λ p. omega (arith, create_many x t m.things, full_few m (must_pass _ _ (then_pass _ _ p))))
act_few i Destroy r x y t m h = unless_done Few _ (papers.destroy x m) (λ p. omega (arith, destroy_many x m.things))

pub at_most_kept : (s : Scheme) (m : State) (q : Request) → how_many m.things ≤ 48 → how_many (after m (step papers s m q)).things ≤ 48
at_most_kept s m q h = step_keeps Few papers act_few s m q h

pub at_most_48 : AtMost48
at_most_48 = record { in_memory = λ s m t. few s.head m (held s.head m t); kept = at_most_kept }
