-- A thing on hold takes part in nothing, of the functions and of the library: the promise `OnHold`. Memory's answer to a request is the papers', and what
-- runs and calls leave is what a run on paper leaves (`Later`); of both crates/hold tells. Hold and then release stands in `HoldRelease`.
-- Assumes nothing.
use Prim.Native.Nat.{ℕ}
use native.Mathlib.Omega.{arith}
use mathlib.Core.Path.{◌≡◌, refl, sym, ap, ◌∙◌}
use mathlib.Core.Bool.{Bool, true, false, cond, ◌&&◌, ◌||◌}
use mathlib.Core.Option.{Option, none, some}
use mathlib.Core.List.{List}
use lib.Dec.{T, eqb, leb, leb→le, eqb→eq}
use borrow.Author.Tests.{eqb-true}
use Rattle.laws.specs.Check.{is_some, between}
use Rattle.laws.proofs.Bools.{is_true, is_false, from_true, and_left, and_right, or_left}
use Rattle.model.specs.Request.{Request, Thing, Outcome, done, refused, at, answer, number, after, step, run}
use Rattle.model.specs.Answers.{Steps, steps_of, reply_of, reply_to}
use Rattle.model.specs.Papers.{Population, State, is_subject_thing, cell_exists, now_is, now_has, papers}
use Rattle.model.specs.Seats.{Matrix, matrix_of, known, thing_at, cell, seats, paper_things, stands_for}
use Rattle.model.specs.Accepted.{accepted_scheme, accepted_matrix}
use Rattle.model.specs.declared.Head.{Head}
use Rattle.model.specs.declared.Scheme.{Scheme}
use Rattle.model.proofs.Find.{is_known}
use Rattle.model.proofs.Joined.{joined}
use Rattle.conversion.specs.Demand3.{Mirrors, Within}
use Rattle.engine.specs.Step.{answered, request_on}
use Rattle.hold.specs.Marking.{marked_if, mark_on_paper}
use Rattle.hold.specs.OnHold.{takes_part, refused_early, IsOnHold}
use Rattle.hold.proofs.OnHold.{on_hold_lem as on_paper}
use Rattle.agreement.specs.LibraryAgrees.{Bytes, read_in}
use Rattle.agreement.specs.NeverAgain.{Run, after_runs, Call, image_after}
use Rattle.agreement.specs.OnHold.{HeldIn, Untouched, TookNoPart, Both, OnHold}
use Rattle.agreement.proofs.EachReply.{accepted, same_answer}
use Rattle.agreement.proofs.HoldRelease.{as_on_paper_lem, back_again_lem}
use Rattle.agreement.proofs.Later.{Later, runs_later, stranger_stays, there_known, reads_there, read_as, calls_later}

-- ---- one request

-- on hold in memory is on hold on paper
held_on_paper : {m : Matrix} {x : ℕ} {t : Thing} → HeldIn m x t → IsOnHold (stands_for m) x t
unfolding stands_for paper_things
held_on_paper h = record { there = h.there; on_hold = h.on_hold }

-- neither 14 nor 15 to 17 is 10 to 13 or 18
module _ (k : ℕ) where
  early : T (between 10 13 k || eqb k 18) → (eqb k 14 ≡ false) × (between 15 17 k ≡ false)
  unfolding between
  early t = (is_false (eqb k 14) not_14, is_false (leb 15 k && leb k 17) not_15)
    where
      not_14 : T (eqb k 14) → ⊥
      not_14 u = rw (eqb→eq k 14 u) at t

      not_15 : T (leb 15 k && leb k 17) → ⊥
      not_15 u = go (leb 10 k && leb k 13) refl t
        where
          go : (b : Bool) → (leb 10 k && leb k 13) ≡ b → T (b || eqb k 18) → ⊥
          go true e v = omega (arith, leb→le 15 k (and_left (leb 15 k) _ u), leb→le k 13 (and_right (leb 10 k) _ (from_true e)))
          go false e v = omega (arith, leb→le k 17 (and_right (leb 15 k) _ u), eqb→eq k 18 v)

  early_or_27 : T (between 10 13 k || eqb k 18) → T (between 10 13 k || eqb k 18 || eqb k 27)
  early_or_27 = go (between 10 13 k) (eqb k 18) (eqb k 27)
    where
      go : (a b c : Bool) → T (a || b) → T (a || b || c)
      go true b c t = tt
      go false b c t = or_left b c t

no_part : (m : Matrix) (all : Steps) (o : Outcome Matrix) → T (refused_early (answer o)) → TookNoPart m (reply_of all (answer o)) (after m o)
unfolding answer refused_early reply_of number steps_of after
no_part m all (done n) t = absurd t
no_part m all (refused r) t =
    let (not_14, not_15) = early r.number t in
    record { number = early_or_27 r.number t; no_steps = rw (not_14, not_15); same = refl }

request : (s : Scheme) (m : Matrix) (command : ℕ) (ids : List ℕ) (x : ℕ) (t : Thing) → HeldIn m x t →
    T (takes_part s (record { command = command; ids = ids }) x) →
    let r = request_on s m command ids in TookNoPart m r.0.answer (matrix_of r.0.things r.1)
unfolding request_on reply_to
request s m command ids x t held part = go (accepted_scheme s && accepted_matrix s.head m) refl
  where
    q : Request
    q = record { command = command; ids = ids }

    go : (b : Bool) → (accepted_scheme s && accepted_matrix s.head m) ≡ b →
        let r = cond b (answered s m q (step seats s m q)) (answered s m q (refused (at 27 0))) in
        TookNoPart m r.0.answer (matrix_of r.0.things r.1)
    go true e =
        let (ok, of) = accepted s m e in
        no_part m _ (step seats s m q)
        (rw (← (same_answer (step seats s m q)), joined s m q ok of) (on_paper.takes_no_part s (stands_for m) q x t (held_on_paper held) part))
    go false e = unfold answer reply_of number steps_of after between in record { number = tt; no_steps = refl; same = refl }

-- ---- runs and calls

-- between known things the rights on paper are what the cell holds
paper_cell : (m : Matrix) (x y : ℕ) → T (known m.things x) → T (known m.things y) → (stands_for m).rights x y ≡ cell m x y
unfolding stands_for
paper_cell m x y k l = rw (is_true (known m.things x) k, is_true (known m.things y) l)

known_on_paper : (m : Matrix) (x : ℕ) → T (known m.things x) → T (is_some ((stands_for m).things.thing x))
unfolding stands_for paper_things
known_on_paper m x k = rw (is_known m.things x) k

module _ {s : Scheme} {m end : Matrix} (of : T (accepted_matrix s.head m)) (a : Later s m end) (x : ℕ) (t : Thing) (h : HeldIn m x t) where
  stays : thing_at end.things x ≡ some t
  unfolding stands_for paper_things
  stays = ap (λ (n : State). n.things.thing x) a.left ∙ on_paper.stays s s.head m a.requests x t of (held_on_paper h)

  module _ (y : ℕ) (was : T (known m.things y)) (is : T (known end.things y)) where
    after_run : T (is_some ((run papers s (stands_for m) a.requests).things.thing y))
    after_run = rw a.left at (known_on_paper end y is)

    row : cell end x y ≡ cell m x y
    row =
        sym (paper_cell end x y (there_known end.things x stays) is)
        ∙ rw a.left (on_paper.keeps_row s s.head m a.requests x y t of (held_on_paper h) (known_on_paper m y was) after_run)
        ∙ paper_cell m x y (there_known m.things x h.there) was

    column : cell end y x ≡ cell m y x
    column =
        sym (paper_cell end y x is (there_known end.things x stays))
        ∙ rw a.left (on_paper.keeps_column s s.head m a.requests x y t of (held_on_paper h) (known_on_paper m y was) after_run)
        ∙ paper_cell m y x was (there_known m.things x h.there)

  untouched : Untouched m end x t
  untouched = record { stays = stays; row = row; column = column }

runs : (s : Scheme) (m : Matrix) (rs : List Run) (x : ℕ) (t : Thing) → HeldIn m x t → Untouched m (after_runs s m rs) x t
runs s m rs x t h = go (accepted_scheme s && accepted_matrix s.head m) refl
  where
    go : (b : Bool) → (accepted_scheme s && accepted_matrix s.head m) ≡ b → Untouched m (after_runs s m rs) x t
    go true e = let (ok, of) = accepted s m e in untouched of (runs_later s ok m of rs).1 x t h
    go false e = rw (stranger_stays s m e rs) (record { stays = h.there; row = λ y was is. refl; column = λ y was is. refl })

calls : (scheme image : List ℕ) (cs : List Call) (x : ℕ) (t : Thing) → Bytes scheme → Bytes image → HeldIn (read_in scheme image) x t →
    Untouched (read_in scheme image) (read_in scheme (image_after scheme image cs)) x t
calls scheme image cs x t small small' held =
    let (s, m, h, is) = reads_there scheme image small small' x t held.there in
    let (end, h', a) = calls_later h cs in
    rw (read_as h', read_as h) (untouched h.of a x t (record { there = is; on_hold = held.on_hold }))

-- ---- the same mark on both sides

-- X, which was t, with this mark
abbrev marked : Bool → ℕ → Thing → State → State
marked mark x t m = record { things = now_has x (some (record { type = t.type; on_hold = mark })) m.things; rights = m.rights }

-- the same things are marked on both sides, or refused on both
both : (R : State → State → Type 0) (mark : Bool) (x : ℕ) (m n : State) → n.things ≡ m.things →
    ((t : Thing) → m.things.thing x ≡ some t → R (marked mark x t m) (marked mark x t n)) → Both R (mark_on_paper mark x m) (mark_on_paper mark x n)
unfolding Both mark_on_paper marked_if
both R mark x m n same law =
    let alike : n.things.thing x ≡ m.things.thing x = ap (λ (p : Population). p.thing x) same in
    rw alike (go (m.things.thing x) refl)
  where
    go : (o : Option Thing) → m.things.thing x ≡ o → Both R (marked_if mark x m o) (marked_if mark x n o)
    go none e = refl
    go (some t) e = law t e

-- what doesn't look at the mark is as it was
now_alike : (f : Option Thing → Bool) (x : ℕ) (t now : Thing) (thing : ℕ → Option Thing) → thing x ≡ some t → f (some now) ≡ f (some t) → (a : ℕ) →
    f (now_is x (some now) thing a) ≡ f (thing a)
unfolding now_is
now_alike f x t now thing is same a = go (eqb a x) refl
  where
    go : (b : Bool) → eqb a x ≡ b → f (cond b (some now) (thing a)) ≡ f (thing a)
    go true e = rw (eqb-true a x e, is) same
    go false e = refl

same_cells : (h : Head) (m : State) (mark : Bool) (x : ℕ) (t : Thing) → m.things.thing x ≡ some t → (a b : ℕ) →
    cell_exists h (marked mark x t m) a b ≡ cell_exists h m a b
unfolding cell_exists now_has is_some
same_cells h m mark x t is a b =
    let now : Thing = record { type = t.type; on_hold = mark } in
    rw (now_alike (is_subject_thing h) x t now m.things.thing is refl a, now_alike is_some x t now m.things.thing is refl b)

mirrors : (h : Head) (office robot : State) (mark : Bool) (x : ℕ) → Mirrors h office robot →
    Both (Mirrors h) (mark_on_paper mark x office) (mark_on_paper mark x robot)
mirrors h office robot mark x r =
    both (Mirrors h) mark x office robot r.same_things (λ t is. record {
      same_things = ap (now_has x _) r.same_things;
      mirror = λ a b there. r.mirror a b (rw (same_cells h office mark x t is a b) at there);
    })

within : (poorer richer : State) (mark : Bool) (x : ℕ) → Within poorer richer → Both Within (mark_on_paper mark x poorer) (mark_on_paper mark x richer)
within poorer richer mark x w =
    both Within mark x poorer richer (sym w.same_things) (λ t is. record { same_things = ap (now_has x _) w.same_things; entries = w.entries })

pub on_hold_lem : OnHold
on_hold_lem = record { request = request; runs = runs; calls = calls; as_on_paper = as_on_paper_lem; back_again = back_again_lem; mirrors = mirrors; within = within }
