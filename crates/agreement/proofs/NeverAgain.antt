-- No id is ever created twice, of the functions and of the library. Each run, and each call that gave 0, leaves what a run on paper leaves (`Later`), of which
-- crates/model tells: the highest never falls, and what is new is above it. Assumes nothing.
use Prim.Native.Nat.{ℕ}
use mathlib.Core.Path.{◌≡◌, refl, ap}
use mathlib.Core.Bool.{Bool, true, false, not, ◌&&◌}
use mathlib.Core.List.{List, [], ◌∷◌, ◌++◌}
use lib.Dec.{T}
use Rattle.laws.specs.Check.{is_some}
use Rattle.laws.proofs.Bools.{not_both}
use Rattle.model.specs.Seats.{Matrix, known, thing_at, paper_things, stands_for}
use Rattle.model.specs.Accepted.{accepted_scheme, accepted_matrix}
use Rattle.model.specs.declared.Scheme.{Scheme}
use Rattle.model.proofs.Stands.{absent}
use Rattle.model.proofs.Find.{is_known}
use Rattle.model.proofs.NeverAgain.{Since, run_since, none_above, no_return}
use Rattle.agreement.specs.LibraryAgrees.{Bytes}
use Rattle.engine.specs.List.{run_on}
use Rattle.agreement.specs.Agreement.{left_in}
use Rattle.agreement.specs.NeverAgain.{Run, after_runs, Call, kept_image, image_after, has_thing, NeverAgain}
use Rattle.agreement.proofs.EachReply.{accepted}
use Rattle.agreement.proofs.LibraryRuns.{Held}
use Rattle.agreement.proofs.Later.{Later, runs_later, stranger_stays, reads, read_as, calls_later}

-- the things of the second came after those of the first
since : {s : Scheme} {m end : Matrix} → Later s m end → Since (stands_for m).things (stands_for end).things
since {s} {m} a = rw a.left (run_since s (stands_for m) a.requests)

-- what was a thing's id in an accepted matrix, and later isn't, isn't later still
gone_stays : (s : Scheme) (m mid end : Matrix) → T (accepted_matrix s.head m) → Later s m mid → Later s mid end → (x : ℕ) → T (known m.things x) →
    T (not (known mid.things x)) → T (not (known end.things x))
unfolding stands_for paper_things is_some
gone_stays s m mid end of a b x there gone =
    let low = none_above s.head m of x (rw (is_known m.things x) there) in
    let lost = absent (thing_at mid.things x) (rw (is_known mid.things x) gone) in
    rw (← (is_known end.things x), no_return _ _ _ x (since a) (since b) low lost) tt

-- ---- runs
runs_append : (s : Scheme) (m : Matrix) (rs more : List Run) → after_runs s m (rs ++ more) ≡ after_runs s (after_runs s m rs) more
unfolding after_runs
runs_append s m [] more = refl
runs_append s m (r ∷ rs) more = runs_append s (left_in (run_on s m r.list r.replies)) rs more

of_runs : (s : Scheme) (m : Matrix) (between later : List Run) (x : ℕ) → T (known m.things x) → T (not (known (after_runs s m between).things x)) →
    T (not (known (after_runs s m (between ++ later)).things x))
of_runs s m between later x there gone = rw (runs_append s m between later) (go (accepted_scheme s && accepted_matrix s.head m) refl)
  where
    go : (b : Bool) → (accepted_scheme s && accepted_matrix s.head m) ≡ b → T (not (known (after_runs s (after_runs s m between) later).things x))
    go true e =
        let (ok, of) = accepted s m e in
        let (of', a) = runs_later s ok m of between in
        gone_stays s m _ _ of a (runs_later s ok _ of' later).1 x there gone
    go false e = absurd (not_both (known m.things x) there (rw (stranger_stays s m e between) at gone))

-- ---- calls
has_known : {scheme image : List ℕ} {s : Scheme} {m : Matrix} → Held scheme image s m → (x : ℕ) → has_thing scheme image x ≡ known m.things x
unfolding has_thing
has_known h x = ap (λ (m : Matrix). known m.things x) (read_as h)

calls_append : (scheme image : List ℕ) (cs more : List Call) →
    image_after scheme image (cs ++ more) ≡ image_after scheme (image_after scheme image cs) more
unfolding image_after
calls_append scheme image [] more = refl
calls_append scheme image (c ∷ cs) more = calls_append scheme (kept_image scheme image c) cs more

of_calls : (scheme image : List ℕ) (between later : List Call) (x : ℕ) → Bytes scheme → Bytes image → T (has_thing scheme image x) →
    T (not (has_thing scheme (image_after scheme image between) x)) → T (not (has_thing scheme (image_after scheme image (between ++ later)) x))
of_calls scheme image between later x small small' there gone =
    let (s, m, h) = reads scheme image small small' x there in
    let (mid, h', a) = calls_later h between in
    let (end, h'', b) = calls_later h' later in
    rw (calls_append scheme image between later, has_known h'' x)
    (gone_stays s m mid end h.of a b x (rw (has_known h x) at there) (rw (has_known h' x) at gone))

pub never_again : NeverAgain
never_again = record { runs = of_runs; calls = of_calls }
