-- The walk over the places: what is left of them, on the spots so far, decides the answer.
use Prim.Native.Nat.{min}
use mathlib.Core.Path.{◌≡◌, refl, ap, ◌∙◌}
use native.Mathlib.Omega.{arith}
use lib.ListN.{length, take, length-set, length-take}
use Rattle.laws.proofs.Walks.{long, start, on, out, take_least}
use Rattle.model.specs.Scheme.{operations_of, no_type}
use Rattle.plan.specs.Locate.{no_spots, spots_of, located, located_into}
use Rattle.plan.proofs.PlaceLaws.{located_from, located_on, located_stop, located_end}
use Rattle.std.proofs.lemmas.Result.{err_from_is_err_and}
use borrow.Author.Rules.{rules}
use Rattle.plan.proofs.places.locate.Goals as goal

pub loop-i-init : goal.loop-i-init
unfolding located spots_of
loop-i-init c =
    let a = c.args in
    let room : length a.p.types ≡ 8 = search (rules, long) in (
      refl,
      start 8 room (omega arith)
          (ap (located_from a.th.now (operations_of a.o) a.ids.now no_spots 0) (take_least a.p.types 8 a.p.count room)),
    )

pub returns-in_err-found : goal.returns-in_err-found
returns-in_err-found c =
    let p = err_from_is_err_and c.from_residual.result c.from_residual.ensures.1 in
    rw (p.1, p.2)
    (ap located_into
    (out c.loop-i.invariant.1 no_type _ (omega arith)
    (located_stop _ _ _ _ _ (omega arith) _ _ (rw c.is_new-new.ensures at c.in_err-found.ensures))))

pub loop-i-preserved : goal.loop-i-preserved
loop-i-preserved c = (
  simp length-set c.loop-i.invariant.0,
  on c.loop-i.invariant.1 no_type (omega arith)
      (located_on _ _ _ _ _ (omega arith) _ _ (rw c.is_new-new.ensures at c.in_ok-found.ensures)),
)

pub returns : goal.returns
returns c =
    let a = c.args in
    ap located_into
    (located_end _ _ _ _ c.loop-i.i (take (min a.p.count 8) a.p.types) (rw length-take (omega arith)) ∙ c.loop-i.invariant.1.left)
