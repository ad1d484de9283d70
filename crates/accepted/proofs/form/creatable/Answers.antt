-- A parameter that is created is named by no test and by no create before.
use Rattle.std.proofs.Common.{◌&&◌, not, min, take, rules, tests}
use Rattle.std.proofs.lemmas.Iterator.{YieldsList-from_slice}
use Rattle.std.proofs.lemmas.Iterator.Consumers.{fold_from_yields_List}
use Rattle.laws.proofs.Walks.{long}
use Rattle.model.specs.Scheme.{names, creates}
use Rattle.accepted.proofs.FormLaws.{none_of, not_created}
use Rattle.accepted.proofs.form.creatable.Goals as goal

pub returns : goal.returns
unfolding names creates
returns c =
    let a = c.args in
    let t = a.t in
    let named = fold_from_yields_List _ (λ b x. b && not (names a.p x)) _ c.fold.result c.fold.ensures.ran (YieldsList-from_slice (take (min 16 t.count) t.list) (search rules)) (λ b x z q k. search (rules, tests)) in
    let before = fold_from_yields_List _ (λ b x. b && not (creates a.p x)) _ c.fold-2.result c.fold-2.ensures.ran (YieldsList-from_slice (take (min 32 a.n) a.o.list) (search rules)) (λ b x z q k. search (rules, tests)) in
    not_created a.o a.n a.p _ t _ (none_of (names a.p) 16 t.count t.list _ (search (rules, long)) named) (none_of (creates a.p) 32 a.n a.o.list _ (search (rules, long)) before)
