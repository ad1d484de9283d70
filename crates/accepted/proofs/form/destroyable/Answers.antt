-- A parameter that is destroyed is named by no destroy before.
use Rattle.std.proofs.Common.{◌&&◌, not, min, take, rules, tests}
use Rattle.std.proofs.lemmas.Iterator.{YieldsList-from_slice}
use Rattle.std.proofs.lemmas.Iterator.Consumers.{fold_from_yields_List}
use Rattle.laws.proofs.Walks.{long}
use Rattle.model.specs.Scheme.{destroys}
use Rattle.accepted.proofs.FormLaws.{none_of, not_destroyed}
use Rattle.accepted.proofs.form.destroyable.Goals as goal

pub returns : goal.returns
unfolding destroys
returns c =
    let a = c.args in
    let before = fold_from_yields_List _ (λ b x. b && not (destroys a.p x)) _ c.fold.result c.fold.ensures.ran (YieldsList-from_slice (take (min 32 a.n) a.o.list) (search rules)) (λ b x z q k. search (rules, tests)) in
    not_destroyed a.o a.n a.p _ (none_of (destroys a.p) 32 a.n a.o.list _ (search (rules, long)) before)
