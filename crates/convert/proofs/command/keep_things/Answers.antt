-- None of those in use creates or destroys.
use Rattle.std.proofs.Common.{rules, tests}
use Rattle.std.proofs.lemmas.Iterator.{YieldsList-from_slice, YieldsList-from_take}
use Rattle.std.proofs.lemmas.Iterator.Search.{all_from_yields_List}
use Rattle.model.specs.Scheme.{keeps_things}
use Rattle.accepted.proofs.FormLaws.{all_is}
use Rattle.convert.proofs.command.keep_things.Goals as goal

pub returns : goal.returns
returns c =
    let o = c.args.o in
    rw all_is (all_from_yields_List (λ q. keeps_things q.code) _ _ c.all.result c.all.ensures.ran (YieldsList-from_take o.count (YieldsList-from_slice o.list cc) cc) (λ x b q k. search (rules, tests)))
