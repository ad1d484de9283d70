-- Each of those in use is told by the call for it.
use Rattle.std.proofs.Common.{rules, tests}
use Rattle.std.proofs.lemmas.Iterator.{YieldsList-from_slice, YieldsList-from_take}
use Rattle.std.proofs.lemmas.Iterator.Search.{all_from_yields_List}
use Rattle.accepted.proofs.FormLaws.{all_is}
use Rattle.convert.proofs.SchemeLaws.{keeps}
use Rattle.convert.proofs.scheme.all_keep_things.Goals as goal

pub returns : goal.returns
returns c =
    let s = c.args.s in
    rw all_is (all_from_yields_List keeps _ _ c.all.result c.all.ensures.ran (YieldsList-from_take s.head.count (YieldsList-from_slice s.commands cc) cc) (λ x b q k. search (rules, tests)))
