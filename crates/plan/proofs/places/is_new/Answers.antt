-- What `any` answers of the operations in use.
use mathlib.Core.Path.{◌≡◌, ◌∙◌}
use lib.ListN.{length, take}
use Rattle.std.specs.List.{list_any}
use Rattle.std.proofs.lemmas.Iterator.{YieldsList-from_slice}
use Rattle.std.proofs.lemmas.Iterator.Search.{any_from_yields_List}
use Rattle.laws.proofs.Walks.{long}
use Rattle.model.specs.Scheme.{creates}
use Rattle.plan.proofs.PlaceLaws.{is_new_lem}
use borrow.Author.Rules.{rules}
use Rattle.std.proofs.Common.{tests}
use Rattle.plan.proofs.places.is_new.Goals as goal

pub returns : goal.returns
returns c =
    let o = c.args.o in
    let room : length o.list ≡ 32 = search (rules, long) in
    let e : c.any.result ≡ list_any (creates c.args.p) (take c.min-n.result o.list) =
    any_from_yields_List (creates c.args.p) _ _ _ c.any.ensures.ran (YieldsList-from_slice (take c.min-n.result o.list) cc) (λ x b q k. search (rules, tests)) in
    e ∙ rw c.min-n.ensures (is_new_lem o c.args.p room)
