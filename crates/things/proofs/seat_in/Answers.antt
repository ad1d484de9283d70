-- The place of the first seat that has the id is what the search for it gives.
use Rattle.std.proofs.Common.{nat_eq, take, rules, tests}
use Rattle.std.proofs.lemmas.Iterator.{YieldsList-from_slice}
use Rattle.std.proofs.lemmas.Iterator.Search.{position_from_yields_List}
use Rattle.things.proofs.SeatLaws.{found_in}
use Rattle.things.proofs.seat_in.Goals as goal

pub returns : goal.returns
returns c =
    let a = c.args in
    let seats = take c.min-most.result a.ids in
    let first = position_from_yields_List {all = seats} (λ y. nat_eq y a.x) _ _ c.position.result c.position.ensures.ran (YieldsList-from_slice seats (search rules)) (λ y b q k. search (rules, tests)) in
    found_in a.ids a.n _ a.x _ _ (search rules) c.min-most.ensures first c.unwrap_or.ensures
