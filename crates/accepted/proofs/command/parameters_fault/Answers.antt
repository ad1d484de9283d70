-- The count, and then the types: the first that is none of the scheme's has the same fault as any other.
use Rattle.std.proofs.Common.{◌≡◌, true, rules, tests, arith}
use Rattle.std.proofs.lemmas.Iterator.{YieldsList-from_slice}
use Rattle.std.proofs.lemmas.Iterator.Search.{all_from_yields_List}
use Rattle.faults.specs.Numbers.{fault_of}
use Rattle.rights.specs.Numberings.{type_below}
use Rattle.model.specs.Scheme.{parameters_of}
use Rattle.model.specs.Accepted.{type_range}
use Rattle.accepted.proofs.FormLaws.{same_fault}
use Rattle.accepted.proofs.SchemeLaws.{of_must, behind}
use Rattle.accepted.proofs.command.parameters_fault.Goals as goal

pub returns : goal.returns
unfolding type_range fault_of
returns c =
    let p = c.args.p in
    let every = all_from_yields_List (λ t. type_below t c.args.h.types) _ _ c.all.result c.all.ensures.ran (YieldsList-from_slice (parameters_of p) (search rules)) (λ x b q k. search (rules, tests)) in
    let few : c.between.result ≡ true = grind arith in
    rw (← c.between.ensures, behind c.between.result 4 _ few, same_fault (λ t. type_below t c.args.h.types) 5 (parameters_of p), of_must, ← every) c.must-2.ensures
