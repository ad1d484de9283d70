-- A command is padded if its three arrays are.
use Rattle.std.proofs.Common.{◌&&◌, min, drop, rules, tests, arith}
use Rattle.std.proofs.lemmas.Grind.{common_steps}
use Rattle.std.proofs.lemmas.Iterator.{YieldsList-from_slice}
use Rattle.std.proofs.lemmas.Iterator.Consumers.{fold_from_yields_List}
use Rattle.laws.proofs.Walks.{long}
use Rattle.rights.specs.Numberings.{zero_type}
use Rattle.model.specs.Accepted.{padded_command, zero_test, zero_operation}
use Rattle.accepted.proofs.FormLaws.{zeros}
use Rattle.accepted.proofs.padding.padded_command.Goals as goal

pub returns : goal.returns
unfolding padded_command
returns c =
    let p = c.args.c.parameters in
    let t = c.args.c.tests in
    let o = c.args.c.operations in
    let types = fold_from_yields_List _ (λ b x. b && zero_type x) _ c.fold.result c.fold.ensures.ran (YieldsList-from_slice (drop (min 8 p.count) p.types) (grind (arith, common_steps))) (λ b x z q k. search (rules, tests)) in
    let tests' = fold_from_yields_List _ (λ b x. b && zero_test x) _ c.fold-2.result c.fold-2.ensures.ran (YieldsList-from_slice (drop (min 16 t.count) t.list) (grind (arith, common_steps))) (λ b x z q k. search (rules, tests)) in
    let operations = fold_from_yields_List _ (λ b x. b && zero_operation x) _ c.fold-3.result c.fold-3.ensures.ran (YieldsList-from_slice (drop (min 32 o.count) o.list) (grind (arith, common_steps))) (λ b x z q k. search (rules, tests)) in
    rw (zeros zero_type 8 p.count p.types _ (search (rules, long)) types, zeros zero_test 16 t.count t.list _ (search (rules, long)) tests', zeros zero_operation 32 o.count o.list _ (search (rules, long)) operations)
