-- After so many turns so many tests in use are the converted ones; behind those in use stand zeros before and after.
use native.Mathlib.Omega.{arith}
use Rattle.conversion.specs.Conversion.{convert_test}
use Rattle.laws.proofs.Filling.{changed_used}
use Rattle.command_bytes.proofs.Padded.{no_test_lem}
use Rattle.convert.proofs.EachLaws.{each_begin, each_on, each_all}
use Rattle.convert.proofs.command.convert_tests.Goals as goal

pub loop-test-init : goal.loop-test-init
loop-test-init c = let p = c.requires in each_begin _ no_test_lem 16 _ _ p.1 p.0

pub loop-test-preserved : goal.loop-test-preserved
loop-test-preserved c =
    let p = c.requires in
    each_on (convert_test c.args.n) no_test_lem 16 _ _ p.1 p.0 c.loop-test.invariant _ _ (omega arith) c.convert_test.ensures

pub returns : goal.returns
returns c =
    let p = c.requires in
    let f = convert_test c.args.n in
    rw (each_all f no_test_lem 16 _ _ p.1 p.0 c.loop-test.invariant (omega arith), changed_used f no_test_lem 16 _ _ p.1 p.0)
