-- After so many turns so many tests in use are the converted ones.
use mathlib.Core.List.{map}
use Rattle.conversion.specs.Conversion.{convert_test}
use Rattle.model.specs.Scheme.{tests_of}
use Rattle.model.specs.Arrays.{tests_from}
use Rattle.convert.proofs.EachLaws.{Changing}
use Rattle.convert.proofs.command.convert_tests.Given as goal

abbrev pub invariant-loop-test : goal.invariant-loop-test
invariant-loop-test l =
    Changing (tests_from (map (convert_test l.n) (tests_of l.t))).list l.t.list l.test-items l.t.count l.test-index
