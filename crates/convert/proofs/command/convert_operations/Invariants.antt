-- After j turns the first 2 * j operations are the first j converted; behind them stand zeros.
use Prim.Native.Nat.{◌*◌, ◌≤◌}
use lib.ListN.{length, replicate}
use Rattle.conversion.specs.Conversion.{convert_operations}
use Rattle.laws.proofs.Filling.{Filling}
use Rattle.convert.proofs.CommandLaws.{none}
use Rattle.model.specs.Scheme.{operations_of}
use Rattle.model.specs.Arrays.{operations_from}
use Rattle.convert.proofs.command.convert_operations.Given as goal

abbrev pub invariant-loop-j : goal.invariant-loop-j
invariant-loop-j l =
    (l.j ≤ l.o.count) × (l.o.count ≤ length l.o.list) × Filling (operations_from (convert_operations l.n (operations_of l.o))).list (replicate 32 none) l.list (2 * l.j)
