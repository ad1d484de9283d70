-- After j turns the first 2 * j operations are the first j converted; behind them stand zeros.
use Prim.Native.Nat.{◌≤◌}
use native.Mathlib.Omega.{arith}
use mathlib.Core.Path.{◌≡◌}
use lib.ListN.{length}
use borrow.Author.Rules.{rules}
use Rattle.laws.proofs.Walks.{long}
use Rattle.convert.proofs.CommandLaws.{paired_begin, paired_on, paired_all}
use Rattle.convert.proofs.command.convert_operations.Goals as goal

pub loop-j-init : goal.loop-j-init
loop-j-init c =
    let e : length c.args.o.list ≡ 32 = search (rules, long) in
    let m : c.args.o.count ≤ length c.args.o.list = omega arith in
    (omega arith, m, paired_begin _ _ _ c.requires.1 c.requires.0 m)

pub loop-j-preserved : goal.loop-j-preserved
loop-j-preserved c =
    let p = c.requires in
    let (h, m, v) = c.loop-j.invariant in
    (search rules, m, paired_on _ _ _ p.1 p.0 m _ _ v (search rules) _ c.on_partner-other.ensures)

pub returns : goal.returns
returns c =
    let p = c.requires in
    let (h, m, v) = c.loop-j.invariant in
    paired_all _ _ _ p.1 p.0 m v (omega arith)
