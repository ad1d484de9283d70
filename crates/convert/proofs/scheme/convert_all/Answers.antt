-- After so many turns so many commands in use are the converted ones; behind those in use stand zeros before and after.
use native.Mathlib.Omega.{arith}
use mathlib.Core.Path.{sym}
use lib.Seq.{length-take-le}
use Rattle.conversion.proofs.Lists.{few_rights}
use Rattle.convert.proofs.SchemeLaws.{in_range, command_convertible, converted_begin, converted_there, converted_on, converted_all}
use Rattle.convert.proofs.scheme.convert_all.Goals as goal

pub slice_bounds-commands-end : goal.slice_bounds-commands-end
slice_bounds-commands-end c = (in_range _ c.requires.0).1

pub slice_bounds-command-items-end : goal.slice_bounds-command-items-end
slice_bounds-command-items-end c = sym (length-take-le _ c.args.s.commands (in_range _ c.requires.0).1)

pub loop-command-init : goal.loop-command-init
loop-command-init c = converted_begin _ c.requires.0

pub convert_command-requires : goal.convert_command-requires
convert_command-requires c =
    let p = c.requires in
    rw (converted_there _ p.0 c.loop-command.invariant _ (omega arith)) (command_convertible _ p.0 p.1 _ _ (omega arith))

pub loop-command-preserved : goal.loop-command-preserved
loop-command-preserved c = converted_on _ c.requires.0 c.loop-command.invariant _ _ (omega arith) c.convert_command.ensures

pub converted_head-requires : goal.converted_head-requires
converted_head-requires c = few_rights _ c.requires.1

pub returns : goal.returns
returns c = converted_all _ c.requires.0 c.loop-command.invariant (omega arith) _ c.converted_head.ensures
