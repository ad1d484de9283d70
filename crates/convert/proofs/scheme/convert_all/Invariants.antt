-- After so many turns so many commands in use are the converted ones.
use Rattle.conversion.specs.Conversion.{convert_scheme}
use Rattle.convert.proofs.EachLaws.{Changing}
use Rattle.convert.proofs.scheme.convert_all.Given as goal

abbrev pub invariant-loop-command : goal.invariant-loop-command
invariant-loop-command l = Changing (convert_scheme l.s).commands l.s.commands l.command-items l.s.head.count l.command-index
