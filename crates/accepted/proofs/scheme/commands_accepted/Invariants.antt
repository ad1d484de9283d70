-- The walk over all places carries along whether each was accepted.
use Rattle.model.specs.Accepted.{accepted_command, zero_command}
use Rattle.accepted.proofs.SchemeLaws.{Filled}
use Rattle.accepted.proofs.scheme.commands_accepted.Given as goal

abbrev pub invariant-loop-i : goal.invariant-loop-i
invariant-loop-i l = Filled (accepted_command l.s.head) zero_command l.n l.s.commands 32 l.fine l.i
