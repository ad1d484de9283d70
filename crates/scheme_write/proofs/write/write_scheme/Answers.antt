-- `write::write_scheme` meets its contract: the head's record and the commands' behind it are the scheme's bytes; a refusal stores nothing.
-- Assumes nothing.
use native.Mathlib.Omega.{arith}
use mathlib.Core.Bool.{true}
use mathlib.Core.Path.{◌≡◌, sym, ap}
use Rattle.model.specs.Accepted.{accepted_scheme}
use Rattle.faults.specs.Numbers.{fault_of}
use Rattle.records.specs.Results.{written}
use Rattle.laws.proofs.Bools.{from_true}
use Rattle.scheme_write.proofs.WriteLaws.{scheme_refused, scheme_short, scheme_done}
use Rattle.scheme_write.proofs.write.write_scheme.Goals as goal
use Rattle.scheme_write.proofs.write.write_scheme.Goals.{Else-not-scheme_accepted}

pub returns-then-not-scheme_accepted : goal.returns-then-not-scheme_accepted
unfolding fault_of
returns-then-not-scheme_accepted c = ap written (scheme_refused _ _ (sym c.if-not-scheme_accepted.ensures))

-- the scheme has passed
passing : (c : Else-not-scheme_accepted) → accepted_scheme c.args.s ≡ true
passing c = sym c.if-not-scheme_accepted.ensures

pub commands_length-n-requires : goal.commands_length-n-requires
commands_length-n-requires c = from_true (passing (goal.at.commands_length-n-requires c).Else-not-scheme_accepted)

pub returns-then-out-n : goal.returns-then-out-n
unfolding fault_of
returns-then-out-n c = ap written (scheme_short _ _ (passing (goal.at.returns-then-out-n c).Else-not-scheme_accepted) _ (omega arith) c.if-out-n.true)

pub put_commands-requires : goal.put_commands-requires
put_commands-requires c = (from_true (passing (goal.at.put_commands-requires c).Else-not-scheme_accepted), omega arith)

pub returns : goal.returns
returns c =
    ap written
    (scheme_done _ _ (passing (goal.at.returns c).Else-not-scheme_accepted) _ (omega arith) c.if-out-n.false _ _ c.put_head.ensures c.put_commands.ensures)
