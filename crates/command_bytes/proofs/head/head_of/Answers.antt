-- `head::head_of` meets its contract: where the body goes on behind the last field.
-- Assumes nothing.
use mathlib.Core.Bool.{true}
use mathlib.Core.Path.{◌≡◌, sym}
use borrow.Author.Rules.{rules}
use borrow.Author.Tests.{lt-ltb}
use Rattle.command_bytes.proofs.FieldReads.{head_lines}
use Rattle.command_bytes.proofs.head.head_of.Goals as goal

pub returns-then-b-gt5 : goal.returns-then-b-gt5
returns-then-b-gt5 c =
    let within : c.within.result ≡ true = search rules in
    rw (
      head_lines c.args.b.now,
      sym c.in_ok-rights.ensures,
      sym c.in_ok-types.ensures,
      sym c.in_ok-field2_at.ensures,
      sym c.within.ensures,
      within,
      sym c.in_ok-count.ensures,
      lt-ltb _ _ c.if-b-gt5.true,
    )
