-- `lines::put_line` meets its contract: what is left to put is the line from there on.
-- Assumes nothing.
use mathlib.Core.List.{[], ◌∷◌, ◌++◌}
use lib.ListN.{drop}
use Rattle.lines.specs.Lines.{line}
use Rattle.lines.proofs.PutLaws.{Left}
use Rattle.lines.proofs.put_line.Given as goal

abbrev pub invariant-loop-number : goal.invariant-loop-number
invariant-loop-number l = Left l.initial.out l.at (line l.numbers) l.out l.p (line (drop l.number-index l.before ++ l.last ∷ []))
