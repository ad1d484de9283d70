-- Each read fills more of the room, up to its end.
use Rattle.std.proofs.Common.{length, ◌≤◌}
use Rattle.files.proofs.read.fill.Given as goal

abbrev pub invariant-loop : goal.invariant-loop
invariant-loop l = l.done ≤ length l.room
