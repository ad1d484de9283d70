-- `play::put_requests` meets its contract: a turn puts a request's line, and what is left are the lines from the next request on.
-- Assumes nothing.
use Prim.Native.Nat.{◌-◌}
use lib.ListN.{length}
use Rattle.printout.proofs.RequestLaws.{Printing}
use Rattle.printout.proofs.play.put_requests.Given as goal

abbrev pub invariant-loop-next : goal.invariant-loop-next
invariant-loop-next l = Printing l.columns l.bytes l.replies l.initial.out l.at l.out l.n l.p l.to l.left

abbrev pub decreases-loop-next : goal.decreases-loop-next
decreases-loop-next l = length l.bytes - l.p
