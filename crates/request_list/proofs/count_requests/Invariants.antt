-- `request_list::count_requests` meets its contract: what is counted and what is left to count are the whole.
-- Assumes nothing.
use Prim.Native.Nat.{◌-◌}
use lib.ListN.{length}
use Rattle.request_list.specs.List.{Listed}
use Rattle.request_list.proofs.ListLaws.{Counting}
use Rattle.request_list.proofs.count_requests.Given as goal

abbrev pub invariant-loop-next : goal.invariant-loop-next
invariant-loop-next l = (rest : Listed) × Counting l.bytes l.n l.p rest

abbrev pub decreases-loop-next : goal.decreases-loop-next
decreases-loop-next l = length l.bytes - l.p
