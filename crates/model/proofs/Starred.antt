-- The starred examples, computed.
-- Assumes nothing.
use Rattle.model.specs.Promises.{Starred}
use Rattle.model.proofs.Computes.{requests_compute, papers_compute, seats_compute, key_computes}

pub starred_true : Starred
unfolding requests_compute papers_compute seats_compute key_computes
starred_true = record { in_memory = tt; on_paper = tt }
