-- The starred examples, computed.
-- Assumes nothing.
use Rattle.agreement.specs.Starred.{Starred, ran_so, holds_from, robot_matrix, by_robot, holds_of, all_starred}
use Rattle.agreement.proofs.Computes.{examples_compute, converting_computes, schemes_compute, lists_compute}

pub starred : Starred
unfolding examples_compute converting_computes schemes_compute lists_compute ran_so holds_from robot_matrix by_robot holds_of all_starred
starred = tt
