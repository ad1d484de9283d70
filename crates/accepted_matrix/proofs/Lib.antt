-- The laws that the proofs of `accepted_matrix` cite.
pub mod MatrixLaws
