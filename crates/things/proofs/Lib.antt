-- The laws that the proofs of `things` cite.
pub mod SeatLaws
