-- The laws of sets, and what the proofs of the functions cite.
pub mod Digits
pub mod Laws
pub mod Converted
pub mod Words
