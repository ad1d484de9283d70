-- The proofs of `Incomplete` (one request by `Poorer` of crates/conversion) and of the examples in `Looser`, which are computed.
pub mod Subsets
pub mod Incomplete
pub mod Looser
