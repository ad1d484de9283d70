-- Laws that belong to no one crate.
pub mod Bools
pub mod Differ
pub mod Padded
pub mod Walks
pub mod Filling
