-- What the contracts of `records`, and of every reader and writer above it, cite.
pub mod Bytes
pub mod Outcome
pub mod Reading
pub mod Front
pub mod Writing
pub mod Results
pub mod Told
pub mod Inner
