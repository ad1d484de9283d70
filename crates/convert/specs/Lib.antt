-- What the contracts of `convert` cite beside the definitions of `conversion`.
pub mod Outcome
pub mod Convert
pub mod Results
pub mod Inner
