-- What the contracts of `accepted` cite beside the model's own definitions.
pub mod Answers
pub mod Inner
