-- The laws of faults and their numbers.
pub mod NumberLaws
