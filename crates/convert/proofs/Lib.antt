-- The laws that the functions' proofs cite.
pub mod EachLaws
pub mod CommandLaws
pub mod CellLaws
pub mod SchemeLaws
pub mod AnswerLaws
