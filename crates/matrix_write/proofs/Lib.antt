-- The laws of writing a matrix: the seats by rising id, and what is left to write.
pub mod OrderLaws
pub mod WriteLaws
