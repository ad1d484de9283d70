-- What the writer of a matrix does by its parts. The bytes themselves, and what the writing answers, are said in `matrix_bytes`.
pub mod Inner
