-- What `write_scheme` writes is said in `scheme_bytes`, beside what is read.
pub mod Inner
