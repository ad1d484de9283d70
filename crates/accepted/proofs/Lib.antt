-- The laws that the proofs of `accepted` cite.
pub mod FormLaws
pub mod SchemeLaws
