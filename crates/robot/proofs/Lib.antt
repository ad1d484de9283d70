-- The laws that the proofs of the functions cite, over plain variables.
pub mod CallLaws
pub mod SizeLaws
pub mod RunLaws
