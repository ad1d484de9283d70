-- The laws behind the printout.
pub mod RequestLaws
pub mod ReadLaws
pub mod PlayLaws
