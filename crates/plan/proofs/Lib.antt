-- The laws that the proofs of `plan` cite.
pub mod PlaceLaws
pub mod PlanLaws
pub mod Sits
pub mod Seated
