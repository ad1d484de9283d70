-- The laws of schemes as bytes: both round trips, that what is accepted is what is read, and what the functions' proofs cite.
pub mod RoundTrips
pub mod AcceptedTrip
pub mod FunctionTrips
pub mod ReadLaws
