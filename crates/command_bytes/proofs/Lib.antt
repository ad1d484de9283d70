-- The laws of a scheme's records as bytes: what the functions' proofs cite, that what is read is what is accepted, and the records' round trips.
pub mod ItemLaws
pub mod FieldReads
pub mod Fixed
pub mod ListLaws
pub mod CommandLaws
pub mod Trips
pub mod Padded
pub mod CommandTrip
pub mod CommandBelow
