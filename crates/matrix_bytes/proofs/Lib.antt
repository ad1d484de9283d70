-- The laws of matrices as bytes: things and cells by rising id, both round trips, and what the functions' proofs cite.
pub mod Seating
pub mod Rising
pub mod Spots
pub mod Cells
pub mod Stored
pub mod Trips
pub mod RestTrips
pub mod RoundTrips
pub mod AcceptedTrip
pub mod FunctionTrips
pub mod ReadThings
pub mod ReadCells
pub mod ReadMatrix
