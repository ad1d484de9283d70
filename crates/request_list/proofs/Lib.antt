-- The laws of a list of requests: how its reading goes on and ends, and its round trips.
pub mod ListLaws
pub mod ListTrips
pub mod ListFunctionTrips
