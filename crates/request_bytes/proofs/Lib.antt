-- The laws of a request's definitions, and its round trips.
pub mod Laws
pub mod Answered
pub mod RoundTrips
pub mod Skip
pub mod Mapped
pub mod ResultLaws
pub mod FunctionTrips
