-- The laws of a matrix's records: who sits at the seats, the ways through a body, a record from its front on, and its round trips.
pub mod Listed
pub mod BodyLaws
pub mod RecordLaws
pub mod AnyRecord
pub mod Trips
pub mod ReadBack
