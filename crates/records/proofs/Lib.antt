-- The laws of records: of bytes and fields, of a record at a position, of what is placed in a buffer; and the theory of round trips.
pub mod BytesLaws
pub mod PlacedLaws
pub mod FieldLaws
pub mod FrontLaws
pub mod ResultLaws
pub mod Lines
pub mod Trip
pub mod TripFields
pub mod RecordAt
pub mod TripRecord
pub mod Loop
pub mod Below
pub mod Wrote
pub mod Faults
