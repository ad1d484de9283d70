-- A matrix as bytes, against a scheme. `Content`: what a matrix says, apart from its seats. `Read`: what is read, record by record. `Write`: its
-- bytes. `MatrixAnswer`, `Answers`: what the functions give. `Promises`, `FunctionTrips`: what is proved.
pub mod Content
pub mod Read
pub mod Write
pub mod MatrixAnswer
pub mod Answers
pub mod Promises
pub mod FunctionTrips
pub mod Inner
