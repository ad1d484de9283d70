-- A request as bytes. `Outcome`: how its reading ends. `Read`: what is read, line by line as the outline has it. `Write`: its bytes. `Results`: what the
-- functions give. `Told`: its answer's numbers. `Promises` and `FunctionTrips`: what is proved of both.
pub mod Outcome
pub mod Read
pub mod Write
pub mod Results
pub mod Told
pub mod Promises
pub mod FunctionTrips
pub mod Inner
