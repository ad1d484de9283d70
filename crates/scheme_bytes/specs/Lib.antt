-- A scheme as bytes. `Read`: what is read, line by line as the outline has it. `Write`: its bytes. `Answers`: what the function answers.
-- `Promises`, `FunctionTrips`: what is proved of them.
pub mod Read
pub mod Write
pub mod Answers
pub mod Promises
pub mod FunctionTrips
pub mod Inner
