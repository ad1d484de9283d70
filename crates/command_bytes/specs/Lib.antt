-- A scheme's head and its commands as bytes. `Read`: what is read, line by line as the outline has it. `Write`: their bytes. `Answers`: what the functions
-- answer.
pub mod Read
pub mod Write
pub mod Answers
pub mod Inner
