-- The records of a matrix, one by one, each in its context. `Content`: what they say. `Read`: what is read, line by line as the outline has it.
-- `Write`: their bodies' bytes. `Answers`: what the functions give. `Told`: what an answer tells.
pub mod Content
pub mod Read
pub mod Write
pub mod Answers
pub mod Told
pub mod Inner
