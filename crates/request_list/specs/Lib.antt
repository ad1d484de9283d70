-- A list of requests as bytes. `List`: what is read of it, and its bytes. `Write`: which requests can be written, and writing one behind the other.
-- `Promises`: what is proved of both.
pub mod List
pub mod Write
pub mod Promises
