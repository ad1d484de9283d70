-- Moving stored matrices. `Old`: what an image with a head of kind 3 says. `Moves`: forward and back. `Outcome`: how a move ends, and `Answers`: what the
-- functions give. `Promises`: what is proved of both ways, and `FunctionMoves`: the same of the functions. `Base`: what a robot that isn't updated reads, and how
-- that compares.
pub mod Old
pub mod Moves
pub mod Outcome
pub mod Answers
pub mod Promises
pub mod FunctionMoves
pub mod Base
pub mod Inner
