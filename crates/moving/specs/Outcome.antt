-- How a move ends, in the outline's words; what the functions give for it is said in `Answers`.
pub mod Moved
