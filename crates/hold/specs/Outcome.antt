-- How a mark is answered, in the outline's words; what the functions give for it is `marked_result` of Marking.
pub mod Marking
pub mod Marked
