-- How a reading, a writing and the search for a record end, in the outline's words: what there is, or a number with the record's position. Definitions and
-- theorems speak of these; what the functions give for each is said once, in `Results`.
pub mod RecordAnswer
pub mod Reading
pub mod Writing
