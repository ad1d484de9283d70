-- How the reading of a request ends, in the outline's words. Definitions and theorems speak of these; what the functions give for each is said once, in
-- `Results`.
pub mod RequestReading
pub mod RequestAnswer
