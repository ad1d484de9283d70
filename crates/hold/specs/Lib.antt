-- A thing put on hold. `Marking`: hold and release, on paper and in memory. `Promises`: that the two agree, and what they leave as it was. `OnHold`: a thing
-- on hold takes part in nothing.
pub mod Outcome
pub mod Marking
pub mod Promises
pub mod OnHold
