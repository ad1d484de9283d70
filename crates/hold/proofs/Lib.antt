-- The proofs of what `Promises` and `OnHold` state (`Marks`; `MarksKept`, `OnHold`), and the laws behind them: `MarkLaws` of the functions, `NotNamed` of a
-- request and a thing on hold.
pub mod MarkLaws
pub mod Marks
pub mod MarksKept
pub mod NotNamed
pub mod OnHold
