-- The proofs of what `Promises` (`Converted`) and `Demand3` state (`Demand3`, with `Robot`, an instance of model's `Translation`, for its first half and
-- `Poorer` for its second), `RobotSteps`, and the laws behind them.
pub mod Lists
pub mod Built
pub mod Mirror
pub mod Poorer
pub mod Robot
pub mod Start
pub mod Demand3
pub mod MatrixAccepted
pub mod SchemeAccepted
pub mod Converted
pub mod RobotSteps
