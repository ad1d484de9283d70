-- The proofs of what `Promises` states, each in a file of its own (`Starred`, `InOrder`, `Joined`, `Population` for at most 48), of `Translation`,
-- and the laws behind them; `Computes` gathers what computed examples look through.
pub mod Computes
pub mod Starred
pub mod InOrder
pub mod Form
pub mod Built
pub mod Stands
pub mod Simulation
pub mod Invariant
pub mod Held
pub mod Find
pub mod SeatFound
pub mod HeldLaws
pub mod Population
pub mod SeatChange
pub mod SeatThings
pub mod SeatsStand
pub mod Joined
pub mod Translation
pub mod Refusals
pub mod ReplyLaws
pub mod Numbers
pub mod FirstTest
pub mod StepsTaken
pub mod NeverAgain
