-- The proofs of what `Agreement`, `LibraryAgrees`, `Incomplete`, `WhichTest`, `HowManySteps`, `NeverAgain`, `OnHold`, `LibraryMoves`, `Numbers`, `Starred` and
-- `WrongPrograms` state, and the laws that they cite: `Obeyed` (what stored replies tell), `Runs` (a run of accepted ones is a run on paper),
-- `ListsAhead` (`Incomplete` of `request` and `run_list`), `EachReply` (what holds of each reply on paper holds of the
-- functions'), `Later` (what runs and calls leave is what a run on paper leaves), `MarkedBytes` and `HoldRelease` (a mark and a matrix's bytes; hold and then
-- release), `ReadNumbers`, `FaultNumbers`, `FunctionNumbers`, `MarkNumbers` and `MoveNumbers` (which numbers a reading, a conversion, a function on values, a
-- mark, a move can give), `LibraryCalls` and `LibraryRuns` (a call on bytes is a call on what they are), `Computes` (what the computed ones look through).
pub mod Computes
pub mod Obeyed
pub mod Runs
pub mod ListsAhead
pub mod Agreement
pub mod ReadNumbers
pub mod FaultNumbers
pub mod LibraryCalls
pub mod LibraryRuns
pub mod Later
pub mod Incomplete
pub mod LibraryAgrees
pub mod EachReply
pub mod WhichTest
pub mod HowManySteps
pub mod NeverAgain
pub mod MarkedBytes
pub mod HoldRelease
pub mod OnHold
pub mod FunctionNumbers
pub mod MarkNumbers
pub mod MoveNumbers
pub mod LibraryMoves
pub mod Numbers
pub mod Starred
pub mod WrongPrograms
