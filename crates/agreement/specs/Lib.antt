-- Demand 3 of the functions (`Agreement`) and of the robots' library (`LibraryAgrees`); of both that a matrix with entries missing can only be stricter
-- (`Incomplete`), which test stopped a request and how many steps it took (`WhichTest`, `HowManySteps`), that no id is created twice (`NeverAgain`), and that a
-- thing on hold takes part in nothing (`OnHold`); that a stored matrix is moved forward and back without loss (`LibraryMoves`); the numbers that each function
-- can give (`Numbers`); the starred examples of the outline, all in one statement (`Starred`); and wrong programs that these catch (`WrongPrograms`).
pub mod Replies
pub mod Agreement
pub mod LibraryAgrees
pub mod Incomplete
pub mod EachReply
pub mod WhichTest
pub mod HowManySteps
pub mod NeverAgain
pub mod OnHold
pub mod LibraryMoves
pub mod Numbers
pub mod Starred
pub mod WrongPrograms
