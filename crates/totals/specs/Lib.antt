-- What a matrix is answered (`Outcome`): what `play` prints at the end, on paper and in memory (`Totals`), and that the two agree (`Promises`).
pub mod Outcome
pub mod Totals
pub mod Promises
