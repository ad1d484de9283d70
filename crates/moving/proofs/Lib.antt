-- The laws of moving: of the head of kind 3 and the images of either kind, of the highest listed id, of two readings side by side, and what the functions'
-- proofs cite; then the promises.
pub mod OldTrips
pub mod ListedLaws
pub mod Images
pub mod OldReads
pub mod ImageLaws
pub mod MoveLaws
pub mod Beside
pub mod BaseThings
pub mod Moving
pub mod FunctionMoves
pub mod Base
