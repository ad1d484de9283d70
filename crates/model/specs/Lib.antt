-- What a customer has to believe, in the outline's order. `Scheme`, `Request`, `Papers`: the model. `Seats`, `Arrays`: how it lies in memory.
-- `Accepted`: what no reading refuses. `KeyExample`: the starred examples. `Promises`: what is proved of all this.
-- Theorems by themselves: `FirstTest`, which test stopped a request; `StepsTaken`, how many steps it took; `NeverAgain`, that no id is created
-- twice; `Translation`, of two schemes that do the same.
pub mod Scheme
pub mod Request
pub mod Answers
pub mod Papers
pub mod Seats
pub mod Arrays
pub mod Accepted
pub mod KeyExample
pub mod Promises
pub mod FirstTest
pub mod StepsTaken
pub mod NeverAgain
pub mod Translation
