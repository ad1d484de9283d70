-- Where a request's things sit, and what its creates and destroys make of them. `Locate`: the seats of the parameters' things. `Plan`: the creates and
-- destroys on a copy of the things.
pub mod Locate
pub mod Plan
pub mod Inner
