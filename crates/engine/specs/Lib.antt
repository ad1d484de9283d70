-- One request and a list of requests on a lent matrix. `Step`: what a request gives, which is the model's step. `List`: what a list of them gives.
-- `Answers`: what is answered. `Given`: the same as the functions give it.
pub mod Answers
pub mod Step
pub mod List
pub mod Given
pub mod Inner
