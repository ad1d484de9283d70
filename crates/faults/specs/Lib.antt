-- What the contracts of `faults`, and of everything that can be refused, cite.
pub mod Numbers
pub mod Promises
