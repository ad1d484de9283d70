-- What the contracts of `rights` cite: sets of rights and of types, and the three numberings; and what is promised of a converted set.
pub mod Sets
pub mod Numberings
pub mod Promises
