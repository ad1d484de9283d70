-- What is put (`Lines`), and where (`Put`); the id that a word names (`Ids`), and what is promised of it (`Promises`).
pub mod Lines
pub mod Put
pub mod Ids
pub mod Promises
