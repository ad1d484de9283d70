-- What only private functions of this crate cite; nobody outside has to believe it.
pub mod Calls
pub mod Parts
