-- What only private functions of this crate cite; nobody outside has to believe it.
pub mod Cells
pub mod Carry
pub mod Run
