-- The laws behind the totals, that they are the papers' (`TrueTotals`), and that the result tells the outcome (`Told`).
pub mod Sums
pub mod TrueTotals
pub mod Told
