-- That the contract of every public function is tight: what that means, and of which functions it is said.
pub mod Tight
pub mod Functions
