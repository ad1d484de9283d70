-- That the contract of every public function is tight: the general law, and a line for each function.
pub mod General
pub mod Functions
