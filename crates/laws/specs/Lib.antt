-- Checks that give their first fault: the one theory of refusals.
pub mod Check
