-- The laws of texts in a buffer, of numbers and of lines, for whoever prints; and of ids, with what is promised of them.
pub mod PutLaws
pub mod Decimals
pub mod LineLaws
pub mod IdLaws
pub mod IdsReadBack
