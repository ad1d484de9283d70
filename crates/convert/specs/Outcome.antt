-- How a conversion is answered, in the outline's words; what the functions give for it is said in `Results`.
pub mod Conversion
pub mod SchemeConversion
