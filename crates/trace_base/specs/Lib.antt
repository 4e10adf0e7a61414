pub mod Ids
pub mod Numerals
pub mod Reserved
