pub mod Readable
pub mod Values
