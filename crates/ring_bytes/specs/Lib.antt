pub mod Bytes
pub mod Fields
pub mod Header
pub mod Rows
pub mod Value
pub mod Walked
