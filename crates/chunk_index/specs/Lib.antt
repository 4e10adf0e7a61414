pub mod Fields
pub mod Least
pub mod Room
pub mod Slots
pub mod Table
pub mod Value
