pub mod Counting
pub mod Groups
pub mod Joined
pub mod Lengths
pub mod Scanning
pub mod Varints
pub mod Whole
pub mod Writing
