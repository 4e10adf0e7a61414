pub mod Added
pub mod Counts
pub mod Faults
pub mod Tallies
