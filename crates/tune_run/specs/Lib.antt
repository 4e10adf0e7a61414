pub mod Counts
pub mod Turns
pub mod Jobs
pub mod Told
