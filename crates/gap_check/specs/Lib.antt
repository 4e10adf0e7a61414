pub mod Taken
pub mod Verdicts
