pub mod Ends
pub mod Spots
pub mod Steps
pub mod Links
pub mod Turns
pub mod Runs
