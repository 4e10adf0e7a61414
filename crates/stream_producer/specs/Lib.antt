pub mod Counting
pub mod Ending
pub mod Faults
pub mod Feeding
pub mod History
pub mod Setups
pub mod Standing
pub mod Whole
