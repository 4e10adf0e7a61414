pub mod Emissions
pub mod Progress
