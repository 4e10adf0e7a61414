pub mod Giving
pub mod Sums
pub mod Reports
