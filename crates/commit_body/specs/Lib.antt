pub mod Patches
pub mod Pending
