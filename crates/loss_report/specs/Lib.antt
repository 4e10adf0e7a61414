pub mod Fields
pub mod Lines
pub mod Raws
pub mod Report
pub mod Worked
