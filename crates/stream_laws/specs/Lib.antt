pub mod Laws
pub mod Sent
pub mod Sources
pub mod Worked
