pub mod Identity
pub mod Calls
pub mod Polling
