pub mod Buffered
pub mod Bytes
pub mod Calls
pub mod Known
pub mod Memory
pub mod Script
pub mod Standard
