pub mod Lent
pub mod Asking
pub mod Standing
pub mod Claiming
pub mod Writing
pub mod Polling
pub mod Laws
