pub mod Collecting
pub mod Going
