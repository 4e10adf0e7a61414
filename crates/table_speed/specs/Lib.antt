pub mod Going
pub mod Holding
pub mod Taking
pub mod Timed
