pub mod Header
pub mod Masks
pub mod PageBits
pub mod Sizes
