pub mod Bits
pub mod HeaderLemmas
pub mod MaskLemmas
pub mod SizeLemmas
pub mod States
pub mod Steps
