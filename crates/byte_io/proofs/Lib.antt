mod KeptLemmas
mod Known
pub mod Lent
pub mod Told
