pub mod ClosingLemmas
pub mod CloneLemmas
pub mod NumberLemmas
pub mod OrderLemmas
pub mod ReadingLemmas
pub mod ToldLemmas
