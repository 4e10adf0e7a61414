pub mod NextLemmas
pub mod ReadableLemmas
pub mod ReadingLemmas
pub mod SizeLemmas
