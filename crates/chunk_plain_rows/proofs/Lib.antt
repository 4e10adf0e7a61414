pub mod NothingTaken
pub mod SameWriters
pub mod TestFragments
