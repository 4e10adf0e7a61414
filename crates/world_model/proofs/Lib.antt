pub mod BeginningLemmas
pub mod FaithfulLemmas
pub mod FrontLemmas
pub mod MakingLemmas
pub mod OwnLemmas
pub mod PartLemmas
pub mod ProjectLemmas
