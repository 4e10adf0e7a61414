pub mod BeginningLemmas
pub mod CollectingLemmas
pub mod GoingLemmas
