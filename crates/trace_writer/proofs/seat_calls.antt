-- What the calls of a writer with its seat leave, for those who play it.
pub mod CoreCalls
pub mod CoreDone
pub mod CoreHolding
pub mod CoreLemmas
