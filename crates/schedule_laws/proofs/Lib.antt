pub mod AccountLemmas
pub mod BetweenLemmas
pub mod CommitLemmas
pub mod CompleteLemmas
pub mod EnoughLemmas
pub mod ReportLemmas
