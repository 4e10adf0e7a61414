pub mod CommitHistories
pub mod Commits
pub mod Complete
pub mod CompleteLaws
pub mod StreamLaws
pub mod Streams
pub mod WorkedStreams
