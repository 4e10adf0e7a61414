-- How a writer asks for a chunk: its claims, its rounds of them, and its steps in between.
pub mod Asking
pub mod DropLaws
pub mod FewSteps
pub mod KeepingClaims
pub mod Losses
pub mod MayAskStill
pub mod QuietRows
pub mod QuietSteps
pub mod Rounds
pub mod RouteIds
pub mod Trying
pub mod VainRounds
pub mod Working
