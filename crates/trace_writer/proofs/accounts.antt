-- What a writer's calls make of its packets: the account that its view must agree with.
pub mod Accounts
pub mod Agreeing
pub mod Calling
pub mod Changes
pub mod CutLaws
pub mod Letters
pub mod Measuring
pub mod Possible
