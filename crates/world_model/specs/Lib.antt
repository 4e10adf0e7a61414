pub mod AccountLaws
pub mod Accounts
pub mod FirstBuffers
pub mod FrontLaws
