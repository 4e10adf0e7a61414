pub mod Answers
pub mod Laws
pub mod Messages
pub mod Values
pub mod Writers
