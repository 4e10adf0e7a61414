-- A packet from its beginning to its end: where it starts, how it is written and runs on, and how it ends.
pub mod Beginnings
pub mod Closing
pub mod Ending
pub mod Finishing
pub mod GivenUp
pub mod InPlace
pub mod OneByOne
pub mod Putting
pub mod RunOn
pub mod SettingAside
pub mod Starting
pub mod Varints
pub mod Written
