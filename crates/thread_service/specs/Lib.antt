pub mod Serving
pub mod Reading
pub mod Requesting
pub mod Passing
pub mod Settling
pub mod OneProof
