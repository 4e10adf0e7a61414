-- Where a writer stops or has no chunk, and what its call answers then.
pub mod Idling
pub mod Stalling
pub mod Stopping
