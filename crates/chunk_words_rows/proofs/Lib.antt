pub mod Begun
pub mod Popped
pub mod OnePage
pub mod Takings
