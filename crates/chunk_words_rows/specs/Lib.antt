pub mod Fresh
pub mod Page
pub mod Going
