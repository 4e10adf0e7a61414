pub mod Cursor
pub mod Head
