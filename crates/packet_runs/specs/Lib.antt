pub mod Borders
pub mod Pieces
pub mod Runs
pub mod Tellers
