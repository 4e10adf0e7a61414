pub mod Bytes
pub mod Entries
pub mod Grammar
pub mod Laws
pub mod Machine
pub mod Reading
pub mod Walking
