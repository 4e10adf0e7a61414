pub mod CloneFields
pub mod Clones
pub mod Laws
