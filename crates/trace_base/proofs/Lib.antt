pub mod Choices
pub mod DecimalLemmas
pub mod IdLemmas
pub mod Lists
pub mod NumeralLemmas
