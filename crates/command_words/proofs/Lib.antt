pub mod FoundLemmas
pub mod GenLemmas
pub mod OnceLemmas
pub mod SpellLemmas
pub mod TuneLemmas
