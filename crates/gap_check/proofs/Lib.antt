pub mod TakenLemmas
pub mod TraceLemmas
