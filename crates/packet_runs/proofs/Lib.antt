pub mod BorderLemmas
pub mod PieceLemmas
pub mod RunLemmas
pub mod SearchLemmas
