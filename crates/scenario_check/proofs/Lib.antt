pub mod CallLemmas
pub mod KindLemmas
pub mod UnmarkedLemmas
pub mod LineLemmas
pub mod FinishLemmas
pub mod AskedLemmas
pub mod EmissionLemmas
