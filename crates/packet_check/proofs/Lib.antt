pub mod AnswerLemmas
pub mod CheckLemmas
pub mod FieldLemmas
pub mod PassLemmas
pub mod RiseLemmas
pub mod SplitLemmas
pub mod StepLemmas
pub mod WalkLemmas
