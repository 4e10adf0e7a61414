pub mod FieldLemmas
pub mod OnceLemmas
pub mod PartLemmas
pub mod ReadLemmas
pub mod RecordLemmas
pub mod WholeLemmas
