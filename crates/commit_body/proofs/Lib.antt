pub mod InnerFirst
pub mod PatchLemmas
