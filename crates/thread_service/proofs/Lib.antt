pub mod Standing
pub mod GoingOn
pub mod PassLemmas
pub mod SettlingLemmas
