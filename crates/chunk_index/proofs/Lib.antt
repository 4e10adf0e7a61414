pub mod FoundLemmas
pub mod HoleLemmas
pub mod LeastLemmas
pub mod MapLemmas
pub mod RoomLemmas
pub mod SearchLemmas
pub mod SlotLemmas
pub mod StepLemmas
