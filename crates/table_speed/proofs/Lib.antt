pub mod HeldLemmas
pub mod SeatLemmas
pub mod TakenLemmas
pub mod TimedLemmas
