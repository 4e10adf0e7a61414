pub mod accounts
pub mod claims
pub mod holding
pub mod packets
pub mod seat_calls
pub mod stops
