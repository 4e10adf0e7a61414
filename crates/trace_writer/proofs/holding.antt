-- The chunk that a writer holds: which one it is, what its payload is, and what of it is published.
pub mod Answering
pub mod HeldLaws
pub mod Holes
pub mod KeptChunks
pub mod Payloads
pub mod Publishing
pub mod Seats
