pub mod Decoding
pub mod Frames
pub mod Framing
pub mod Laws
pub mod Reads
pub mod Values
