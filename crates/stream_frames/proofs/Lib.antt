pub mod CheckLemmas
pub mod FrameLemmas
pub mod FrontLemmas
pub mod LoopLemmas
pub mod PieceLemmas
pub mod ReaderLemmas
pub mod SpelledLemmas
